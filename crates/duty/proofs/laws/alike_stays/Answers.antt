use Rattle.duty.proofs.Takings.{alike_stays}
use Rattle.duty.proofs.laws.alike_stays.Goals as goal

pub returns : goal.returns
returns g c = alike_stays g.D.Duty.settings g.D.Duty.content g.D.Duty.fitting g.D.Duty.step
