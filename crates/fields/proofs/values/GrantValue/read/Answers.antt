use Rattle.fields.specs.Readings.{grant_rest, grant_amps, grant_bay}
use Rattle.fields.proofs.values.GrantValue.read.Goals as goal

pub returns-in_err-number : goal.returns-in_err-number
returns-in_err-number c = rw c.from_residual-in_err-number.ensures (λ g w. c.in_err-number.ensures.reads g.bay (grant_bay _ _ _ g c.cut.ensures w))

pub returns-in_err-amps : goal.returns-in_err-amps
returns-in_err-amps c = rw c.from_residual.ensures (λ g w. grant_rest _ _ _ g c.cut.ensures w c.in_err-amps.was)

pub returns-in_err-number-2 : goal.returns-in_err-number-2
returns-in_err-number-2 c = rw c.from_residual-in_err-number-2.ensures (λ g w. c.in_err-number-2.ensures.reads g.amps (grant_amps _ _ _ g c.cut.ensures w _ c.in_ok-amps.was))
