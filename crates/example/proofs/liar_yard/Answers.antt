use Rattle.example.proofs.Worked.{liar_yard}
use Rattle.example.proofs.liar_yard.Goals as goal

pub returns : goal.returns
returns c = liar_yard
