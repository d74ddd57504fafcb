use Rattle.structure.proofs.Bits.{and_test}
use Rattle.structure.proofs.contains.Goals as goal

pub returns : goal.returns
returns c n l = and_test n c.args.part c.args.group l
