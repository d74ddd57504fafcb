use Rattle.std.proofs.Common.{sym, ◌∙◌, arith}
use Rattle.std.proofs.lemmas.Bool.{le-ltb}
use Rattle.structure.proofs.Bits.{has_none}
use Rattle.structure.proofs.belongs.Goals as goal

pub returns-else-controller-lt16 : goal.returns-else-controller-lt16
returns-else-controller-lt16 c =
    le-ltb c.args.controller 16 (omega arith) ∙ sym (has_none 16 c.args.group c.args.controller (omega arith) (omega arith))
