use Rattle.std.proofs.Common.{arith}
use Rattle.std.proofs.lemmas.Result.{err_from_is_err_and}
use Rattle.lines.proofs.FormFaults.{one_2, one_3}
use Rattle.lines.proofs.readers.read_offer.Goals as goal

pub returns-in_err-value : goal.returns-in_err-value
returns-in_err-value g c =
    let p = err_from_is_err_and c.from_residual.result c.from_residual.ensures.1 in
    let any = g.met.V.Value.any in
    let start = c.after_first-fields.ensures in
    rw (p.1, p.2, ← start.0) (one_2 g.V.Value.says any.0 any.1 any.2 _ _ (omega (arith, c.in_err-value.ensures.0), c.in_err-value.ensures.1))

pub returns-in_err-end : goal.returns-in_err-end
returns-in_err-end g c =
    let p = err_from_is_err_and c.from_residual-in_err-end.result c.from_residual-in_err-end.ensures.1 in
    let start = c.after_first-fields.ensures in
    let one = c.in_ok-value.ensures in
    rw (p.1, p.2, ← start.0) (one_3 g.V.Value.says _ _ one.0 _ _ one.1 one.2 (omega (arith, c.in_err-end.ensures.0), c.in_err-end.ensures.1))
