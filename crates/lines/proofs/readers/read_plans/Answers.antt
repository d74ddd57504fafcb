use Rattle.std.proofs.Common.{arith}
use Rattle.std.proofs.lemmas.Result.{err_from_is_err_and}
use Rattle.lines.proofs.FormFaults.{plans_2, plans_3, plans_4}
use Rattle.lines.proofs.readers.read_plans.Goals as goal

pub returns-in_err-highest : goal.returns-in_err-highest
returns-in_err-highest c =
    let p = err_from_is_err_and c.from_residual.result c.from_residual.ensures.1 in
    let start = c.after_first-fields.ensures in
    rw (p.1, p.2, ← start.0) (plans_2 _ _ (omega (arith, c.in_err-highest.ensures.0), c.in_err-highest.ensures.1))

pub returns-in_err-first : goal.returns-in_err-first
returns-in_err-first c =
    let p = err_from_is_err_and c.from_residual-in_err-first.result c.from_residual-in_err-first.ensures.1 in
    let start = c.after_first-fields.ensures in
    let one = c.in_ok-highest.ensures in
    rw (p.1, p.2, ← start.0) (plans_3 _ _ one.0 _ _ one.1 one.2 (omega (arith, c.in_err-first.ensures.0), c.in_err-first.ensures.1))

pub returns-in_err-end : goal.returns-in_err-end
returns-in_err-end c =
    let p = err_from_is_err_and c.from_residual-in_err-end.result c.from_residual-in_err-end.ensures.1 in
    let start = c.after_first-fields.ensures in
    let one = c.in_ok-highest.ensures in
    let two = c.in_ok-first.ensures in
    rw (p.1, p.2, ← start.0) (plans_4 _ _ _ one.0 two.0 _ _ _ one.1 one.2 two.1 two.2 (omega (arith, c.in_err-end.ensures.0), c.in_err-end.ensures.1))
