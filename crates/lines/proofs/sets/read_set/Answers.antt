use Rattle.std.proofs.Common.{[], ◌∷◌, ◌++◌, ap, ◌∙◌, arith, length-append}
use Rattle.std.proofs.lemmas.Result.{err_from_is_err_and}
use Rattle.fields.specs.declared.faults.FieldFault.{FieldFault}
use Rattle.lines.specs.Lines.{NumberFrom}
use Rattle.lines.proofs.Answers.{value_said, none_said}
use Rattle.lines.proofs.Ascents.{one_more, no_number}
use Rattle.lines.proofs.sets.read_set.Goals as goal

pub returns-in_err-controller : goal.returns-in_err-controller
returns-in_err-controller c =
    let inv = c.loop-at.invariant in
    let steps = c.in-Some.ensures.steps in
    let p = err_from_is_err_and c.from_residual.result c.from_residual.ensures.1 in
    let none = none_said (NumberFrom c.loop-at.low) c.in-Some.field.now _ _ _ _ c.number_from.ensures c.ok_or.ensures.value c.in_err-controller.was in
    rw (p.1, p.2) (no_number _ inv.0 _ _ c.loop-at.at-iterator.fields c.next.new.self.fields c.in-Some.field.now _ inv.1 steps.1 none.1 (ap (λ (f : FieldFault). f.field) none.0 ∙ steps.0 ∙ inv.2))

pub loop-at-preserved : goal.loop-at-preserved
loop-at-preserved c =
    let inv = c.loop-at.invariant in
    let steps = c.in-Some.ensures.steps in
    let n = c.in_ok-controller.controller in
    let more = one_more _ inv.0 _ _ c.loop-at.at-iterator.fields c.next.new.self.fields c.in-Some.field.now n inv.1 steps.1 (value_said (NumberFrom c.loop-at.low) _ _ _ _ n c.number_from.ensures c.ok_or.ensures.value c.in_ok-controller.was) in
    (inv.0 ++ (n ∷ []), rw c.with-group.ensures more, omega (arith, inv.2, steps.2, length-append inv.0 (n ∷ [])))
