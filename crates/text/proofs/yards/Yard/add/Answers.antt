use Rattle.std.proofs.Common.{Ok, Err, Some, sym, refl, ap, ◌∙◌}
use Rattle.std.specs.Option.{option_copied_mut}
use Rattle.std.proofs.lemmas.Result.{err_from_is_err_and}
use Rattle.text.proofs.DraftLines.{adds, was_there}
use Rattle.text.proofs.yards.Yard.add.Goals as goal

pub returns-in_err-add : goal.returns-in_err-add
returns-in_err-add c =
    let y = c.args.self.now in
    let there = sym c.as_mut.ensures.value ∙ ap option_copied_mut (was_there _ _ _ _ c.ok_or.ensures.value c.in_ok-draft.was) in
    let p = err_from_is_err_and c.from_residual-in_err-add.result c.from_residual-in_err-add.ensures.1 in
    let e = c.in_err-add.ensures in
    adds _ _ _ _ _ _ _ (Err c.in_err-add.field-0.0) _ there c.in_ok-read_set.ensures (was_there _ _ _ _ c.ok_or-2.ensures.value c.in_ok-set.was) (record { answer = e.answer; reason = e.reason; after = e.after }) (p.1 ∙ ap Err p.2, ap (λ o. record { lines = y.lines; draft = o; table = y.table; running = y.running }) (ap Some e.after ∙ sym there))

pub returns : goal.returns
returns c =
    let there = sym c.as_mut.ensures.value ∙ ap option_copied_mut (was_there _ _ _ _ c.ok_or.ensures.value c.in_ok-draft.was) in
    let e = c.in_ok-add.ensures in
    adds _ _ _ _ _ _ _ (Ok tt) _ there c.in_ok-read_set.ensures (was_there _ _ _ _ c.ok_or-2.ensures.value c.in_ok-set.was) (record { answer = e.answer; reason = e.reason; after = e.after }) (refl, refl)
