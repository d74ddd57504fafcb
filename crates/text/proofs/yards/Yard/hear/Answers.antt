use Rattle.std.proofs.Common.{Err, Some, ap, ◌∙◌}
use Rattle.std.proofs.lemmas.Result.{err_from_is_err_and}
use Rattle.fields.specs.Values.{PlanText, GrantText}
use Rattle.answers.specs.declared.replies.Agreed.TheVariants as Agreeds
use Rattle.text.specs.declared.yards.Running.TheVariants as Runnings
use Rattle.text.specs.Driving.{book_duty, plan_kind, board_duty, grant_kind, HearsWith}
use Rattle.text.proofs.DraftLines.{there}
use Rattle.text.proofs.DriveLines.{hears_row, hears_none}
use Rattle.text.proofs.yards.Yard.hear.Goals as goal

pub returns-in_err-read_words-in-Some-Plans : goal.returns-in_err-read_words-in-Some-Plans
returns-in_err-read_words-in-Some-Plans c =
    let is = c.in-Some-Plans.is ∙ ap Some c.in-Some-Plans.field-0-is in
    let e = c.in_err-read_words-in-Some-Plans in
    let p = err_from_is_err_and c.from_residual.result c.from_residual.ensures.1 in
    there (HearsWith c.args.rest) _ _ _ _ _ is (hears_none book_duty plan_kind PlanText Agreeds.Plan Runnings.Plans _ c.in-Some-Plans.controller _ e.field-0.0 _ is e.ensures (p.1 ∙ ap Err p.2))

pub returns-in_ok-read_words-in-Some-Plans : goal.returns-in_ok-read_words-in-Some-Plans
returns-in_ok-read_words-in-Some-Plans c =
    let is = c.in-Some-Plans.is ∙ ap Some c.in-Some-Plans.field-0-is in
    let ok = c.in_ok-read_words-in-Some-Plans in
    there (HearsWith c.args.rest) _ _ _ _ _ is (hears_row book_duty plan_kind PlanText Agreeds.Plan Runnings.Plans _ c.in-Some-Plans.controller _ _ ok.field-0 _ _ is ok.ensures c.as_slice.ensures c.hear.ensures)

pub returns-in_err-read_words-in-Some-Board : goal.returns-in_err-read_words-in-Some-Board
returns-in_err-read_words-in-Some-Board c =
    let is = c.in-Some-Board.is ∙ ap Some c.in-Some-Board.field-0-is in
    let e = c.in_err-read_words-in-Some-Board in
    let p = err_from_is_err_and c.from_residual-in_err-read_words-in-Some-Board.result c.from_residual-in_err-read_words-in-Some-Board.ensures.1 in
    there (HearsWith c.args.rest) _ _ _ _ _ is (hears_none board_duty grant_kind GrantText Agreeds.Grant Runnings.Board _ c.in-Some-Board.controller _ e.field-0.0 _ is e.ensures (p.1 ∙ ap Err p.2))

pub returns-in_ok-read_words-in-Some-Board : goal.returns-in_ok-read_words-in-Some-Board
returns-in_ok-read_words-in-Some-Board c =
    let is = c.in-Some-Board.is ∙ ap Some c.in-Some-Board.field-0-is in
    let ok = c.in_ok-read_words-in-Some-Board in
    there (HearsWith c.args.rest) _ _ _ _ _ is (hears_row board_duty grant_kind GrantText Agreeds.Grant Runnings.Board _ c.in-Some-Board.controller _ _ ok.field-0 _ _ is ok.ensures c.as_slice-in-Some-Board.ensures c.hear-in-Some-Board.ensures)
