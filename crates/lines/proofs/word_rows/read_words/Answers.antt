use Rattle.std.proofs.Common.{[], ◌∷◌, ◌++◌, take, ap, ◌∙◌, arith, length-append}
use Rattle.std.proofs.lemmas.Result.{err_from_is_err_and}
use Rattle.fields.specs.declared.faults.FieldFault.{FieldFault}
use Rattle.lines.specs.Lines.{SaysWord}
use Rattle.lines.proofs.Answers.{value_said, none_said}
use Rattle.lines.proofs.WordRuns.{one_more, no_word, kept_more}
use Rattle.lines.proofs.word_rows.read_words.Goals as goal

pub returns-in_err-said : goal.returns-in_err-said
returns-in_err-said g c =
    let inv = c.loop-at.invariant in
    let steps = c.in-Some.ensures.steps in
    let p = err_from_is_err_and c.from_residual.result c.from_residual.ensures.1 in
    let none = none_said (SaysWord g.V.Value.says) c.in-Some.field.now _ _ _ _ c.word.ensures c.ok_or.ensures.value c.in_err-said.was in
    rw (p.1, p.2) (no_word g.V.Value.says _ inv.0 c.loop-at.at-iterator.fields c.next.new.self.fields c.in-Some.field.now _ inv.1 steps.1 none.1 (ap (λ (f : FieldFault). f.field) none.0 ∙ steps.0 ∙ inv.2))

pub loop-at-preserved : goal.loop-at-preserved
loop-at-preserved g c =
    let inv = c.loop-at.invariant in
    let steps = c.in-Some.ensures.steps in
    let w = c.in_ok-said.said in (
      inv.0 ++ (w ∷ []),
      one_more g.V.Value.says _ inv.0 c.loop-at.at-iterator.fields c.next.new.self.fields c.in-Some.field.now w inv.1 steps.1
          (value_said (SaysWord g.V.Value.says) _ _ _ _ w c.word.ensures c.ok_or.ensures.value c.in_ok-said.was),
      omega (arith, inv.2, steps.2, length-append inv.0 (w ∷ [])),
      c.push.ensures ∙ ap (λ l. take 17 (l ++ (w ∷ []))) inv.3 ∙ kept_more inv.0 w,
    )
