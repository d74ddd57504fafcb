-- Rows of words that a line has a controller hear.
use Rattle.std.proofs.Common.{◌≡◌, ℕ, ◌≤◌, List, take, Ok, Err, Option, Result, refl, ◌∙◌, subst, arith, length-take}
use Rattle.std.proofs.lemmas.List.{take_all}
use Rattle.duty.specs.declared.duties.Duty.{Ghosts as Duty}
use Rattle.duty.specs.declared.values.Same.{Ghosts as Same}
use Rattle.survivor.specs.declared.tables.Table.{Table}
use Rattle.engine.specs.Controllers.{runs_on}
use Rattle.engine.specs.Promises.{Hears}
use Rattle.engine.specs.declared.controllers.Controller.{Controller}
use Rattle.engine.specs.declared.controllers.Heard.{Heard}
use Rattle.engine.specs.declared.refusals.RowRefusal.{RowRefusal}
use Rattle.fields.specs.declared.faults.FieldFault.{FieldFault}
use Rattle.lines.specs.Forms.{Read}
use Rattle.lines.specs.Lines.{HearForm, SayWords}
use Rattle.lines.proofs.Departures.{same_form}
use Rattle.answers.specs.declared.replies.Agreed.{Agreed}
use Rattle.answers.specs.declared.replies.Reply.{Reply}
use Rattle.text.specs.declared.yards.Running.{Running}
use Rattle.answers.specs.declared.faults.Fault.{Fault}
use Rattle.answers.specs.declared.faults.Fault.TheVariants as Faults
use Rattle.text.specs.Driving.{table_structure, RowHeard, RowRead}

module _ {D V : Type 0} (G : Duty D V) (K : Same V) (Says : List ℕ → V → Type 0) (agreed : V → Agreed) (running : Controller Table D V → Running) where
  -- a fault of the words kept is one of the words said
  pub no_row : (fs : List (List ℕ)) (e : FieldFault) → Read (HearForm Says) fs (Err e) → Read (SayWords Says) fs (Err e)
  no_row fs e r = (
    r.0,
    r.1,
    same_form (λ gs. (w : List (Option V)) × HearForm Says gs w) (λ gs. (ws : List (Option V)) × SayWords Says gs ws) fs r.0
        (λ gs l. (l.1.0, l.1.1))
        (λ gs l. (take 17 l.0, (l.0, l.1, refl))) r.2,
  )

  -- a row of which 17 words are kept is heard as the whole row is
  pub whole_row : (c c' : Controller Table D V) (ws : List (Option V)) (b : Result (Heard V) RowRefusal) → Hears table_structure G K c (take 17 ws) b c' → Hears table_structure G K c ws b c'
  whole_row c c' ws b h =
      let high : (runs_on table_structure c).size ≤ 16 = c.structure.draft.high in
      let short = length-take 17 ws in
      record {
        structure = h.structure;
        pending = h.pending;
        accepted = λ e. let all : take 17 ws ≡ ws = take_all 17 ws (omega (arith, e, high)) in (subst (λ l. Hears table_structure G K c l b c') all h).accepted e;
        refused = λ ne. h.refused (λ e. ne (omega (arith, e, high, short)));
      }

  pub row_heard : (c c' : Controller Table D V) (fs : List (List ℕ)) (w words : List (Option V)) (r : Result Reply Fault) → HearForm Says fs w → words ≡ w → RowRead G K agreed running (Ok words) c r c' → RowHeard G K Says agreed running c fs r c'
  row_heard c c' fs w words r f are h = (Ok f.0, f.1, (h.0, whole_row c c' f.0 h.0 (subst (λ l. Hears table_structure G K c l h.0 c') (are ∙ f.2) h.1), h.2))

  pub row_unread : (c c' : Controller Table D V) (fs : List (List ℕ)) (e : FieldFault) (r : Result Reply Fault) → Read (HearForm Says) fs (Err e) → r ≡ Err (Faults.Field e) → c' ≡ c → RowHeard G K Says agreed running c fs r c'
  row_unread c c' fs e r f is same = (Err e, no_row fs e f, (is, same))
