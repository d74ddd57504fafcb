-- What a hearing promises, from what the checked row and its stage say.
use Rattle.std.proofs.Common.{◌≡◌, List, length, Ok, Option, sym, refl, ap, ◌∙◌, subst}
use Rattle.structure.specs.declared.Structure.{Ghosts as Structure}
use Rattle.duty.specs.declared.duties.Duty.{Ghosts as Duty}
use Rattle.duty.specs.declared.values.Same.{Ghosts as Same}
use Rattle.rounds.specs.Rows.{heard}
use Rattle.rounds.specs.Slots.{Stage, next}
use Rattle.engine.specs.declared.controllers.Controller.{Controller}
use Rattle.engine.specs.declared.controllers.Heard.{Heard}
use Rattle.engine.specs.declared.rows.Row.{Row}
use Rattle.engine.specs.Controllers.{stage_of, runs_on, fits_on}
use Rattle.engine.specs.Promises.{Moves, Hears}
use Rattle.engine.specs.Rows.{meaning_of, heard_row, fits_in, Whole}
use Rattle.engine.specs.Words.{codes}

module _ {S D V : Type 0} (M : Structure S) (G : Duty D V) (K : Same V) (c c' : Controller S D V) (words : List (Option V)) (row : Row S D V M G K)
    (parts : (row.structure.now ≡ c.structure) × (row.duty.now ≡ c.duty) × (row.words.now ≡ words) × Whole row)
    (structure : c'.structure ≡ c.structure) (pending : c'.pending ≡ c.pending) where
  -- the row is that of the controller's own structure, duty and words
  given : (s s' : Stage) → stage_of K c ≡ s → s' ≡ next (meaning_of row) s (heard_row row) → next (runs_on M c) (stage_of K c) (heard (fits_on G c) (codes K words)) ≡ s'
  given s s' e f =
      ap (λ u. next (runs_on M c) u (heard (fits_on G c) (codes K words))) e
      ∙ ap (λ u. next (M.meaning u) s (heard (fits_on G c) (codes K words))) (sym parts.0)
      ∙ ap (λ u. next (meaning_of row) s (heard (fits_in G u) (codes K words))) (sym parts.1)
      ∙ ap (λ u. next (meaning_of row) s (heard (fits_in G row.duty.now) (codes K u))) (sym parts.2)
      ∙ sym f

  whole : length words ≡ (runs_on M c).size
  whole = ap length (sym parts.2) ∙ parts.3 ∙ ap (λ u. (M.meaning u).size) parts.0

  pub hears_moved : (s s' : Stage) (a : Heard V) → stage_of K c ≡ s → s' ≡ next (meaning_of row) s (heard_row row) → Moves M G K c s' a c' → Hears M G K c words (Ok a) c'
  hears_moved s s' a e f m = record {
    structure = structure;
    pending = pending;
    accepted = λ _. (a, refl, subst (λ u. Moves M G K c u a c') (sym (given s s' e f)) m);
    refused = λ other. absurd (other whole);
  }
