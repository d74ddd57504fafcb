-- A checked row: what it means, and what checking promises.
use Rattle.std.specs.Prelude.{◌≡◌, Bool, List, [], length, Ok, Err, Option, Result, ◌≢◌}
use Rattle.structure.specs.declared.Structure.{Ghosts as Structure}
use Rattle.structure.specs.Meanings.{Meaning}
use Rattle.duty.specs.Codes.{Code}
use Rattle.duty.specs.declared.duties.Duty.{Ghosts as Duty}
use Rattle.duty.specs.declared.values.Same.{Ghosts as Same}
use Rattle.rounds.specs.Rows as rounds
use Rattle.rounds.specs.Slots.{Stage, next}
use Rattle.engine.specs.declared.refusals.RowRefusal.{RowRefusal}
use Rattle.engine.specs.declared.rows.Row.{Row}
use Rattle.engine.specs.Refusals.{number, values}
use Rattle.engine.specs.Words.{codes}

-- whether a code fits the duty
abbrev pub fits_in : {D V : Type 0} → Duty D V → D → Code → Bool
fits_in G d = G.fitting (G.settings d)

module _ {S D V : Type 0} {M : Structure S} {G : Duty D V} {K : Same V} where
  -- the meaning of the row's structure
  abbrev pub meaning_of : Row S D V M G K → Meaning
  meaning_of row = M.meaning row.structure.now

  -- the row as it is heard: an unfit value counts as nothing
  abbrev pub heard_row : Row S D V M G K → rounds.Row
  heard_row row = rounds.heard (fits_in G row.duty.now) (codes K row.words.now)

  -- the stage that a row gives, after a stage
  abbrev pub after_row : Row S D V M G K → Stage → Stage
  after_row row stage = next (meaning_of row) stage (heard_row row)

  -- the row has one word for each controller
  abbrev pub Whole : Row S D V M G K → Type 0
  Whole row = length row.words.now ≡ (meaning_of row).size

  -- Checking these words against this structure answers `r`: a row of exactly these parts, which is whole, or a refusal with 3
  -- where there is not one word for each controller.
  abbrev pub Checks : S → D → List (Option V) → Result (Row S D V M G K) RowRefusal → Type 0
  Checks s d words (Ok row) = (row.structure.now ≡ s) × (row.duty.now ≡ d) × (row.words.now ≡ words) × Whole row
  Checks s d words (Err e) = (number e ≡ 3) × (values e ≡ []) × (length words ≢ (M.meaning s).size)
