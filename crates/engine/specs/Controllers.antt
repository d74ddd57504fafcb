-- A controller, by the stage at which its slot stands.
use Rattle.std.specs.Prelude.{ℕ, ◌+◌, ◌*◌, Bool}
use Rattle.structure.specs.declared.Structure.{Ghosts as Structure}
use Rattle.structure.specs.Meanings.{Meaning}
use Rattle.duty.specs.Codes.{Code}
use Rattle.duty.specs.declared.duties.Duty.{Ghosts as Duty}
use Rattle.duty.specs.declared.values.Same.{Ghosts as Same}
use Rattle.rounds.specs.Slots.{Stage}
use Rattle.rounds.specs.Slots.Stage.{poll, confirm, lead, closed}
use Rattle.engine.specs.declared.controllers.Controller.{Controller}
use Rattle.engine.specs.declared.controllers.Held.{Held}
use Rattle.engine.specs.declared.controllers.Held.TheVariants.{Poll, Confirm, Lead}
use Rattle.engine.specs.Rows.{fits_in}
use Rattle.engine.specs.Words.{word_code}

abbrev pub held_stage : {V : Type 0} → Same V → ℕ → Held V → Stage
held_stage K k (Poll x) = poll k (K.code x)
held_stage K k (Confirm x y) = confirm k (K.code x) (word_code K y)
held_stage K k (Lead z sure) = lead k (K.code z) sure

-- the stage at which its slot stands
abbrev pub stage_of : {S D V : Type 0} → Same V → Controller S D V → Stage
stage_of K c = held_stage K c.phase.number c.held

-- the meaning of its structure
abbrev pub runs_on : {S D V : Type 0} → Structure S → Controller S D V → Meaning
runs_on M c = M.meaning c.structure

-- what fits its duty
abbrev pub fits_on : {S D V : Type 0} → Duty D V → Controller S D V → Code → Bool
fits_on G c = fits_in G c.duty

-- the number of the round that is due, from 1; a closed slot has none
abbrev pub due : Stage → ℕ
due (poll k x) = 3 * k + 1
due (confirm k x y) = 3 * k + 2
due (lead k z sure) = 3 * k + 3
due (closed x) = 0
