-- The stages of a slot, as the definitions of the rounds have them.
use Rattle.std.specs.Prelude.{Some, None, Option}
use Rattle.duty.specs.declared.values.Same.{Ghosts as Same}
use Rattle.rounds.specs.Slots.{Stage}
use Rattle.rounds.specs.Slots.Stage.{poll, confirm, lead, closed}
use Rattle.engine.specs.declared.stages.Poll.{Poll}
use Rattle.engine.specs.declared.stages.Confirm.{Confirm}
use Rattle.engine.specs.declared.stages.Lead.{Lead}
use Rattle.engine.specs.declared.stages.Closed.{Closed}
use Rattle.engine.specs.declared.stages.Next as next
use Rattle.engine.specs.Words.{word_code}

abbrev pub poll_stage : {V : Type 0} → Same V → Poll V → Stage
poll_stage K s = poll s.phase.number (K.code s.x)

abbrev pub confirm_stage : {V : Type 0} → Same V → Confirm V → Stage
confirm_stage K s = confirm s.phase.number (K.code s.x) (word_code K s.y)

abbrev pub lead_stage : {V : Type 0} → Same V → Lead V → Stage
lead_stage K s = lead s.phase.number (K.code s.z) s.sure

abbrev pub closed_stage : {V : Type 0} → Same V → Closed V → Stage
closed_stage K s = closed (K.code s.x)

abbrev pub next_stage : {V : Type 0} → Same V → next.Next V → Stage
next_stage K (next.TheVariants.Poll s) = poll_stage K s
next_stage K (next.TheVariants.Closed s) = closed_stage K s

-- the value held
abbrev pub held : {V : Type 0} → next.Next V → V
held (next.TheVariants.Poll s) = s.x
held (next.TheVariants.Closed s) = s.x

-- the value of a slot that is closed, and nothing else
abbrev pub closed_value : {V : Type 0} → next.Next V → Option V
closed_value (next.TheVariants.Poll s) = None
closed_value (next.TheVariants.Closed s) = Some s.x
