-- What a yard holds, and how a line changes it.
use Rattle.std.specs.Prelude.{◌≡◌, ℕ, ◌+◌, List, Some, None, Ok, Err, Option, Result}
use Rattle.survivor.specs.declared.tables.Draft.{Draft}
use Rattle.survivor.specs.declared.tables.Table.{Table}
use Rattle.fields.specs.declared.faults.FieldFault.{FieldFault}
use Rattle.lines.specs.Forms.{Read}
use Rattle.answers.specs.declared.faults.Fault.{Fault}
use Rattle.answers.specs.declared.faults.Fault.TheVariants.{Field, Absent}
use Rattle.answers.specs.declared.replies.Reply.{Reply}
use Rattle.text.specs.declared.yards.Running.{Running}
use Rattle.text.specs.declared.yards.Yard.{Yard}

-- a new yard: no line was answered, and nothing stands
abbrev pub new_yard : Yard
new_yard = record { lines = 0; draft = None; table = None; running = None }

-- the same with one line more
abbrev pub counted : Yard → Yard
counted y = record { lines = y.lines + 1; draft = y.draft; table = y.table; running = y.running }

-- a draft and nothing else
abbrev pub begun : Yard → Draft → Yard
begun y d = record { lines = y.lines; draft = Some d; table = None; running = None }

-- another draft, table or controller in place of any that stood, and all else as it was
abbrev pub with_draft : Yard → Draft → Yard
with_draft y d = record { lines = y.lines; draft = Some d; table = y.table; running = y.running }

abbrev pub with_table : Yard → Table → Yard
with_table y t = record { lines = y.lines; draft = y.draft; table = Some t; running = y.running }

abbrev pub with_running : Yard → Running → Yard
with_running y c = record { lines = y.lines; draft = y.draft; table = y.table; running = Some c }

-- the line is refused with this fault, and the yard stays as it was
abbrev pub Refused : Fault → Yard → Result Reply Fault → Yard → Type 0
Refused f y r y' = (r ≡ Err f) × (y' ≡ y)

-- the line is done with this reply, and the yard is the new one
abbrev pub DoneWith : Reply → Yard → Result Reply Fault → Yard → Type 0
DoneWith a new r y' = (r ≡ Ok a) × (y' ≡ new)

-- 16: what the line needs is not there; else it goes on with what is
abbrev pub Needs : {X : Type 0} → Option X → (X → Yard → Result Reply Fault → Yard → Type 0) → Yard → Result Reply Fault → Yard → Type 0
Needs None then y r y' = Refused Absent y r y'
Needs (Some x) then y r y' = then x y r y'

-- once the fields are read: the first faulty, missing or surplus one is told; else it goes on with what they say
abbrev pub AfterReading : {A : Type 0} → Result A FieldFault → (A → Yard → Result Reply Fault → Yard → Type 0) → Yard → Result Reply Fault → Yard → Type 0
AfterReading (Err e) then y r y' = Refused (Field e) y r y'
AfterReading (Ok a) then y r y' = then a y r y'

-- the fields after the first are read by their form, and then so
abbrev pub ReadsThen : {A : Type 0} → (List (List ℕ) → A → Type 0) → List (List ℕ) → (A → Yard → Result Reply Fault → Yard → Type 0) → Yard → Result Reply Fault → Yard → Type 0
ReadsThen Form fs then y r y' = (a : Result _ FieldFault) × Read Form fs a × AfterReading a then y r y'
