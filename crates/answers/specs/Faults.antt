-- The number and the values of a fault, and the detail that is told.
use Rattle.std.specs.Prelude.{ℕ, cond, ◌||◌, List, [], ◌∷◌, ◌==◌}
use Rattle.depot.specs.Refusals as settings
use Rattle.duty.specs.Refusals as duty
use Rattle.engine.specs.Refusals as row
use Rattle.survivor.specs.Refusals as draft
use Rattle.answers.specs.declared.faults.Fault.{Fault}
use Rattle.answers.specs.declared.faults.Fault.TheVariants.{TooLong, Field, Absent, Draft, Settings, Duty, Row}

-- a line that is not in form has 7, one that needs what is not there 16, and the layers below number their own
abbrev pub number : Fault → ℕ
number TooLong = 7
number (Field e) = 7
number Absent = 16
number (Draft e) = draft.number e
number (Settings e) = settings.number e
number (Duty e) = duty.number e
number (Row e) = row.number e

-- the field of a faulty one, and what the refusal of a layer below carries
abbrev pub values : Fault → List ℕ
values TooLong = []
values (Field e) = e.field ∷ []
values Absent = []
values (Draft e) = draft.values e
values (Settings e) = settings.values e
values (Duty e) = duty.values e
values (Row e) = row.values e

-- the first of some values, or 0 without one
abbrev pub first_of : List ℕ → ℕ
first_of [] = 0
first_of (v ∷ vs) = v

-- the one number that is told beside a fault's own: the field for 7, which is 0 where the line is too long; the lowest place for 12; else 0
abbrev pub detail : Fault → ℕ
detail f = cond (number f == 7 || number f == 12) (first_of (values f)) 0
