-- What a line does, and what is answered.
use Rattle.std.specs.Prelude.{◌≡◌, ℕ, ◌+◌, ◌<◌, ◌≤◌, List, [], ◌∷◌, length, Some, None, Ok, Err, Option, Result, ◌≢◌}
use Rattle.fields.specs.Fields.{fields}
use Rattle.lines.specs.Verbs.{verb_text}
use Rattle.lines.specs.declared.verbs.Verb.{Verb}
use Rattle.lines.specs.declared.verbs.Verb.TheVariants as Verbs
use Rattle.answers.specs.Answers.{rendered}
use Rattle.answers.specs.declared.faults.Fault.{Fault}
use Rattle.answers.specs.declared.faults.Fault.TheVariants.{TooLong, Field}
use Rattle.answers.specs.declared.faults.Refusal.{Refusal}
use Rattle.answers.specs.declared.replies.Reply.{Reply}
use Rattle.text.specs.declared.yards.Yard.{Yard}
use Rattle.text.specs.Yards.{counted, Refused}
use Rattle.text.specs.Drafting.{Begins, Adds, Seals}
use Rattle.text.specs.Driving.{OpensPlans, OpensBoard, OffersLine, HearsLine}

-- what a line does, by its first field; `fs` are the fields after it
abbrev pub Obeys : Verb → Yard → List (List ℕ) → Result Reply Fault → Yard → Type 0
Obeys Verbs.Controllers = Begins
Obeys Verbs.Set = Adds
Obeys Verbs.Seal = Seals
Obeys Verbs.Plans = OpensPlans
Obeys Verbs.Board = OpensBoard
Obeys Verbs.Offer = OffersLine
Obeys Verbs.Hear = HearsLine

-- What comes of a line: r is told, and the yard y is y' then. The line's length is looked at first, then its first field, then whether what it needs
-- is there, then its other fields, and then the layer below is called.
pub record Comes (y : Yard) (line : List ℕ) (r : Result Reply Fault) (y' : Yard) : Type 0 where
  pub too_long : 256 < length line → Refused TooLong y r y'
  pub unknown : length line ≤ 256 → ((v : Verb) (fs : List (List ℕ)) → fields line ≢ verb_text v ∷ fs) → Refused (Field (record { field = 1 })) y r y'
  -- of a refused line nothing stays
  pub unchanged : (f : Fault) → r ≡ Err f → y' ≡ y
  pub known : length line ≤ 256 → (v : Verb) (fs : List (List ℕ)) → fields line ≡ verb_text v ∷ fs → Obeys v y fs r y'

-- how many lines are answered
abbrev pub last_line : ℕ
last_line = 1000000

-- a line is counted, and then does what it says: its number, and what came of it; after the last nothing
pub record Counts (y : Yard) (line : List ℕ) (t : Option (ℕ × Result Reply Fault)) (y' : Yard) : Type 0 where
  pub told : y.lines < last_line → (r : Result Reply Fault) × Comes (counted y) line r y' × (t ≡ Some (y.lines + 1, r))
  pub over : last_line ≤ y.lines → (t ≡ None) × (y' ≡ y)

-- a refusal is told with the number of its line
abbrev pub numbered : ℕ → Result Reply Fault → Result Reply Refusal
numbered n (Ok a) = Ok a
numbered n (Err f) = Err (record { line = n; fault = f })

-- The yard y is given a line, tells t, and is y' then.
pub record TakesLine (y : Yard) (line : List ℕ) (t : Option (Result Reply Refusal)) (y' : Yard) : Type 0 where
  -- the line is counted, and what came of it is told
  pub told : y.lines < last_line → (r : Result Reply Fault) × Comes (counted y) line r y' × (t ≡ Some (numbered (y.lines + 1) r))
  -- a line after the last alters nothing, and nothing is told
  pub over : last_line ≤ y.lines → (t ≡ None) × (y' ≡ y)

-- The same, where the yard answers these bytes.
pub record Answered (y : Yard) (line : List ℕ) (bytes : List ℕ) (y' : Yard) : Type 0 where
  -- the answer shows the number of the line and what came of it
  pub told : y.lines < last_line → (r : Result Reply Fault) × Comes (counted y) line r y' × (bytes ≡ rendered (y.lines + 1) r)
  -- a line after the last gives no bytes and alters nothing
  pub over : last_line ≤ y.lines → (bytes ≡ []) × (y' ≡ y)
  pub few : length bytes ≤ 64
