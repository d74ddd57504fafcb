-- What an answer reads. A tab is byte 9, a line feed byte 10.
use Rattle.std.specs.Prelude.{◌≡◌, ℕ, ◌+◌, ◌≤◌, Bool, true, false, List, [], ◌∷◌, ◌++◌, length, Ok, Err, codes, Result}
use Rattle.std.specs.List.{flat_map}
use Rattle.duty.specs.Outcomes.{is_taken}
use Rattle.fields.specs.Numbers.{numeral}
use Rattle.fields.specs.Values.{plan_text, grant_text}
use Rattle.survivor.specs.Seals.{meaning_of}
use Rattle.answers.specs.Faults.{number, detail}
use Rattle.answers.specs.declared.answers.Answer.{Answer}
use Rattle.answers.specs.declared.faults.Fault.{Fault}
use Rattle.answers.specs.declared.replies.Agreed.{Agreed}
use Rattle.answers.specs.declared.replies.Agreed.TheVariants.{Plan, Grant}
use Rattle.answers.specs.declared.replies.Reply.{Reply}
use Rattle.answers.specs.declared.replies.Reply.TheVariants.{Done, Sealed, Round, Closed}

-- the bytes of an answer
abbrev pub shown : Answer → List ℕ
shown a = a.text.bytes

-- what an answer has room for: with the text added to what is shown there is this, where all of it fits
abbrev pub Adds : List ℕ → List ℕ → List ℕ → Type 0
Adds before text after = length before + length text ≤ 64 → after ≡ before ++ text

-- a tab, and the numeral of a number
abbrev pub after_tab : ℕ → List ℕ
after_tab n = 9 ∷ numeral n

-- each lead after a tab
abbrev pub leads_text : List ℕ → List ℕ
leads_text leads = flat_map after_tab leads

-- the text of an agreed value
abbrev pub value_text : Agreed → List ℕ
value_text (Plan p) = plan_text p
value_text (Grant g) = grant_text g

-- whether a value was taken or set aside
abbrev pub taken_text : Bool → List ℕ
taken_text true = codes "taken"
taken_text false = codes "aside"

-- the words of a reply
abbrev pub reply_text : Reply → List ℕ
reply_text Done = codes "ok"
reply_text (Sealed t) = codes "sealed" ++ leads_text (meaning_of t).leads
reply_text (Round k) = codes "round" ++ after_tab k
reply_text (Closed v o) = codes "closed" ++ (9 ∷ (value_text v ++ (9 ∷ taken_text (is_taken o))))

-- the words of a fault
abbrev pub fault_text : Fault → List ℕ
fault_text f = codes "refused" ++ (after_tab (number f) ++ after_tab (detail f))

-- the words of what came of a line
abbrev pub came_text : Result Reply Fault → List ℕ
came_text (Ok r) = reply_text r
came_text (Err f) = fault_text f

-- the line of an answer: the number of the line that it answers, a tab, the words, and a line feed
abbrev pub rendered : ℕ → Result Reply Fault → List ℕ
rendered line came = numeral line ++ (9 ∷ (came_text came ++ (10 ∷ [])))
