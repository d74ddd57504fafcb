-- Calls of `take` on one duty, one after another.
use Rattle.std.specs.Prelude.{◌≡◌, Bool, false, if◌then◌else◌, List, [], ◌∷◌, map, Ok, Err, Result}
use Rattle.duty.specs.Codes.{Code}
use Rattle.duty.specs.declared.outcomes.Outcome.{Outcome}
use Rattle.duty.specs.declared.refusals.DutyRefusal.{DutyRefusal}
use Rattle.duty.specs.Outcomes.{is_taken}
use Rattle.duty.specs.Taking.{Takes}
use Rattle.duty.specs.Steps.{after, taken}

-- the code of the value given, and the answer
pub record Call : Type 0 where
  pub code : Code
  pub answer : Result Outcome DutyRefusal

abbrev pub codes : List Call → List Code
codes calls = map (λ call. call.code) calls

abbrev pub answers : List Call → List (Result Outcome DutyRefusal)
answers calls = map (λ call. call.answer) calls

abbrev pub answers_taken : Result Outcome DutyRefusal → Bool
answers_taken (Ok o) = is_taken o
answers_taken (Err e) = false

-- the values that were answered as taken, in their order
abbrev pub taken_in : List Call → List Code
taken_in [] = []
taken_in (call ∷ calls) = if answers_taken call.answer then call.code ∷ taken_in calls else taken_in calls

module _
    {D Settings Content : Type 0}
    (settings : D → Settings)
    (content : D → Content)
    (fitting : Settings → Code → Bool)
    (step : Settings → Content → Code → Content × Outcome)
  where
    -- The calls lead from the duty `d` to the duty `e`: each does exactly what `take` promises, on what the one before left.
    abbrev pub Leads : D → List Call → D → Type 0
    Leads d [] e = e ≡ d
    Leads d (call ∷ calls) e = (m : D) × Takes settings content fitting step d call.code call.answer m × Leads m calls e

    -- `P taken content` holds whatever values the duty is given, in whatever order: of every run of its steps, with the
    -- values that the steps take, and of all calls of `take`, with the values that they answer as taken
    pub record Always (d : D) (P : List Code → Content → Type 0) : Type 0 where
      pub by_steps : (values : List Code) → P (taken fitting step (settings d) (content d) values) (after fitting step (settings d) (content d) values)
      pub by_calls : (calls : List Call) (e : D) → Leads d calls e → P (taken_in calls) (content e)
