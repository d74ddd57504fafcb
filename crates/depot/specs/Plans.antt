-- The plan book: which plans fit it, and what a plan does to it.
use Rattle.std.specs.Prelude.{ℕ, Bool, ◌&&◌, nat_le, slice_index}
use Rattle.duty.specs.Codes.{Code}
use Rattle.duty.specs.declared.outcomes.Outcome.{Outcome}
use Rattle.duty.specs.declared.outcomes.Outcome.TheVariants.{Taken}

-- a book's one setting is the highest plan, from 1 to 9,999
abbrev pub in_range : ℕ → Bool
in_range highest = nat_le 1 highest && nat_le highest 9999

-- a book's content is the plan in force: 0, none yet, in a new book
abbrev pub new_book : ℕ
new_book = 0

-- a plan's code is its number
abbrev pub plan_of : Code → ℕ
plan_of plan = slice_index plan 0

-- a plan fits from 1 to the highest
abbrev pub fitting : ℕ → Code → Bool
fitting highest plan = nat_le 1 (plan_of plan) && nat_le (plan_of plan) highest

-- a plan is always taken, and is then in force
abbrev pub step : ℕ → ℕ → Code → ℕ × Outcome
step highest in_force plan = (plan_of plan, Taken)
