-- The number and the values of an outcome.
use Rattle.std.specs.Prelude.{ℕ, Bool, true, false, List, [], Some, None, Option}
use Rattle.duty.specs.declared.outcomes.Outcome.{Outcome}
use Rattle.duty.specs.declared.outcomes.Outcome.TheVariants.{Taken, Aside}

-- a value set aside has the number of the reason, one taken has none
abbrev pub number : Outcome → Option ℕ
number Taken = None
number (Aside n) = Some n

-- beside its number an outcome has no values
abbrev pub values : Outcome → List ℕ
values Taken = []
values (Aside n) = []

abbrev pub is_taken : Outcome → Bool
is_taken Taken = true
is_taken (Aside n) = false
