-- The number and the values of a refusal.
use Rattle.std.specs.Prelude.{◌≡◌, ℕ, List, [], Ok, Err, Result}
use Rattle.duty.specs.declared.refusals.DutyRefusal.{DutyRefusal}
use Rattle.duty.specs.declared.refusals.DutyRefusal.TheVariants.{Unfit}

abbrev pub number : DutyRefusal → ℕ
number Unfit = 4

-- beside its number the refusal has no values
abbrev pub values : DutyRefusal → List ℕ
values Unfit = []

-- the answer is a refusal with this number and these values
abbrev pub Refused : {A : Type 0} → ℕ → List ℕ → Result A DutyRefusal → Type 0
Refused n vs (Ok a) = ⊥
Refused n vs (Err e) = (number e ≡ n) × (values e ≡ vs)
