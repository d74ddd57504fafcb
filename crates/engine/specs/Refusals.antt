-- The refusal of a row: its number, and the values that it carries.
use Rattle.std.specs.Prelude.{◌≡◌, ℕ, List, [], Ok, Err, Result}
use Rattle.engine.specs.declared.refusals.RowRefusal.{RowRefusal}
use Rattle.engine.specs.declared.refusals.RowRefusal.TheVariants.{WrongLength}

abbrev pub number : RowRefusal → ℕ
number WrongLength = 3

-- beside its number the refusal has no values
abbrev pub values : RowRefusal → List ℕ
values WrongLength = []

-- the answer is a refusal with this number and these values
abbrev pub Refused : {A : Type 0} → ℕ → List ℕ → Result A RowRefusal → Type 0
Refused n vs (Ok a) = ⊥
Refused n vs (Err e) = (number e ≡ n) × (values e ≡ vs)
