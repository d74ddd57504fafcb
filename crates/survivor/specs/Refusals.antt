-- The refusals of a draft: the number of each, and the values that it carries.
use Rattle.std.specs.Prelude.{ℕ, List, [], ◌∷◌, Ok, Err, Result}
use Rattle.survivor.specs.declared.refusals.DraftRefusal.{DraftRefusal}
use Rattle.survivor.specs.declared.refusals.DraftRefusal.TheVariants.{YardSize, EmptyOrOutside, Full, Comparable, NoSet, NoneShared}

abbrev pub number : DraftRefusal → ℕ
number YardSize = 1
number EmptyOrOutside = 2
number Full = 11
number (Comparable p) = 12
number NoSet = 13
number (NoneShared p q r) = 14

-- the lowest place for 12, the three places for 14
abbrev pub values : DraftRefusal → List ℕ
values YardSize = []
values EmptyOrOutside = []
values Full = []
values (Comparable p) = p ∷ []
values NoSet = []
values (NoneShared p q r) = p ∷ q ∷ r ∷ []

-- what a call said: nothing where it did its work, else the number and the values of its refusal
abbrev pub said : {A : Type 0} → Result A DraftRefusal → List ℕ
said (Ok a) = []
said (Err e) = number e ∷ values e
