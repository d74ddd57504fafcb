-- The refusals of the threshold structure: the number of each, and the values that it carries.
use Rattle.std.specs.Prelude.{ℕ, List, [], ◌∷◌, Ok, Err, Result}
use Rattle.threshold.specs.declared.refusals.ThresholdRefusal.{ThresholdRefusal}
use Rattle.threshold.specs.declared.refusals.ThresholdRefusal.TheVariants.{YardSize, TooManyFaults}

abbrev pub number : ThresholdRefusal → ℕ
number YardSize = 1
number TooManyFaults = 5

abbrev pub values : ThresholdRefusal → List ℕ
values YardSize = []
values TooManyFaults = []

-- what a call said: nothing where it did its work, else the number and the values of its refusal
abbrev pub said : {A : Type 0} → Result A ThresholdRefusal → List ℕ
said (Ok a) = []
said (Err e) = number e ∷ values e
