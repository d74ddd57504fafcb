-- What always holds of the sets of a draft, besides that none is empty and each lies in the yard.
use Rattle.std.specs.Prelude.{ℕ, ◌<◌, List, length, ◌≢◌, slice_index}
use Rattle.structure.specs.Groups.{Within}

-- no set contains or equals another
abbrev pub Incomparable : ℕ → List ℕ → Type 0
Incomparable n sets = (j k : ℕ) → (j < length sets) × (k < length sets) × (j ≢ k) → Within n (slice_index sets j) (slice_index sets k) → ⊥
