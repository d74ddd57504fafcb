-- Drafts: what making one and adding a set answer, as a rule to work out and in words.
--
-- `n` is the number of controllers of the yard, `sets` the sets of the draft, `s` the set to be added.
use Rattle.std.specs.Prelude.{◌≡◌, ℕ, ◌+◌, ◌-◌, ◌^◌, ◌<◌, ◌≤◌, Bool, if◌then◌else◌, ◌||◌, ◌⊎◌, List, [], ◌∷◌, ◌++◌, length, take, Some, None, Ok, Err, Option, Result, ◌==◌, nat_le, slice_index}
use Rattle.structure.specs.Groups.{◌∈◌, Within, within, yard_size, NoYardSize}
use Rattle.survivor.specs.declared.refusals.DraftRefusal.{DraftRefusal}
use Rattle.survivor.specs.declared.refusals.DraftRefusal.TheVariants.{YardSize, EmptyOrOutside, Full, Comparable, NoSet, NoneShared}
use Rattle.survivor.specs.declared.tables.Draft.{Draft}

-- ---- what a draft holds
abbrev pub size_of : Draft → ℕ
size_of d = d.size

-- the sets, in the order of their places
abbrev pub sets_of : Draft → List ℕ
sets_of d = take d.count d.sets

-- ---- places, from 1
abbrev pub Place : List ℕ → ℕ → Type 0
Place sets p = (1 ≤ p) × (p ≤ length sets)

abbrev pub at_place : List ℕ → ℕ → ℕ
at_place sets p = slice_index sets (p - 1)

-- ---- making a draft
-- refused with 1 where n is no yard's size
abbrev pub making : ℕ → List ℕ
making n = if yard_size n then [] else 1 ∷ []

-- in words: why a draft is not made
abbrev pub AgainstMaking : ℕ → DraftRefusal → Type 0
AgainstMaking n YardSize = NoYardSize n
AgainstMaking n EmptyOrOutside = ⊥
AgainstMaking n Full = ⊥
AgainstMaking n (Comparable p) = ⊥
AgainstMaking n NoSet = ⊥
AgainstMaking n (NoneShared p q r) = ⊥

-- the reason for the answer to making one
abbrev pub MadeBecause : ℕ → Result Draft DraftRefusal → Type 0
MadeBecause n (Ok d) = (size_of d ≡ n) × (sets_of d ≡ [])
MadeBecause n (Err e) = AgainstMaking n e

-- ---- adding a set
-- it is empty, or names a controller outside the yard
abbrev pub misplaced : ℕ → ℕ → Bool
misplaced n s = s == 0 || nat_le (2 ^ n) s

-- one of the two contains or equals the other
abbrev pub comparable : ℕ → ℕ → ℕ → Bool
comparable n a b = within n a b || within n b a

-- the lowest place of a set comparable with s, where the first of `sets` has place p
abbrev pub first_comparable : ℕ → ℕ → List ℕ → ℕ → Option ℕ
first_comparable n p [] s = None
first_comparable n p (x ∷ xs) s = if comparable n x s then Some p else first_comparable n (p + 1) xs s

-- 12 and the place, if there is one
abbrev pub refused_at : Option ℕ → List ℕ
refused_at None = []
refused_at (Some p) = 12 ∷ p ∷ []

-- refused with 2 where misplaced, then with 11 where there are 64 sets, then with 12 and the lowest place of a comparable set
abbrev pub adding : ℕ → List ℕ → ℕ → List ℕ
adding n sets s = if misplaced n s then 2 ∷ [] else if nat_le 64 (length sets) then 11 ∷ [] else refused_at (first_comparable n 1 sets s)

-- In words. The set names a controller, and none outside the yard.
abbrev pub WellPlaced : ℕ → ℕ → Type 0
WellPlaced n s = ((i : ℕ) × (i ∈ s)) × ((i : ℕ) → i ∈ s → i < n)

-- one of the two contains or equals the other
abbrev pub AreComparable : ℕ → ℕ → ℕ → Type 0
AreComparable n a b = Within n a b ⊎ Within n b a

-- why a set is taken
pub record Addable (n : ℕ) (sets : List ℕ) (s : ℕ) : Type 0 where
  pub proper : WellPlaced n s
  pub room : length sets < 64
  pub unordered : (p : ℕ) → Place sets p → AreComparable n (at_place sets p) s → ⊥

-- why it is not: the first reason against it
abbrev pub AgainstAdding : ℕ → List ℕ → ℕ → DraftRefusal → Type 0
AgainstAdding n sets s YardSize = ⊥
AgainstAdding n sets s EmptyOrOutside = ((i : ℕ) → i ∈ s → ⊥) ⊎ ((i : ℕ) × (n ≤ i) × (i ∈ s))
AgainstAdding n sets s Full = WellPlaced n s × (length sets ≡ 64)
AgainstAdding n sets s (Comparable p) =
    WellPlaced n s × (length sets < 64) × Place sets p × AreComparable n (at_place sets p) s × ((q : ℕ) → Place sets q → q < p → AreComparable n (at_place sets q) s → ⊥)
AgainstAdding n sets s NoSet = ⊥
AgainstAdding n sets s (NoneShared p q r) = ⊥

-- the reason for the answer, where the draft d is given the set s
abbrev pub AddedBecause : Draft → ℕ → Result (Unit {0}) DraftRefusal → Type 0
AddedBecause d s (Ok u) = Addable (size_of d) (sets_of d) s
AddedBecause d s (Err e) = AgainstAdding (size_of d) (sets_of d) s e

-- what the draft is then: it has the set at its next place, or is as it was
abbrev pub AddedTo : Draft → ℕ → Result (Unit {0}) DraftRefusal → Draft → Type 0
AddedTo d s (Ok u) d' = (size_of d' ≡ size_of d) × (sets_of d' ≡ sets_of d ++ s ∷ [])
AddedTo d s (Err e) d' = d' ≡ d
