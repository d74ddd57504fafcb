-- When survivor sets can be sealed: said by the sets, and said by their cores.
--
-- `n` is the number of controllers of the yard, and `sets` the list of its survivor sets.
use Rattle.std.specs.Prelude.{ℕ, ◌^◌, ◌<◌, Bool, true, ◌&&◌, ◌⊎◌, ◌↔◌, List, [], ◌∷◌, length, slice_index}
use Rattle.structure.specs.Groups.{◌∈◌, Within, Meets, Shares, shares}

-- no set is empty
abbrev pub NoneEmpty : List ℕ → Type 0
NoneEmpty sets = (j : ℕ) → j < length sets → 0 < slice_index sets j

-- no set names a controller outside a yard of n
abbrev pub Inside : ℕ → List ℕ → Type 0
Inside n sets = (j : ℕ) → j < length sets → slice_index sets j < 2 ^ n

-- every three sets, one counting twice or three times if need be, share a controller
abbrev pub ThreesShare : ℕ → List ℕ → Type 0
ThreesShare n sets =
    (a b c : ℕ) → a < length sets → b < length sets → c < length sets → Shares n (slice_index sets a) (slice_index sets b) (slice_index sets c)

-- the group has a controller in common with every set
abbrev pub MeetsAll : ℕ → List ℕ → ℕ → Type 0
MeetsAll n sets g = (j : ℕ) → j < length sets → Meets n (slice_index sets j) g

-- h is a proper part of g: it lies within g and lacks one of its controllers
abbrev pub ProperPart : ℕ → ℕ → ℕ → Type 0
ProperPart n h g = Within n h g × ((i : ℕ) × (i < n) × (i ∈ g) × (i ∈ h → ⊥))

-- A core is a group of the yard that meets every survivor set, while no proper part of it does.
pub record Core (n : ℕ) (sets : List ℕ) (g : ℕ) : Type 0 where
  pub inside : g < 2 ^ n
  pub meets_all : MeetsAll n sets g
  pub minimal : (h : ℕ) → ProperPart n h g → MeetsAll n sets h → ⊥

-- the group contains a core
abbrev pub HasCore : ℕ → List ℕ → ℕ → Type 0
HasCore n sets g = (k : ℕ) × Core n sets k × Within n k g

-- every controller of the yard belongs to one of the three groups and to no other; a group may be empty
pub record Split (n x y z : ℕ) : Type 0 where
  pub inside : (x < 2 ^ n) × (y < 2 ^ n) × (z < 2 ^ n)
  pub placed : (i : ℕ) → i < n → (i ∈ x) ⊎ ((i ∈ y) ⊎ (i ∈ z))
  pub once : (i : ℕ) → i < n → (i ∈ x → i ∈ y → ⊥) × (i ∈ x → i ∈ z → ⊥) × (i ∈ y → i ∈ z → ⊥)

-- however the controllers are split into three groups, one of the groups contains a core
abbrev pub SplitsKeepACore : ℕ → List ℕ → Type 0
SplitsKeepACore n sets = (x y z : ℕ) → Split n x y z → HasCore n sets x ⊎ (HasCore n sets y ⊎ HasCore n sets z)

-- the two wordings say the same of any list of sets
abbrev pub WordingsAgree : Type 0
WordingsAgree = (n : ℕ) (sets : List ℕ) → ThreesShare n sets ↔ SplitsKeepACore n sets

-- whether the test holds of every element
abbrev pub every : (ℕ → Bool) → List ℕ → Bool
every test [] = true
every test (x ∷ xs) = test x && every test xs

-- ThreesShare as a test
abbrev pub threes_share : ℕ → List ℕ → Bool
threes_share n sets = every (λ a. every (λ b. every (λ c. shares n a b c) sets) sets) sets
