-- Groups of controllers.
use Rattle.std.specs.Prelude.{◌≡◌, ℕ, zero, suc, ◌+◌, ◌-◌, ◌/◌, ◌%◌, ◌^◌, ◌<◌, Bool, true, false, if◌then◌else◌, not, ◌&&◌, ◌||◌, ◌⊎◌, List, [], ◌∷◌, ◌++◌, ◌==◌, nat_le}

-- bit i of a number
abbrev pub bit : ℕ → ℕ → ℕ
bit g i = g / 2 ^ i % 2

-- A group is a number, and controller i belongs to it where bit i is 1: the one definition of membership.
infix 20 ◌∈◌
abbrev pub ◌∈◌ : ℕ → ℕ → Type 0
i ∈ g = bit g i ≡ 1

-- the same as a test
abbrev pub has : ℕ → ℕ → Bool
has g i = bit g i == 1

-- a yard has 1 to 16 controllers
abbrev pub yard_size : ℕ → Bool
yard_size n = nat_le 1 n && nat_le n 16

-- in words: n is not the size of a yard
abbrev pub NoYardSize : ℕ → Type 0
NoYardSize n = (n ≡ 0) ⊎ (16 < n)

-- the group of all controllers of a yard of n
abbrev pub everyone : ℕ → ℕ
everyone n = 2 ^ n - 1

-- b contains a: every controller of a, of the first n, belongs to b
abbrev pub Within : ℕ → ℕ → ℕ → Type 0
Within n a b = (i : ℕ) → i < n → i ∈ a → i ∈ b

-- the same as a test
abbrev pub within : ℕ → ℕ → ℕ → Bool
within zero a b = true
within (suc i) a b = (not (has a i) || has b i) && within i a b

-- some controller, of the first n, belongs to both groups
abbrev pub Meets : ℕ → ℕ → ℕ → Type 0
Meets n a b = (i : ℕ) × (i < n) × (i ∈ a) × (i ∈ b)

-- the same as a test
abbrev pub meets : ℕ → ℕ → ℕ → Bool
meets zero a b = false
meets (suc i) a b = (has a i && has b i) || meets i a b

-- some controller, of the first n, belongs to all three groups
abbrev pub Shares : ℕ → ℕ → ℕ → ℕ → Type 0
Shares n a b c = (i : ℕ) × (i < n) × (i ∈ a) × (i ∈ b) × (i ∈ c)

-- the same as a test
abbrev pub shares : ℕ → ℕ → ℕ → ℕ → Bool
shares zero a b c = false
shares (suc i) a b c = (has a i && (has b i && has c i)) || shares i a b c

-- the controllers of a group, of the first n, by rising number
abbrev pub members : ℕ → ℕ → List ℕ
members zero g = []
members (suc i) g = if has g i then members i g ++ i ∷ [] else members i g

-- how many controllers, of the first n, belong to a group
abbrev pub count : ℕ → ℕ → ℕ
count zero g = 0
count (suc i) g = count i g + bit g i
