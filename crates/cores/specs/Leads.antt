-- Which core leads, and what a sealed table means as a structure.
--
-- `n` is the number of controllers of the yard, and `sets` the list of its survivor sets.
use Rattle.std.specs.Prelude.{◌≡◌, ℕ, zero, suc, ◌^◌, ◌<◌, ◌≤◌, Bool, false, cond, ◌&&◌, ◌||◌, List, [], ◌∷◌, length, Some, None, Option, nat_lt}
use Rattle.structure.specs.Groups.{within, meets, members, count}
use Rattle.structure.specs.Meanings.{Meaning}
use Rattle.cores.specs.Sharing.{NoneEmpty, Inside, MeetsAll, Core, every}

-- The core that leads: of least size, and among the cores of that size the one with the least number.
-- A group of the yard that meets all sets and has the least size is itself a core. So both fields may speak of all groups that
-- meet all sets, and the second only of those of that size.
pub record Leading (n : ℕ) (sets : List ℕ) (g : ℕ) : Type 0 where
  pub core : Core n sets g
  pub smallest : (h : ℕ) → MeetsAll n sets h → count n g ≤ count n h
  pub lowest : (h : ℕ) → MeetsAll n sets h → count n h ≡ count n g → g ≤ h

-- MeetsAll as a test
abbrev pub meets_all : ℕ → List ℕ → ℕ → Bool
meets_all n sets g = every (λ s. meets n s g) sets

-- the better of group k and the best of the groups before it: k if it meets all sets and has fewer controllers
abbrev pub better : ℕ → List ℕ → ℕ → Option ℕ → Option ℕ
better n sets k None = cond (meets_all n sets k) (Some k) None
better n sets k (Some b) = cond (meets_all n sets k && nat_lt (count n k) (count n b)) (Some k) (Some b)

-- the best of the groups 0 to k - 1
abbrev pub best_below : ℕ → List ℕ → ℕ → Option ℕ
best_below n sets zero = None
best_below n sets (suc k) = better n sets k (best_below n sets k)

-- the group, or the empty one
abbrev pub or_empty : Option ℕ → ℕ
or_empty None = 0
or_empty (Some g) = g

-- the best of all groups of the yard, or the empty group if none meets all sets; it is Leading of every Wiring
abbrev pub leading_core : ℕ → List ℕ → ℕ
leading_core n sets = or_empty (best_below n sets (2 ^ n))

-- whether the test holds of some element
abbrev pub any : (ℕ → Bool) → List ℕ → Bool
any test [] = false
any test (x ∷ xs) = test x || any test xs

-- A sealed table as a structure: a group is enough where it contains a survivor set,
-- and the leads are the controllers of the leading core, by rising number.
abbrev pub table : ℕ → List ℕ → Meaning
table n sets = record {
  size = n;
  enough = λ g. any (λ s. within n s g) sets;
  leads = members n (leading_core n sets);
}

-- A yard's sets: 1 to 16 controllers, one set or more, none empty, none with a controller outside the yard.
pub record Wiring (n : ℕ) (sets : List ℕ) : Type 0 where
  pub low : 1 ≤ n
  pub high : n ≤ 16
  pub some : 0 < length sets
  pub peopled : NoneEmpty sets
  pub inside : Inside n sets
