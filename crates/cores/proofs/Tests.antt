-- What the tests over a list of sets say.
use Rattle.std.proofs.Common.{◌≡◌, ℕ, zero, suc, ◌<◌, Bool, true, false, ◌&&◌, ◌||◌, List, [], ◌∷◌, length, get_or, Decides, refl, inl, inr, arith}
use Rattle.std.proofs.lemmas.Bool.{and_parts, and_from, or_cases, or_left, or_right, both_ways}
use Rattle.std.proofs.lemmas.Bool.Decides.{Decides-like}
use Rattle.structure.specs.Groups.{Meets, meets, Shares, shares, Within, within}
use Rattle.structure.proofs.Bits.{meets_decides, shares_decides, within_decides}
use Rattle.cores.specs.Sharing.{ThreesShare, threes_share, MeetsAll, every}
use Rattle.cores.specs.Leads.{meets_all, any}

-- ---- every and any, over a test that decides a predicate
module _ (test : ℕ → Bool) (P : ℕ → Type 0) (each : (x : ℕ) → Decides (test x) (P x)) where
  every_decides : (xs : List ℕ) → Decides (every test xs) ((j : ℕ) → j < length xs → P (get_or xs j 0))
  every_decides [] = (λ e j h. absurd (omega arith), λ f. refl)
  every_decides (x ∷ xs) = join (every_decides xs)
    where
      join : Decides (every test xs) ((j : ℕ) → j < length xs → P (get_or xs j 0))
          → Decides (test x && every test xs) ((j : ℕ) → j < suc (length xs) → P (get_or (x ∷ xs) j 0))
      join rest = (there, λ f. and_from (test x) (every test xs) ((each x).1 (f 0 (omega arith))) (rest.1 (λ j h. f (suc j) (omega arith))))
        where
          there : (test x && every test xs) ≡ true → (j : ℕ) → j < suc (length xs) → P (get_or (x ∷ xs) j 0)
          there e zero h = (each x).0 (and_parts (test x) (every test xs) e).0
          there e (suc j) h = rest.0 (and_parts (test x) (every test xs) e).1 j (omega arith)

  any_decides : (xs : List ℕ) → Decides (any test xs) ((j : ℕ) × (j < length xs) × P (get_or xs j 0))
  any_decides [] = (λ e. absurd (both_ways false refl e), λ (j, h, p). absurd (omega arith))
  any_decides (x ∷ xs) = join (any_decides xs)
    where
      join : Decides (any test xs) ((j : ℕ) × (j < length xs) × P (get_or xs j 0))
          → Decides (test x || any test xs) ((j : ℕ) × (j < suc (length xs)) × P (get_or (x ∷ xs) j 0))
      join rest = (
        λ e. elim (or_cases (test x) (any test xs) e) [
          | inl t ↦ (0, omega arith, (each x).0 t)
          | inr t ↦ let (j, h, p) = rest.0 t in (suc j, omega arith, p)
        ],
        back,
      )
        where
          back : (j : ℕ) × (j < suc (length xs)) × P (get_or (x ∷ xs) j 0) → (test x || any test xs) ≡ true
          back (zero, h, p) = or_left (test x) (any test xs) ((each x).1 p)
          back (suc j, h, p) = or_right (test x) (any test xs) (rest.1 (j, omega arith, p))

-- ---- the tests of specs/
pub meets_all_decides : (n : ℕ) (sets : List ℕ) (g : ℕ) → Decides (meets_all n sets g) (MeetsAll n sets g)
meets_all_decides n sets g = every_decides (λ s. meets n s g) (λ s. Meets n s g) (λ s. meets_decides n s g) sets

pub contains_decides : (n : ℕ) (sets : List ℕ) (g : ℕ) → Decides (any (λ s. within n s g) sets) ((j : ℕ) × (j < length sets) × Within n (get_or sets j 0) g)
contains_decides n sets g = any_decides (λ s. within n s g) (λ s. Within n s g) (λ s. within_decides n s g) sets

pub threes_share_decides : (n : ℕ) (sets : List ℕ) → Decides (threes_share n sets) (ThreesShare n sets)
threes_share_decides n sets =
    Decides-like (threes_share n sets) (λ f a b c ha hb hc. f a ha b hb c hc) (λ f a ha b hb c hc. f a b c ha hb hc)
    (every_decides (λ a. every (λ b. every (λ c. shares n a b c) sets) sets)
    (λ a. (j : ℕ) → j < length sets → (k : ℕ) → k < length sets → Shares n a (get_or sets j 0) (get_or sets k 0))
    (λ a. every_decides (λ b. every (λ c. shares n a b c) sets) (λ b. (k : ℕ) → k < length sets → Shares n a b (get_or sets k 0))
    (λ b. every_decides (λ c. shares n a b c) (λ c. Shares n a b c) (λ c. shares_decides n a b c) sets) sets) sets)
