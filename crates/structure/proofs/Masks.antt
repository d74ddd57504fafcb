-- A group made of a decided predicate, and a search below a bound.
use Rattle.std.proofs.Common.{◌≡◌, ℕ, zero, suc, ◌+◌, ◌*◌, ◌/◌, ◌%◌, ◌^◌, ◌<◌, ◌⊎◌, sym, ◌∙◌, subst, inl, inr, pow-suc, arith}
use mathlib.Core.Logic.Dec
use mathlib.Core.Logic.{ite, if_pos}
use native.Mathlib.Decide.{ℕ_discrete}
use Rattle.structure.specs.Groups.{◌∈◌, Meets, Shares}
use Rattle.structure.proofs.Bits.{in_half, half_in, in_odd, odd_in}

pub member? : (g i : ℕ) → Dec (i ∈ g)
member? g i = ℕ_discrete (g / 2 ^ i % 2) 1

-- the group of the i below n at which the predicate holds
abbrev pub mask : {P : ℕ → Type 0} → ((i : ℕ) → Dec (P i)) → ℕ → ℕ
mask P? zero = 0
mask P? (suc n) = ite (P? 0) 1 0 + 2 * mask (λ i. P? (suc i)) n

abbrev bit_of : {A : Type 0} → Dec A → ℕ
bit_of d = ite d 1 0

low : {A : Type 0} (d : Dec A) (m : ℕ) → (bit_of d + 2 * m) % 2 ≡ bit_of d
low (yes a) m = omega arith
low (no a) m = omega arith

high : {A : Type 0} (d : Dec A) (m : ℕ) → (bit_of d + 2 * m) / 2 ≡ m
high (yes a) m = omega arith
high (no a) m = omega arith

small : {A : Type 0} (d : Dec A) → bit_of d < 2
small (yes a) = omega arith
small (no f) = omega arith

bit_yes : {A : Type 0} (d : Dec A) → bit_of d ≡ 1 → A
bit_yes (yes a) e = a
bit_yes (no f) e = absurd (omega arith)

pub mask_in : {P : ℕ → Type 0} (P? : (i : ℕ) → Dec (P i)) (n i : ℕ) → i < n → P i → i ∈ mask P? n
mask_in P? zero i h p = absurd (omega arith)
mask_in P? (suc n) zero h p = odd_in (mask P? (suc n)) (low (P? 0) (mask (λ i. P? (suc i)) n) ∙ if_pos (P? 0) p 1 0)
mask_in P? (suc n) (suc i) h p =
    half_in i (mask P? (suc n)) (subst (λ g. i ∈ g) (sym (high (P? 0) (mask (λ j. P? (suc j)) n))) (mask_in (λ j. P? (suc j)) n i (omega arith) p))

pub in_mask : {P : ℕ → Type 0} (P? : (i : ℕ) → Dec (P i)) (n i : ℕ) → i < n → i ∈ mask P? n → P i
in_mask P? zero i h e = absurd (omega arith)
in_mask P? (suc n) zero h e = bit_yes (P? 0) (sym (low (P? 0) (mask (λ i. P? (suc i)) n)) ∙ in_odd (mask P? (suc n)) e)
in_mask P? (suc n) (suc i) h e =
    in_mask (λ j. P? (suc j)) n i (omega arith) (subst (λ g. i ∈ g) (high (P? 0) (mask (λ j. P? (suc j)) n)) (in_half i (mask P? (suc n)) e))

pub mask_below : {P : ℕ → Type 0} (P? : (i : ℕ) → Dec (P i)) (n : ℕ) → mask P? n < 2 ^ n
mask_below P? zero = omega arith
mask_below P? (suc n) = omega (arith, mask_below (λ j. P? (suc j)) n, small (P? 0), pow-suc 2 n)

-- a place below n, or none
pub seek : {P : ℕ → Type 0} → ((i : ℕ) → Dec (P i)) → (n : ℕ) → ((i : ℕ) × (i < n) × P i) ⊎ ((i : ℕ) → i < n → P i → ⊥)
seek P? zero = inr (λ i h p. omega arith)
seek {P} P? (suc n) = step (P? n) (seek P? n)
  where
    step : Dec (P n) → ((i : ℕ) × (i < n) × P i) ⊎ ((i : ℕ) → i < n → P i → ⊥)
        → ((i : ℕ) × (i < suc n) × P i) ⊎ ((i : ℕ) → i < suc n → P i → ⊥)
    step (yes p) s = inl (n, omega arith, p)
    step (no f) (inl w) = inl (w.0, omega (arith, w.1), w.2)
    step (no f) (inr g) = inr (λ i h p. last i h p (ℕ_discrete i n))
      where
        last : (i : ℕ) → i < suc n → P i → Dec (i ≡ n) → ⊥
        last i h p (yes e) = f (subst P e p)
        last i h p (no d) = g i (omega arith) p

-- two groups have a controller in common, or none
pub meets? : (n a b : ℕ) → Meets n a b ⊎ ((i : ℕ) → i < n → i ∈ a → i ∈ b → ⊥)
meets? n a b = elim (seek (λ i. Dec.and (member? a i) (member? b i)) n) [
  | inl (i, h, (x, y)) ↦ inl (i, h, x, y)
  | inr f ↦ inr (λ i h x y. f i h (x, y))
]

-- three groups have a controller in common, or none
pub shares? : (n a b c : ℕ) → Shares n a b c ⊎ ((i : ℕ) → i < n → i ∈ a → i ∈ b → i ∈ c → ⊥)
shares? n a b c = elim (seek (λ i. Dec.and (member? a i) (Dec.and (member? b i) (member? c i))) n) [
  | inl (i, h, (x, (y, z))) ↦ inl (i, h, x, y, z)
  | inr f ↦ inr (λ i h x y z. f i h (x, (y, z)))
]
