-- Groups as numbers, bit by bit: what the operators on numbers say of membership.
use Rattle.std.proofs.Common.{◌≡◌, ℕ, zero, suc, ◌*◌, ◌/◌, ◌%◌, ◌^◌, ◌<◌, ◌≤◌, min, false, not, ◌&&◌, ◌||◌, eqb, Decides, sym, refl, ap, ◌∙◌, inl, inr, suc-le-suc, pow-suc, div-one, one-add, arith, pow_mono}
use native.Mathlib.Nat.{div-eq_of_lt, zero-div}
use lib.Bits.{bit_and, and_step, and_zero_l}
use Rattle.std.proofs.lemmas.Nat.{pow_pos, shr-shr, and_shr, and_le_l, and_mask, mod_below}
use Rattle.std.proofs.lemmas.Bool.{cases_lt, cases_eq, cases_Bool, ne_eqb, eqb-true, eq-eqb, or_cases, or_left, or_right, not-true, not_from_false, both_ways}
use Rattle.std.proofs.lemmas.Bool.Decides.{Decides-eqb, Decides-and, Decides-like, Decides-below_and, Decides-below_or, same_from_decides}
use Rattle.structure.specs.Groups.{◌∈◌, has, everyone, Within, within, Meets, meets, Shares, shares}

-- ---- the tests
pub has_decides : (g i : ℕ) → Decides (has g i) (i ∈ g)
has_decides g i = Decides-eqb (g / 2 ^ i % 2) 1

pub within_decides : (n a b : ℕ) → Decides (within n a b) (Within n a b)
within_decides n a b = Decides-below_and (λ i. not (has a i) || has b i) (λ i. i ∈ a → i ∈ b) (λ k. within k a b) each refl (λ _. refl) n
  where
    each : (i : ℕ) → Decides (not (has a i) || has b i) (i ∈ a → i ∈ b)
    each i = (
      λ e m. elim (or_cases (not (has a i)) (has b i) e) [
        | inl f ↦ absurd (both_ways (has a i) (not-true (has a i) f) ((has_decides a i).1 m))
        | inr t ↦ (has_decides b i).0 t
      ],
      λ h. elim (cases_Bool (has a i)) [
        | inl t ↦ or_right (not (has a i)) (has b i) ((has_decides b i).1 (h ((has_decides a i).0 t)))
        | inr f ↦ or_left (not (has a i)) (has b i) (not_from_false (has a i) f)
      ],
    )

pub meets_decides : (n a b : ℕ) → Decides (meets n a b) (Meets n a b)
meets_decides n a b =
    let found = Decides-below_or (λ i. has a i && has b i) (λ i. (i ∈ a) × (i ∈ b)) (λ k. meets k a b)
    (λ i. Decides-and (has a i) (has b i) (has_decides a i) (has_decides b i)) refl (λ _. refl) n in
    Decides-like (meets n a b) (λ (i, h, (x, y)). (i, h, x, y)) (λ (i, h, x, y). (i, h, (x, y))) found

pub shares_decides : (n a b c : ℕ) → Decides (shares n a b c) (Shares n a b c)
shares_decides n a b c =
    let found = Decides-below_or (λ i. has a i && (has b i && has c i)) (λ i. (i ∈ a) × ((i ∈ b) × (i ∈ c))) (λ k. shares k a b c)
    (λ i. Decides-and (has a i) (has b i && has c i) (has_decides a i) (Decides-and (has b i) (has c i) (has_decides b i) (has_decides c i))) refl (λ _. refl) n in
    Decides-like (shares n a b c) (λ (i, h, (x, (y, z))). (i, h, x, y, z)) (λ (i, h, x, y, z). (i, h, (x, (y, z)))) found

-- ---- the bits of halves
half_below : (n a : ℕ) → a < 2 ^ suc n → a / 2 < 2 ^ n
half_below n a l = let e : 2 ^ suc n ≡ 2 ^ n * 2 = pow-suc 2 n in omega arith

half_bit : (i a : ℕ) → a / 2 / 2 ^ i ≡ a / 2 ^ suc i
half_bit i a = shr-shr a 1 i ∙ ap (λ k. a / 2 ^ k) (one-add i)

pub in_half : (i a : ℕ) → suc i ∈ a → i ∈ a / 2
in_half i a p = rw (half_bit i a) p

pub half_in : (i a : ℕ) → i ∈ a / 2 → suc i ∈ a
half_in i a p = rw (sym (half_bit i a)) p

pub in_odd : (a : ℕ) → 0 ∈ a → a % 2 ≡ 1
in_odd a p = rw div-one at p

pub odd_in : (a : ℕ) → a % 2 ≡ 1 → 0 ∈ a
odd_in a e = rw div-one e

-- ---- who is in a group below a power of two
pub none_in : (i : ℕ) → i ∈ 0 → ⊥
none_in i p = let z : 0 / 2 ^ i ≡ 0 = zero-div (2 ^ i) in omega (arith, rw z at p)

pub in_below : (n g i : ℕ) → g < 2 ^ n → i ∈ g → i < n
in_below n g i l p = elim (cases_lt i n) [
  | inl h ↦ h
  | inr h ↦
      let m : 2 ^ n ≤ 2 ^ i = pow_mono h in
      let z : g / 2 ^ i ≡ 0 = div-eq_of_lt (omega arith) in
      absurd (omega (arith, rw z at p))
]

pub has_none : (n g i : ℕ) → g < 2 ^ n → n ≤ i → has g i ≡ false
has_none n g i l h = ne_eqb (g / 2 ^ i % 2) 1 (λ p. omega (arith, in_below n g i l p))

-- a group that is not empty has a controller
pub some_in : (n g : ℕ) → g < 2 ^ n → 0 < g → (i : ℕ) × (i < n) × (i ∈ g)
some_in zero g l p = absurd (omega arith)
some_in (suc n) g l p = elim (cases_eq (g % 2) 1) [
  | inl e ↦ (0, omega arith, odd_in g e)
  | inr ne ↦
      let r : (i : ℕ) × (i < n) × (i ∈ g / 2) = some_in n (g / 2) (half_below n g l) (omega arith) in
      (suc r.0, suc-le-suc r.1, half_in r.0 g r.2)
]

-- a number of 2 ^ n or more has a controller from n on
pub high_in : (n g : ℕ) → 2 ^ n ≤ g → (i : ℕ) × (n ≤ i) × (i ∈ g)
high_in zero g l = let (i, _, m) = some_in g g (below_pow g) (omega arith) in (i, omega arith, m)
  where
    below_pow : (k : ℕ) → k < 2 ^ k
    below_pow zero = omega arith
    below_pow (suc k) = omega (arith, below_pow k, pow-suc 2 k)
high_in (suc n) g l = let (i, h, m) = high_in n (g / 2) (omega (arith, pow-suc 2 n)) in (suc i, omega arith, half_in i g m)

-- ---- `&` is the group of those in both
and_bit : (a b i : ℕ) → bit_and a b / 2 ^ i % 2 ≡ min (a / 2 ^ i % 2) (b / 2 ^ i % 2)
and_bit a b i = ap (λ x. x % 2) (and_shr a b i) ∙ omega (arith, and_step (a / 2 ^ i) (b / 2 ^ i))

pub and_in : (a b i : ℕ) → i ∈ a → i ∈ b → i ∈ bit_and a b
and_in a b i x y = omega (arith, and_bit a b i)

pub in_and : (a b i : ℕ) → i ∈ bit_and a b → (i ∈ a) × (i ∈ b)
in_and a b i e = (omega (arith, and_bit a b i), omega (arith, and_bit a b i))

-- two groups have a controller in common exactly where `a & b` is not 0
pub meets_and : (n a b : ℕ) → Meets n a b → 0 < bit_and a b
meets_and n a b (i, l, x, y) = elim (cases_eq (bit_and a b) 0) [
  | inl z ↦ absurd (none_in i (rw z at (and_in a b i x y)))
  | inr ne ↦ omega arith
]

pub and_meets : (n a b : ℕ) → a < 2 ^ n → 0 < bit_and a b → Meets n a b
and_meets n a b l p =
    let m = some_in n (bit_and a b) (omega (arith, and_le_l a b)) p in
    let both = in_and a b m.0 m.2 in
    (m.0, m.1, both.0, both.1)

-- three groups, where `a & b & c` is not 0
pub shares_and : (n a b c : ℕ) → Shares n a b c → 0 < bit_and (bit_and a b) c
shares_and n a b c (i, l, x, y, z) = meets_and n (bit_and a b) c (i, l, and_in a b i x y, z)

pub and_shares : (n a b c : ℕ) → a < 2 ^ n → 0 < bit_and (bit_and a b) c → Shares n a b c
and_shares n a b c l p =
    let (i, k, xy, z) = and_meets n (bit_and a b) c (omega (arith, and_le_l a b)) p in
    let both = in_and a b i xy in
    (i, k, both.0, both.1, z)

-- b contains a exactly where `a & b` is a
and_within : (n a b : ℕ) → bit_and a b ≡ a → Within n a b
and_within n a b e i h p = (in_and a b i (rw e p)).1

within_and : (n a b : ℕ) → a < 2 ^ n → Within n a b → bit_and a b ≡ a
within_and zero a b l w = let z : a ≡ 0 = omega arith in rw z (and_zero_l b)
within_and (suc n) a b l w =
    let rest : bit_and (a / 2) (b / 2) ≡ a / 2 = within_and n (a / 2) (b / 2) (half_below n a l) (λ i k p. in_half i b (w (suc i) (suc-le-suc k) (half_in i a p))) in
    elim (cases_eq (a % 2) 1) [
      | inl e ↦ let f = in_odd b (w 0 (omega arith) (odd_in a e)) in and_step a b ∙ rw rest (omega arith)
      | inr ne ↦ and_step a b ∙ rw rest (omega arith)
    ]

pub and_decides : (n a b : ℕ) → a < 2 ^ n → Decides (eqb (bit_and a b) a) (Within n a b)
and_decides n a b l = (
  λ e. and_within n a b (eqb-true (bit_and a b) a e),
  λ w. eq-eqb (bit_and a b) a (within_and n a b l w),
)

pub and_test : (n a b : ℕ) → a < 2 ^ n → eqb (bit_and a b) a ≡ within n a b
and_test n a b l = same_from_decides (eqb (bit_and a b) a) (within n a b) (and_decides n a b l) (within_decides n a b)

-- ---- the group of all
pub everyone_has : (n i : ℕ) → i < n → i ∈ everyone n
everyone_has zero i h = absurd (omega arith)
everyone_has (suc n) zero h = odd_in (everyone (suc n)) (let p = pow_pos n in let e = pow-suc 2 n in omega arith)
everyone_has (suc n) (suc i) h =
    let e : everyone (suc n) / 2 ≡ everyone n = let p = pow_pos n in let e = pow-suc 2 n in omega arith in
    half_in i (everyone (suc n)) (rw e (everyone_has n i (omega arith)))

pub everyone_below : (n : ℕ) → everyone n < 2 ^ n
everyone_below n = let p = pow_pos n in omega arith

-- a group without the controllers from n on
pub cut : ℕ → ℕ → ℕ
cut n g = bit_and g (everyone n)

pub cut_below : (n g : ℕ) → cut n g < 2 ^ n
unfolding cut
cut_below n g = rw (and_mask g n) (mod_below g (2 ^ n) (pow_pos n))

pub in_cut : (n g i : ℕ) → i < n → i ∈ g → i ∈ cut n g
unfolding cut
in_cut n g i l p = and_in g (everyone n) i p (everyone_has n i l)

pub cut_in : (n g i : ℕ) → i ∈ cut n g → i ∈ g
unfolding cut
cut_in n g i p = (in_and g (everyone n) i p).0

-- groups below 2 ^ n with the same controllers are one
pub same_group : (n a b : ℕ) → a < 2 ^ n → b < 2 ^ n → Within n a b → Within n b a → a ≡ b
same_group zero a b la lb p q = omega arith
same_group (suc n) a b la lb p q =
    let half : a / 2 ≡ b / 2 = same_group n (a / 2) (b / 2) (half_below n a la) (half_below n b lb)
    (λ i k m. in_half i b (p (suc i) (suc-le-suc k) (half_in i a m))) (λ i k m. in_half i a (q (suc i) (suc-le-suc k) (half_in i b m))) in
    elim (cases_eq (a % 2) 1) [
      | inl e ↦ let f = in_odd b (p 0 (omega arith) (odd_in a e)) in omega arith
      | inr ne ↦ elim (cases_eq (b % 2) 1) [
        | inl f ↦ absurd (ne (in_odd a (q 0 (omega arith) (odd_in b f))))
        | inr nf ↦ omega arith
      ]
    ]
