-- The controllers of a group, listed and counted.
use Rattle.std.proofs.Common.{◌≡◌, ℕ, zero, suc, ◌+◌, ◌/◌, ◌%◌, ◌^◌, ◌<◌, ◌≤◌, true, false, ◌⊎◌, [], ◌∷◌, ◌++◌, length, get_or, sym, refl, ap, ◌∙◌, inl, inr, pow-suc, arith}
use lib.Bits.{bit_and}
use lib.Count.{ones, ones_step}
use Rattle.std.proofs.lemmas.Nat.{mod_below, shr-shr, and_le_r}
use Rattle.std.proofs.lemmas.List.{length_push, get_or_push, get_or_append_left}
use Rattle.std.proofs.lemmas.Bool.{cases_lt, cases_eq, cases_Bool, cases_order}
use Rattle.structure.specs.Groups.{◌∈◌, has, everyone, Within, members, count}
use Rattle.structure.proofs.Bits.{has_decides, and_in, in_and, everyone_has, everyone_below, same_group}

-- ---- one controller more
pub members_in : (i g : ℕ) → has g i ≡ true → members (suc i) g ≡ members i g ++ i ∷ []
members_in i g e = simp e

pub members_out : (i g : ℕ) → has g i ≡ false → members (suc i) g ≡ members i g
members_out i g e = simp e

length_in : (i g : ℕ) → has g i ≡ true → length (members (suc i) g) ≡ length (members i g) + 1
length_in i g e = ap length (members_in i g e) ∙ length_push (members i g) i

length_out : (i g : ℕ) → has g i ≡ false → length (members (suc i) g) ≡ length (members i g)
length_out i g e = ap length (members_out i g e)

-- ---- the list
pub members_few : (n g : ℕ) → length (members n g) ≤ n
members_few zero g = omega arith
members_few (suc n) g = elim (cases_Bool (has g n)) [
  | inl e ↦ omega (arith, length_in n g e, members_few n g)
  | inr e ↦ omega (arith, length_out n g e, members_few n g)
]

-- what is listed below n stays at its place in a longer list
stays : (n g j : ℕ) → j < length (members n g) → (j < length (members (suc n) g)) × (get_or (members (suc n) g) j 0 ≡ get_or (members n g) j 0)
stays n g j l = elim (cases_Bool (has g n)) [
  | inl e ↦ (omega (arith, length_in n g e), rw (members_in n g e) (get_or_append_left (members n g) (n ∷ []) 0 j l))
  | inr e ↦ (omega (arith, length_out n g e), rw (members_out n g e) refl)
]

-- a place of the list is one of the shorter list, or the last, which has n
places : (n g j : ℕ) → j < length (members (suc n) g) → (j < length (members n g)) ⊎ ((j ≡ length (members n g)) × (get_or (members (suc n) g) j 0 ≡ n) × (has g n ≡ true))
places n g j l = elim (cases_lt j (length (members n g))) [
  | inl h ↦ inl h
  | inr h ↦ elim (cases_Bool (has g n)) [
    | inl e ↦ let z : j ≡ length (members n g) = omega (arith, length_in n g e) in inr (z, rw (members_in n g e) (get_or_push (members n g) n 0 j (sym z)), e)
    | inr e ↦ absurd (omega (arith, length_out n g e))
  ]
]

-- each is a controller of the group, below n
pub members_are : (n g j : ℕ) → j < length (members n g) → (get_or (members n g) j 0 < n) × (get_or (members n g) j 0 ∈ g)
members_are zero g j l = absurd (omega arith)
members_are (suc n) g j l = elim (places n g j l) [
  | inl h ↦ let r = members_are n g j h in rw (stays n g j h).1 (omega arith, r.1)
  | inr h ↦ rw h.1 (omega arith, (has_decides g n).0 h.2)
]

pub members_rise : (n g i j : ℕ) → i < j → j < length (members n g) → get_or (members n g) i 0 < get_or (members n g) j 0
members_rise zero g i j p l = absurd (omega arith)
members_rise (suc n) g i j p l = elim (places n g j l) [
  | inl h ↦ let b : i < length (members n g) = omega arith in omega (arith, (stays n g i b).1, (stays n g j h).1, members_rise n g i j p h)
  | inr h ↦ let b : i < length (members n g) = omega (arith, h.0) in omega (arith, (stays n g i b).1, (members_are n g i b).0, h.1)
]

pub members_differ : (n g i j : ℕ) → i < length (members n g) → j < length (members n g) → get_or (members n g) i 0 ≡ get_or (members n g) j 0 → i ≡ j
members_differ n g i j li lj e = elim (cases_order i j) [
  | inl z ↦ z
  | inr (inl l) ↦ absurd (omega (arith, members_rise n g i j l lj))
  | inr (inr l) ↦ absurd (omega (arith, members_rise n g j i l li))
]

-- each controller of the group is listed
pub member_listed : (n g i : ℕ) → i < n → i ∈ g → (j : ℕ) × (j < length (members n g)) × (get_or (members n g) j 0 ≡ i)
member_listed zero g i l m = absurd (omega arith)
member_listed (suc n) g i l m = elim (cases_eq i n) [
  | inl z ↦ rw z (
      let e : has g n ≡ true = (has_decides g n).1 (rw z at m) in
      (length (members n g), omega (arith, length_in n g e), rw (members_in n g e) (get_or_push (members n g) n 0 (length (members n g)) refl)))
  | inr ne ↦
      let (j, h, q) = member_listed n g i (omega arith) m in
      (j, (stays n g j h).0, (stays n g j h).1 ∙ q)
]

-- ---- the number of them
pub count_listed : (n g : ℕ) → length (members n g) ≡ count n g
count_listed zero g = refl
count_listed (suc n) g = elim (cases_Bool (has g n)) [
  | inl e ↦ omega (arith, length_in n g e, count_listed n g, (has_decides g n).0 e)
  | inr e ↦
      let b : g / 2 ^ n % 2 < 2 = mod_below (g / 2 ^ n) 2 (omega arith) in
      let z : g / 2 ^ n % 2 ≡ 0 = elim (cases_eq (g / 2 ^ n % 2) 1) [ inl y ↦ absurd (let t = (has_decides g n).1 y in let u : ◌≡◌ {A = ℕ} 0 1 = cc in omega arith) | inr ne ↦ omega arith ] in
      omega (arith, length_out n g e, count_listed n g)
]

pub count_everyone : (n : ℕ) → count n (everyone n) ≡ n
count_everyone n = all n (omega arith)
  where
    all : (k : ℕ) → k ≤ n → count k (everyone n) ≡ k
    all zero h = refl
    all (suc k) h = omega (arith, all k (omega arith), everyone_has n k h)

-- a part has no more controllers, and fewer where it lacks one
bits_le : (x y : ℕ) → (x % 2 ≡ 1 → y % 2 ≡ 1) → x % 2 ≤ y % 2
bits_le x y f = elim (cases_eq (x % 2) 1) [ inl e ↦ omega (arith, f e) | inr ne ↦ omega arith ]

pub count_part : (n a b : ℕ) → Within n a b → count n a ≤ count n b
count_part zero a b w = omega arith
count_part (suc n) a b w = omega (arith, count_part n a b (λ i l. w i (omega arith)), bits_le (a / 2 ^ n) (b / 2 ^ n) (w n (omega arith)))

pub count_less : (n a b i : ℕ) → Within n a b → i < n → i ∈ b → (i ∈ a → ⊥) → count n a < count n b
count_less zero a b i w l x y = absurd (omega arith)
count_less (suc n) a b i w l x y =
    let here = bits_le (a / 2 ^ n) (b / 2 ^ n) (w n (omega arith)) in
    elim (cases_eq i n) [
      | inl z ↦
          let x' : b / 2 ^ n % 2 ≡ 1 = rw z at x in
          let y' : a / 2 ^ n % 2 ≡ 1 → ⊥ = rw z at y in
          omega (arith, count_part n a b (λ j h. w j (omega arith)), mod_below (a / 2 ^ n) 2 (omega arith))
      | inr ne ↦ omega (arith, count_less n a b i (λ j h. w j (omega arith)) (omega arith) x y)
    ]

-- a group with as many controllers as there are is the group of all
pub count_full : (n g : ℕ) → g < 2 ^ n → count n g ≡ count n (everyone n) → g ≡ everyone n
count_full n g l e = same_group n g (everyone n) l (everyone_below n) (λ i h _. everyone_has n i h) all
  where
    all : Within n (everyone n) g
    all i h _ = elim (cases_eq (g / 2 ^ i % 2) 1) [ inl m ↦ m | inr out ↦ absurd (omega (arith, count_less n g (everyone n) i (λ j k _. everyone_has n j k) h (everyone_has n i h) out)) ]

-- with one controller or more there is a first one
pub count_some : (n g : ℕ) → 0 < count n g → (i : ℕ) × (i < n) × (i ∈ g)
count_some zero g h = absurd (omega arith)
count_some (suc n) g h = elim (cases_eq (g / 2 ^ n % 2) 1) [
  | inl e ↦ (n, omega arith, e)
  | inr ne ↦ let (i, l, m) = count_some n g (omega (arith, mod_below (g / 2 ^ n) 2 (omega arith))) in (i, omega arith, m)
]

-- what `count_ones` answers
count_low : (n g : ℕ) → count (suc n) g ≡ g % 2 + count n (g / 2)
count_low zero g = let e : g / 2 ^ 0 ≡ g = omega arith in omega (arith, ap (λ x. x % 2) e)
count_low (suc n) g =
    let e : g / 2 / 2 ^ n ≡ g / 2 ^ suc n = shr-shr g 1 n ∙ ap (λ k. g / 2 ^ k) (omega arith) in
    omega (arith, count_low n g, ap (λ x. x % 2) e)

pub ones_count : (n g : ℕ) → g < 2 ^ n → ones g ≡ count n g
unfolding ones
ones_count zero g l = let z : g ≡ 0 = omega arith in rw z refl
ones_count (suc n) g l = omega (arith, ones_step g, count_low n g, ones_count n (g / 2) (omega (arith, pow-suc 2 n)))

pub ones_cut : (n g : ℕ) → ones (bit_and g (everyone n)) ≡ count n g
ones_cut n g =
    let part = count_part n (bit_and g (everyone n)) g (λ i _ m. (in_and g (everyone n) i m).0) in
    let whole = count_part n g (bit_and g (everyone n)) (λ i l m. and_in g (everyone n) i m (everyone_has n i l)) in
    omega (arith, ones_count n (bit_and g (everyone n)) (omega (arith, and_le_r g (everyone n), everyone_below n)))
