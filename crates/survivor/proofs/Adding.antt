-- The search for a comparable set, what it says, and what one set more keeps.
use Rattle.std.proofs.Common.{◌≡◌, ℕ, zero, suc, ◌+◌, ◌-◌, ◌/◌, ◌^◌, ◌<◌, ◌≤◌, Bool, true, false, cond, not, eqb, leb, ◌⊎◌, List, [], ◌∷◌, ◌++◌, length, get_or, take, drop, set, Some, None, Decides, Option, sym, refl, ◌∙◌, inl, inr, add-one, arith}
use native.Mathlib.Nat.{div-eq_of_lt}
use Rattle.std.specs.Option.{option_map, MatchOption}
use Rattle.std.specs.List.{AllWithin, HoldsAt}
use Rattle.std.proofs.lemmas.Nat.{pow_pos, le-div}
use Rattle.std.proofs.lemmas.List.{at_drop_more, at_drop_all, get_or_append_left, get_or_push, length_push, take_more_set}
use Rattle.std.proofs.lemmas.Bool.{cases_eq, cases_lt, both_ways, or_cases, or_parts, eqb-true, eqb-false, ne_eqb, leb-true, leb-false, le-leb, lt-leb}
use Rattle.std.proofs.lemmas.Bool.Decides.{Decides-or}
use Rattle.structure.specs.Groups.{◌∈◌, Within, within}
use Rattle.structure.proofs.Bits.{none_in, some_in, in_below, high_in, within_decides}
use Rattle.survivor.specs.Drafts.{Place, at_place, misplaced, comparable, first_comparable, WellPlaced, AreComparable}
use Rattle.cores.specs.Sharing.{NoneEmpty, Inside}
use Rattle.survivor.specs.Sets.{Incomparable}

pub comparable_decides : (n a b : ℕ) → Decides (comparable n a b) (AreComparable n a b)
comparable_decides n a b = Decides-or (within n a b) (within n b a) (within_decides n a b) (within_decides n b a)

-- ---- the loop: what is left of the list gives the answer
abbrev pub Left : ℕ → List ℕ → ℕ → ℕ → Type 0
Left n xs s i = first_comparable n (i + 1) (drop i xs) s ≡ first_comparable n 1 xs s

module _ (n : ℕ) (xs : List ℕ) (s i : ℕ) where
  step : i < length xs → Left n xs s i → cond (comparable n (get_or xs i 0) s) (Some (i + 1)) (first_comparable n (i + 1 + 1) (drop (i + 1) xs) s) ≡ first_comparable n 1 xs s
  step l h = sym (at_drop_more (λ ys. first_comparable n (i + 1) ys s) xs i 0 l) ∙ h

  pub found_here : i < length xs → Left n xs s i → comparable n (get_or xs i 0) s ≡ true → Some (i + 1) ≡ first_comparable n 1 xs s
  found_here l h t = simp t at (step l h)

  pub left_more : i < length xs → Left n xs s i → comparable n (get_or xs i 0) s ≡ false → Left n xs s (i + 1)
  left_more l h f = simp f at (step l h)

  pub found_none : length xs ≤ i → Left n xs s i → None ≡ first_comparable n 1 xs s
  found_none l h = sym (at_drop_all (λ ys. first_comparable n (i + 1) ys s) xs i l) ∙ h

-- whether the sets x and s, both of whatever yard, are comparable
abbrev pub Compared : ℕ → Bool → ℕ → Type 0
Compared s b x = (n : ℕ) → x < 2 ^ n → s < 2 ^ n → b ≡ comparable n x s

module _ (n : ℕ) (xs : List ℕ) (s : ℕ) (inside : Inside n xs) (below : s < 2 ^ n) where
  -- nothing is found where no set before i is comparable
  upto : (i : ℕ) → i ≤ length xs → AllWithin (Compared s false) xs 0 i → Left n xs s i
  upto zero l f = refl
  upto (suc i) l f = rw (← add-one i) (left_more n xs s i (omega arith) (upto i (omega arith) (λ k d low high. f k d low (omega arith))) (sym (f i 0 (omega arith) (omega arith) n (inside i (omega arith)) below)))

  pub first_so : (p r : Option ℕ) → MatchOption p (AllWithin (Compared s false) xs 0 (length xs)) (λ i. (i < length xs) × HoldsAt (Compared s true) xs i × AllWithin (Compared s false) xs 0 i) →
      r ≡ option_map (λ i. i + 1) p → r ≡ first_comparable n 1 xs s
  first_so None r f e = e ∙ found_none n xs s (length xs) (omega arith) (upto (length xs) (omega arith) f)
  first_so (Some i) r (l, h, f) e = e ∙ found_here n xs s i l (upto i (omega arith) f) (sym (h 0 n (inside i l) below))

-- ---- what the search says
module _ (n s : ℕ) where
  clear : (p : ℕ) (xs : List ℕ) → first_comparable n p xs s ≡ None → (j : ℕ) → j < length xs → comparable n (get_or xs j 0) s ≡ false
  clear p [] e j l = absurd (omega arith)
  clear p (x ∷ xs) e j l = go (comparable n x s) refl e (clear (p + 1) xs) j l
    where
      go : (t : Bool) → comparable n x s ≡ t → cond t (Some p) (first_comparable n (p + 1) xs s) ≡ None
          → (first_comparable n (p + 1) xs s ≡ None → (j : ℕ) → j < length xs → comparable n (get_or xs j 0) s ≡ false)
          → (j : ℕ) → j < length (x ∷ xs) → comparable n (get_or (x ∷ xs) j 0) s ≡ false
      go true c e rest j l = absurd cc
      go false c e rest zero l = c
      go false c e rest (suc j) l = rest e j (omega arith)

  found : (q : ℕ) (xs : List ℕ) (p : ℕ) → first_comparable n q xs s ≡ Some p
      → (i : ℕ) × (p ≡ q + i) × (i < length xs) × (comparable n (get_or xs i 0) s ≡ true) × ((k : ℕ) → k < i → comparable n (get_or xs k 0) s ≡ false)
  found q [] p e = absurd cc
  found q (x ∷ xs) p e = go (comparable n x s) refl e (found (q + 1) xs p)
    where
      go : (t : Bool) → comparable n x s ≡ t → cond t (Some q) (first_comparable n (q + 1) xs s) ≡ Some p
          → (first_comparable n (q + 1) xs s ≡ Some p → (i : ℕ) × (p ≡ (q + 1) + i) × (i < length xs) × (comparable n (get_or xs i 0) s ≡ true) × ((k : ℕ) → k < i → comparable n (get_or xs k 0) s ≡ false))
          → (i : ℕ) × (p ≡ q + i) × (i < length (x ∷ xs)) × (comparable n (get_or (x ∷ xs) i 0) s ≡ true) × ((k : ℕ) → k < i → comparable n (get_or (x ∷ xs) k 0) s ≡ false)
      go true c e rest = let y : q ≡ p = cc in (0, omega arith, omega arith, c, λ k l. absurd (omega arith))
      go false c e rest = let (i, z, l, t, f) = rest e in (suc i, omega arith, omega arith, t, before i f)
        where
          before : (i : ℕ) → ((k : ℕ) → k < i → comparable n (get_or xs k 0) s ≡ false) → (k : ℕ) → k < suc i → comparable n (get_or (x ∷ xs) k 0) s ≡ false
          before i f zero l = c
          before i f (suc k) l = f k (omega arith)

  unordered_at : (xs : List ℕ) (j : ℕ) → comparable n (get_or xs j 0) s ≡ false → AreComparable n (get_or xs j 0) s → ⊥
  unordered_at xs j f o = both_ways (comparable n (get_or xs j 0) s) f ((comparable_decides n (get_or xs j 0) s).1 o)

  -- none is comparable
  pub none_ordered : (xs : List ℕ) → first_comparable n 1 xs s ≡ None → (p : ℕ) → Place xs p → AreComparable n (at_place xs p) s → ⊥
  none_ordered xs e p (low, high) = unordered_at xs (p - 1) (clear 1 xs e (p - 1) (omega arith))

  -- the one at p is, and none at a lower place
  pub first_ordered : (xs : List ℕ) (p : ℕ) → first_comparable n 1 xs s ≡ Some p
      → Place xs p × AreComparable n (at_place xs p) s × ((q : ℕ) → Place xs q → q < p → AreComparable n (at_place xs q) s → ⊥)
  first_ordered xs p e =
      let (i, z, l, t, f) = found 1 xs p e in
      let y : p - 1 ≡ i = omega arith in (
        (omega arith, omega arith),
        rw y ((comparable_decides n (get_or xs i 0) s).0 t),
        λ q (low, high) k. unordered_at xs (q - 1) (f (q - 1) (omega arith)),
      )

-- ---- a set that names a controller, and none outside the yard
pub misplaced_shifted : (n s : ℕ) → (s ≡ 0 → ⊥) → not (eqb (s / 2 ^ n) 0) ≡ misplaced n s
misplaced_shifted n s ne = let some = ne_eqb s 0 ne in elim (cases_lt s (2 ^ n)) [
  | inl l ↦ let none : s / 2 ^ n ≡ 0 = div-eq_of_lt l in let below = lt-leb (2 ^ n) s l in simp (some, none, below)
  | inr l ↦
      let past = le-leb (2 ^ n) s l in
      let high = ne_eqb (s / 2 ^ n) 0 (λ z. omega (arith, le-div 1 s (2 ^ n) (pow_pos n) (omega arith))) in
      simp (some, past, high)
]

pub misplaced_so : (n s : ℕ) → misplaced n s ≡ true → ((i : ℕ) → i ∈ s → ⊥) ⊎ ((i : ℕ) × (n ≤ i) × (i ∈ s))
misplaced_so n s e = elim (cases_eq s 0) [
  | inl z ↦ inl (λ i m. none_in i (rw z at m))
  | inr ne ↦ elim (or_cases (eqb s 0) (leb (2 ^ n) s) e) [
    | inl t ↦ absurd (ne (eqb-true s 0 t))
    | inr t ↦ inr (high_in n s (leb-true (2 ^ n) s t))
  ]
]

pub placed_below : (n s : ℕ) → misplaced n s ≡ false → (0 < s) × (s < 2 ^ n)
placed_below n s e =
    let (some, inside) = or_parts (eqb s 0) (leb (2 ^ n) s) e in
    (elim (cases_eq s 0) [ inl z ↦ absurd (eqb-false s 0 some z) | inr ne ↦ omega arith ], leb-false (2 ^ n) s inside)

pub placed_proper : (n s : ℕ) → misplaced n s ≡ false → WellPlaced n s
placed_proper n s e =
    let (some, below) = placed_below n s e in
    let (i, _, m) = some_in n s below some in
    ((i, m), λ i m. in_below n s i below m)

-- ---- one set more
module _ (sets : List ℕ) (count s : ℕ) (room : count < length sets) where
  abbrev xs : List ℕ
  xs = take count sets

  pub sets_more : take (count + 1) (set sets count s) ≡ xs ++ s ∷ []
  sets_more = take_more_set sets count s room

  each : (P : ℕ → Type 0) → ((j : ℕ) → j < length xs → P (get_or xs j 0)) → P s → (j : ℕ) → j < length (xs ++ s ∷ []) → P (get_or (xs ++ s ∷ []) j 0)
  each P all here j h = let n = length_push xs s in elim (cases_eq j (length xs)) [
    | inl z ↦ rw (get_or_push xs s 0 j (sym z)) here
    | inr ne ↦ let l : j < length xs = omega arith in rw (get_or_append_left xs (s ∷ []) 0 j l) (all j l)
  ]

  pub peopled_more : NoneEmpty xs → 0 < s → NoneEmpty (take (count + 1) (set sets count s))
  peopled_more h p = rw sets_more (each (λ x. 0 < x) h p)

  pub inside_more : (n : ℕ) → Inside n xs → s < 2 ^ n → Inside n (take (count + 1) (set sets count s))
  inside_more n h p = rw sets_more (each (λ x. x < 2 ^ n) h p)

  -- each of the longer list is one of the shorter, or s, the last
  abbrev at : ℕ → ℕ
  at j = get_or (xs ++ s ∷ []) j 0

  which : (j : ℕ) → j < length (xs ++ s ∷ []) → ((j < length xs) × (at j ≡ get_or xs j 0)) ⊎ ((j ≡ length xs) × (at j ≡ s))
  which j h = elim (cases_eq j (length xs)) [
    | inl z ↦ inr (z, get_or_push xs s 0 j (sym z))
    | inr ne ↦ let l : j < length xs = omega (arith, length_push xs s) in inl (l, get_or_append_left xs (s ∷ []) 0 j l)
  ]

  pub unordered_more : (n : ℕ) → Incomparable n xs → first_comparable n 1 xs s ≡ None → Incomparable n (take (count + 1) (set sets count s))
  unordered_more n old e = rw sets_more (λ j k (lj, lk, ne) w. go j k ne w (which j lj) (which k lk))
    where
      apart : (j : ℕ) → j < length xs → AreComparable n (get_or xs j 0) s → ⊥
      apart j l = unordered_at n s xs j (clear n s 1 xs e j l)

      go : (j k : ℕ) → (j ≡ k → ⊥) → Within n (at j) (at k) → ((j < length xs) × (at j ≡ get_or xs j 0)) ⊎ ((j ≡ length xs) × (at j ≡ s))
          → ((k < length xs) × (at k ≡ get_or xs k 0)) ⊎ ((k ≡ length xs) × (at k ≡ s)) → ⊥
      go j k ne w (inl (lj, ej)) (inl (lk, ek)) = old j k (lj, lk, ne) (rw (ej, ek) at w)
      go j k ne w (inl (lj, ej)) (inr (zk, ek)) = apart j lj (inl (rw (ej, ek) at w))
      go j k ne w (inr (zj, ej)) (inl (lk, ek)) = apart k lk (inr (rw (ej, ek) at w))
      go j k ne w (inr (zj, ej)) (inr (zk, ek)) = ne (omega arith)
