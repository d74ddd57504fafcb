-- A draft as a wiring: what the tests on its masks say of its sets.
use Rattle.std.specs.Prelude.{◌≡◌, ℕ, ◌+◌, ◌-◌, ◌^◌, ◌<◌, ◌≤◌, Bool, true, false, ◌↔◌, List, length, Some, None, bit_and, count_ones, slice_index, refl, MatchBool}
use Rattle.std.specs.List.{AllWithin, HoldsAt}
use Rattle.std.proofs.Common.{sym, subst, inl, inr, add-one, arith}
use Rattle.std.proofs.Math.Logic.{∥∥₁_elim}
use Rattle.std.proofs.lemmas.Bool.{cases_Bool, both_ways, false≢true, eq-eqb, ne_eqb}
use Rattle.structure.specs.Groups.{everyone, count, Within, within}
use Rattle.structure.proofs.Bits.{everyone_below, within_decides, meets_and, and_meets, shares_and, and_shares}
use Rattle.structure.proofs.Members.{ones_count}
use Rattle.structure.proofs.Masks.{shares?}
use Rattle.cores.specs.Sharing.{ThreesShare, threes_share, SplitsKeepACore, Inside}
use Rattle.cores.specs.Leads.{Wiring, leading_core, meets_all, any}
use Rattle.cores.proofs.Leads.{Best, best_none, best_takes, best_keeps, best_done, leading_leads, leading_unique}
use Rattle.cores.proofs.Tests.{meets_all_decides, contains_decides, threes_share_decides}
use Rattle.cores.proofs.Wordings.{wordings_agree}
use Rattle.survivor.specs.declared.tables.Draft.{Draft}
use Rattle.survivor.specs.Drafts.{size_of, sets_of}
use Rattle.survivor.specs.Seals.{sealing, NothingShared}

inside_of : (d : Draft) (xs : List ℕ) → xs ≡ sets_of d → Inside (size_of d) xs
inside_of d xs e = subst (λ v. Inside (size_of d) v) (sym e) d.inside

-- ---- a group is enough, or is not
module _ (n : ℕ) (sets xs : List ℕ) (g : ℕ) where
  pub enough_here : (j : ℕ) → xs ≡ sets → j < length xs → within n (slice_index xs j) g ≡ true → true ≡ any (λ s. within n s g) sets
  enough_here j e l t =
      subst (λ v. true ≡ any (λ s. within n s g) v) e (sym ((contains_decides n xs g).1 (j, l, (within_decides n (slice_index xs j) g).0 t)))

  pub enough_none : xs ≡ sets → ((j : ℕ) → j < length xs → Within n (slice_index xs j) g → ⊥) → false ≡ any (λ s. within n s g) sets
  enough_none e f = subst (λ v. false ≡ any (λ s. within n s g) v) e (elim (cases_Bool (any (λ s. within n s g) xs)) [
    | inl t ↦ let (j, l, w) = (contains_decides n xs g).0 t in absurd (f j l w)
    | inr t ↦ sym t
  ])

-- whether the group g contains the set s, both of whatever yard
abbrev pub Contained : ℕ → Bool → ℕ → Type 0
Contained g b s = (n : ℕ) → s < 2 ^ n → b ≡ within n s g

-- so `any` answers
pub enough_so : (d : Draft) (xs : List ℕ) (g : ℕ) (r : Bool) → xs ≡ sets_of d → MatchBool r ((j : ℕ) × (j < length xs) × HoldsAt (Contained g true) xs j) (AllWithin (Contained g false) xs 0 (length xs)) →
    r ≡ any (λ s. within (size_of d) s g) (sets_of d)
enough_so d xs g true e (j, l, h) = enough_here (size_of d) (sets_of d) xs g j e l (sym (h 0 (size_of d) (inside_of d xs e j l)))
enough_so d xs g false e f = enough_none (size_of d) (sets_of d) xs g e (λ j l w.
    both_ways (within (size_of d) (slice_index xs j) g) (sym (f j 0 (omega arith) l (size_of d) (inside_of d xs e j l))) ((within_decides (size_of d) (slice_index xs j) g).1 w))

-- ---- a group meets every set, or does not
module _ (d : Draft) (xs : List ℕ) (g : ℕ) where
  pub meets_none : (j : ℕ) → xs ≡ sets_of d → j < length xs → bit_and (slice_index xs j) g ≡ 0 → false ≡ meets_all (size_of d) (sets_of d) g
  meets_none j e l z = subst (λ v. false ≡ meets_all (size_of d) v g) e (elim (cases_Bool (meets_all (size_of d) xs g)) [
    | inl t ↦ absurd (omega (arith, meets_and (size_of d) (slice_index xs j) g ((meets_all_decides (size_of d) xs g).0 t j l)))
    | inr t ↦ sym t
  ])

  pub meets_each : xs ≡ sets_of d → ((j : ℕ) → j < length xs → 0 < bit_and (slice_index xs j) g) → true ≡ meets_all (size_of d) (sets_of d) g
  meets_each e f =
      subst (λ v. true ≡ meets_all (size_of d) v g) e (sym ((meets_all_decides (size_of d) xs g).1 (λ j l. and_meets (size_of d) (slice_index xs j) g (inside_of d xs e j l) (f j l))))

  -- so `all` answers
  pub meets_all_so : (r : Bool) → xs ≡ sets_of d → MatchBool r (AllWithin (λ s. 0 < bit_and s g) xs 0 (length xs)) ((j : ℕ) × (j < length xs) × HoldsAt (λ s. bit_and s g ≡ 0) xs j) →
      r ≡ meets_all (size_of d) (sets_of d) g
  meets_all_so true e f = meets_each e (λ j l. f j 0 (omega arith) l)
  meets_all_so false e (j, l, z) = meets_none j e l (z 0)

-- ---- every three sets share a controller, or some three do not
module _ (d : Draft) (xs : List ℕ) (e : xs ≡ sets_of d) where
  pub and_threes : ((a b c : ℕ) → a < length xs → b < length xs → c < length xs → 0 < bit_and (bit_and (slice_index xs a) (slice_index xs b)) (slice_index xs c)) → ThreesShare (size_of d) (sets_of d)
  and_threes f =
      let inside = inside_of d xs e in
      subst (λ v. ThreesShare (size_of d) v) e (λ a b c la lb lc. and_shares (size_of d) (slice_index xs a) (slice_index xs b) (slice_index xs c) (inside a la) (f a b c la lb lc))

  pub none_shared : (a b c : ℕ) → a < length xs → b < length xs → c < length xs → bit_and (bit_and (slice_index xs a) (slice_index xs b)) (slice_index xs c) ≡ 0
      → NothingShared (size_of d) (sets_of d) (a + 1) (b + 1) (c + 1)
  none_shared a b c la lb lc z = subst (λ v. NothingShared (size_of d) v (a + 1) (b + 1) (c + 1)) e (
      let pa : (a + 1) - 1 ≡ a = omega arith in
      let pb : (b + 1) - 1 ≡ b = omega arith in
      let pc : (c + 1) - 1 ≡ c = omega arith in
      record {
        places = ((omega arith, omega arith), (omega arith, omega arith), (omega arith, omega arith));
        none = rw (pa, pb, pc) (λ i h x y w. omega (arith, shares_and (size_of d) (slice_index xs a) (slice_index xs b) (slice_index xs c) (i, h, x, y, w)));
      })

-- a truncated fact that three sets share a controller gives the controller: it can be looked for
pub sharing_threes : (n : ℕ) (sets : List ℕ) → ∥ ThreesShare n sets ∥₁ → ThreesShare n sets
sharing_threes n sets f a b c la lb lc = elim (shares? n (slice_index sets a) (slice_index sets b) (slice_index sets c)) [
  | inl w ↦ w
  | inr none ↦ absurd (∥∥₁_elim f (λ x y. absurd x) (λ t. let (i, h, x, y, z) = t a b c la lb lc in none i h x y z))
]

pub threes_sharing : (n : ℕ) (sets : List ℕ) → ThreesShare n sets → ∥ ThreesShare n sets ∥₁
threes_sharing n sets f = ∣ f ∣₁

-- ---- what sealing answers
module _ (n : ℕ) (sets : List ℕ) where
  -- sealed or not, exactly when every three sets share a controller
  abbrev pub ByThrees : Bool → Type 0
  ByThrees ok = 0 < length sets → (ok ≡ true) ↔ ThreesShare n sets

  -- the same by the other wording
  pub by_splits : (ok : Bool) → ByThrees ok → 0 < length sets → (ok ≡ true) ↔ SplitsKeepACore n sets
  by_splits ok f some = let (there, back) = f some in let (over, again) = wordings_agree n sets in (λ e. over (there e), λ s. back (again s))

  pub sealing_empty : length sets ≡ 0 → Some 13 ≡ sealing n sets
  sealing_empty e = let t = eq-eqb (length sets) 0 e in simp t

  pub empty_refused : length sets ≡ 0 → ByThrees false
  empty_refused e some = absurd (omega arith)

  module _ (p q r : ℕ) (w : NothingShared n sets p q r) where
    pub none_refused : ByThrees false
    none_refused some = (
      λ e. absurd (false≢true e),
      λ f.
          let (i, h, x, y, z) = f (p - 1) (q - 1) (r - 1) (omega (arith, w.places.0)) (omega (arith, w.places.1)) (omega (arith, w.places.2)) in
          absurd (w.none i h x y z),
    )

    pub sealing_none : Some 14 ≡ sealing n sets
    sealing_none =
        let some : 0 < length sets = omega (arith, w.places.0) in
        let a = ne_eqb (length sets) 0 (λ z. omega arith) in
        let b : threes_share n sets ≡ false = elim (cases_Bool (threes_share n sets)) [
          | inl t ↦ absurd (false≢true ((none_refused some).1 ((threes_share_decides n sets).0 t)))
          | inr f ↦ f
        ] in
        simp (a, b)

  module _ (some : 0 < length sets) (threes : ThreesShare n sets) where
    pub sealing_done : None ≡ sealing n sets
    sealing_done =
        let a = ne_eqb (length sets) 0 (λ z. omega arith) in
        let b = (threes_share_decides n sets).1 threes in
        simp (a, b)

    pub done_sealed : ByThrees true
    done_sealed _ = (λ _. threes, λ _. refl)

-- ---- a draft with a set is a wiring
pub wiring : (d : Draft) → 0 < length (sets_of d) → Wiring (size_of d) (sets_of d)
wiring d some = record { low = d.low; high = d.high; some = some; peopled = d.peopled; inside = d.inside }

-- ---- the search for the leading core
-- what the loop keeps: the best of the groups before `upto`, and how many controllers it has
abbrev pub Found : ℕ → List ℕ → ℕ → ℕ → ℕ → Type 0
Found n sets upto best fewest = (fewest ≡ count n best) × Best n sets upto best

module _ (n : ℕ) (sets : List ℕ) (w : Wiring n sets) where
  pub found_none : (all : ℕ) → all ≡ everyone n → Found n sets 1 all (count_ones all)
  found_none all e = subst (λ g. Found n sets 1 g (count_ones g)) (sym e) (ones_count n (everyone n) (everyone_below n), best_none n sets w)

  pub found_takes : (k best fewest : ℕ) → k < everyone n → Found n sets k best fewest → count_ones k < fewest → meets_all n sets k ≡ true → Found n sets (k + 1) k (count_ones k)
  found_takes k best fewest l (e, b) less m =
      let below : k < 2 ^ n = omega arith in
      let c = ones_count n k below in
      (c, rw (add-one k) (best_takes n sets k best below ((meets_all_decides n sets k).0 m) (omega arith) b))

  pub found_keeps : (k best fewest : ℕ) → k < everyone n → Found n sets k best fewest → (meets_all n sets k ≡ true → fewest ≤ count_ones k) → Found n sets (k + 1) best fewest
  found_keeps k best fewest l (e, b) more =
      let below : k < 2 ^ n = omega arith in
      (e, rw (add-one k) (best_keeps n sets k best below (λ m. omega (arith, ones_count n k below, more ((meets_all_decides n sets k).1 m))) b))

  pub found_done : (k best fewest : ℕ) → everyone n ≤ k → Found n sets k best fewest → best ≡ leading_core n sets
  found_done k best fewest l (e, b) = leading_unique n sets best (leading_core n sets) (best_done n sets w best k l b) (leading_leads n sets w)
