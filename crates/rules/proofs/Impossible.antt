-- No rule serves sets of which three share no controller.
-- Each controller is run twice. Between a controller outside A and one in both A and B the two copies are crossed.
use Rattle.std.proofs.Common.{◌≡◌, ℕ, zero, suc, ◌<◌, Bool, true, false, not, ◌⊎◌, List, [], ◌∷◌, length, get_or, Some, sym, refl, ap, ◌∙◌, inl, inr, true≢false, add-one, arith}
use mathlib.Core.Logic.Dec
use Rattle.std.specs.List.{slice_get}
use Rattle.structure.specs.Groups.{◌∈◌}
use Rattle.structure.proofs.Bits.{some_in}
use Rattle.structure.proofs.Masks.{member?, mask, mask_in, in_mask, seek, shares?}
use Rattle.cores.specs.Sharing.{NoneEmpty, Inside}
use Rattle.rules.specs.Rules.{Rule, Follows, Decides, Serves, NeedsThrees}

-- the row of n words made from a function of the place
abbrev row_of : {W : Type 0} → (ℕ → W) → ℕ → List W
row_of f zero = []
row_of f (suc n) = f 0 ∷ row_of (λ i. f (suc i)) n

row_length : {W : Type 0} (f : ℕ → W) (n : ℕ) → length (row_of f n) ≡ n
row_length f zero = refl
row_length f (suc n) = ap suc (row_length (λ i. f (suc i)) n)

row_nth : {W : Type 0} (f : ℕ → W) (n i : ℕ) → i < n → slice_get (row_of f n) i ≡ Some (f i)
row_nth f zero i h = absurd (omega arith)
row_nth f (suc n) zero h = refl
row_nth f (suc n) (suc i) h = row_nth (λ j. f (suc j)) n i (omega arith)

-- three sets, by their indices from 0, without a common controller
abbrev Lacking : ℕ → List ℕ → ℕ → ℕ → ℕ → Type 0
Lacking n sets a b c = (a < length sets) × (b < length sets) × (c < length sets) × ((i : ℕ) → i < n → i ∈ get_or sets a 0 → i ∈ get_or sets b 0 → i ∈ get_or sets c 0 → ⊥)

-- where a controller stands: outside A, in A and outside B, or in both
data Part : Type 0 where
  outer : Part
  middle : Part
  inner : Part

abbrev part_of : {X Y : Type 0} → Dec X → Dec Y → Part
part_of (no x) d = outer
part_of (yes x) (no y) = middle
part_of (yes x) (yes y) = inner

abbrev part : ℕ → ℕ → ℕ → Part
part A B i = part_of (member? A i) (member? B i)

-- the copy of a sender that a listener hears
abbrev heard : Part → Part → Bool → Bool
heard outer outer c = c
heard outer middle c = c
heard outer inner c = not c
heard middle outer c = c
heard middle middle c = c
heard middle inner c = c
heard inner outer c = not c
heard inner middle c = c
heard inner inner c = c

-- which of the two copies a run keeps
abbrev crossed : Part → Bool
crossed outer = true
crossed middle = false
crossed inner = false

module _ (r : Rule) (n A B : ℕ) where
  abbrev given : Bool → r.Input
  given false = r.one
  given true = r.other

  abbrev doubled : ℕ → Bool → ℕ → r.State
  doubled zero c p = r.first p (given c)
  doubled (suc t) c p = r.next (doubled t c p) (row_of (λ q. r.word (doubled t (heard (part A B p) (part A B q) c) q) p) n)

  abbrev hears : ℕ → Bool → ℕ → List r.Word
  hears t c p = row_of (λ q. r.word (doubled t (heard (part A B p) (part A B q) c) q) p) n

  -- a choice of copies under which no member of S hears another member's other copy gives a run
  run : (S : ℕ) (copy : ℕ → Bool)
      → ((p q : ℕ) → p < n → q < n → p ∈ S → q ∈ S → heard (part A B p) (part A B q) (copy p) ≡ copy q)
      → Follows r n S (λ p. given (copy p)) (λ t p. doubled t (copy p) p) (λ t p. hears t (copy p) p)
  run S copy fit = record {
    begins = λ p h s. refl;
    goes_on = λ t p k h s. ap (λ x. doubled x (copy p) p) (add-one t);
    whole = λ t p k h s. row_length (λ q. r.word (doubled t (heard (part A B p) (part A B q) (copy p)) q) p) n;
    truly = λ t p q k h₁ h₂ s₁ s₂. row_nth (λ x. r.word (doubled t (heard (part A B p) (part A B x) (copy p)) x) p) n q h₂
        ∙ ap (λ c. Some (r.word (doubled t c q) p)) (fit p q h₁ h₂ s₁ s₂);
  }

abbrev Outer? : Part → Bool
Outer? outer = true
Outer? middle = false
Outer? inner = false

abbrev Middle? : Part → Bool
Middle? outer = false
Middle? middle = true
Middle? inner = false

abbrev Inner? : Part → Bool
Inner? outer = false
Inner? middle = false
Inner? inner = true

no_outer : (x y : Part) (c : Bool) → Outer? x ≡ false → Outer? y ≡ false → heard x y c ≡ c
no_outer outer y c h k = absurd (true≢false h)
no_outer middle outer c h k = refl
no_outer middle middle c h k = refl
no_outer middle inner c h k = refl
no_outer inner outer c h k = absurd (true≢false k)
no_outer inner middle c h k = refl
no_outer inner inner c h k = refl

no_inner : (x y : Part) (c : Bool) → Inner? x ≡ false → Inner? y ≡ false → heard x y c ≡ c
no_inner inner y c h k = absurd (true≢false h)
no_inner middle outer c h k = refl
no_inner middle middle c h k = refl
no_inner middle inner c h k = refl
no_inner outer outer c h k = refl
no_inner outer middle c h k = refl
no_inner outer inner c h k = absurd (true≢false k)

no_middle : (x y : Part) → Middle? x ≡ false → Middle? y ≡ false → heard x y (crossed x) ≡ crossed y
no_middle middle y h k = absurd (true≢false h)
no_middle inner outer h k = refl
no_middle inner middle h k = absurd (true≢false k)
no_middle inner inner h k = refl
no_middle outer outer h k = refl
no_middle outer middle h k = absurd (true≢false k)
no_middle outer inner h k = refl

in_first : {X Y : Type 0} (d : Dec X) (e : Dec Y) → X → Outer? (part_of d e) ≡ false
in_first (no f) e x = absurd (f x)
in_first (yes a) (no g) x = refl
in_first (yes a) (yes b) x = refl

not_both : {X Y : Type 0} (d : Dec X) (e : Dec Y) → (X × Y → ⊥) → Inner? (part_of d e) ≡ false
not_both (no f) e g = refl
not_both (yes a) (no h) g = refl
not_both (yes a) (yes b) g = absurd (g (a, b))

not_first_only : {X Y : Type 0} (d : Dec X) (e : Dec Y) → (X × (Y → ⊥) → ⊥) → Middle? (part_of d e) ≡ false
not_first_only (no f) e g = refl
not_first_only (yes a) (no h) g = absurd (g (a, h))
not_first_only (yes a) (yes b) g = refl

is_inner : {X Y : Type 0} (d : Dec X) (e : Dec Y) → X → Y → crossed (part_of d e) ≡ false
is_inner (no f) e x y = absurd (f x)
is_inner (yes a) (no g) x y = absurd (g y)
is_inner (yes a) (yes b) x y = refl

is_outer : {X Y : Type 0} (d : Dec X) (e : Dec Y) → (X → ⊥) → crossed (part_of d e) ≡ true
is_outer (no f) e g = refl
is_outer (yes a) (no h) g = absurd (g a)
is_outer (yes a) (yes b) g = absurd (g a)

module _ (r : Rule) (n : ℕ) (sets : List ℕ) (serves : Serves r n sets) (a b c : ℕ) (lacking : Lacking n sets a b c) where
  abbrev A : ℕ
  A = get_or sets a 0

  abbrev B : ℕ
  B = get_or sets b 0

  abbrev C : ℕ
  C = get_or sets c 0

  decided : Bool → ℕ → r.Input
  decided k p = r.decision (doubled r n A B r.rounds k p)

  -- the members of A, all of one copy
  first_two : (k : Bool) (p : ℕ) → p < n → p ∈ A → decided k p ≡ given r n A B k
  unfolding decided
  first_two k p h s = served.valid (given r n A B k) (λ q j m. refl) p h s
    where
      served : Decides r n A (λ _. given r n A B k) (λ t q. doubled r n A B t k q)
      served = serves A (a, lacking.0, λ i j m. m) (λ _. given r n A B k) (λ t q. doubled r n A B t k q) (λ t q. hears r n A B t k q)
          (run r n A B A (λ _. k) (λ x y l m u v. no_outer (part A B x) (part A B y) k (in_first (member? A x) (member? B x) u) (in_first (member? A y) (member? B y) v)))

  outside? : (i : ℕ) → Dec ((i ∈ A) × (i ∈ B) → ⊥)
  outside? i = Dec.not (Dec.and (member? A i) (member? B i))

  -- those not in both, all of one copy
  last_two : (k : Bool) (p : ℕ) → p < n → ((p ∈ A) × (p ∈ B) → ⊥) → decided k p ≡ given r n A B k
  unfolding decided
  last_two k p h s = served.valid (given r n A B k) (λ q j m. refl) p h (mask_in outside? n p h s)
    where
      S : ℕ
      S = mask outside? n

      apart : (x : ℕ) → x < n → x ∈ S → Inner? (part A B x) ≡ false
      apart x l m = not_both (member? A x) (member? B x) (in_mask outside? n x l m)

      served : Decides r n S (λ _. given r n A B k) (λ t q. doubled r n A B t k q)
      served = serves S (c, lacking.2, λ i j m. mask_in outside? n i j (λ w. lacking.3 i j w.0 w.1 m)) (λ _. given r n A B k) (λ t q. doubled r n A B t k q) (λ t q. hears r n A B t k q)
          (run r n A B S (λ _. k) (λ x y l m u v. no_inner (part A B x) (part A B y) k (apart x l u) (apart y m v)))

  beside? : (i : ℕ) → Dec ((i ∈ A) × (i ∈ B → ⊥) → ⊥)
  beside? i = Dec.not (Dec.and (member? A i) (Dec.not (member? B i)))

  abbrev copy : ℕ → Bool
  copy p = crossed (part A B p)

  -- those outside A of one copy, those in both of the other
  mixed : (p q : ℕ) → p < n → q < n → ((p ∈ A) × (p ∈ B → ⊥) → ⊥) → ((q ∈ A) × (q ∈ B → ⊥) → ⊥) → decided (copy p) p ≡ decided (copy q) q
  unfolding decided
  mixed p q h j s u = served.agrees p q h j (mask_in beside? n p h s) (mask_in beside? n q j u)
    where
      S : ℕ
      S = mask beside? n

      apart : (x : ℕ) → x < n → x ∈ S → Middle? (part A B x) ≡ false
      apart x l m = not_first_only (member? A x) (member? B x) (in_mask beside? n x l m)

      served : Decides r n S (λ x. given r n A B (copy x)) (λ t x. doubled r n A B t (copy x) x)
      served = serves S (b, lacking.1, λ i l m. mask_in beside? n i l (λ w. w.1 m)) (λ x. given r n A B (copy x)) (λ t x. doubled r n A B t (copy x) x) (λ t x. hears r n A B t (copy x) x)
          (run r n A B S copy (λ x y l m v w. no_middle (part A B x) (part A B y) (apart x l v) (apart y m w)))

  -- one controller in both A and B, and one outside A
  broken : (i j : ℕ) → i < n → j < n → i ∈ A → i ∈ B → (j ∈ A → ⊥) → ⊥
  broken i j h k ia ib ja = r.differ
      (sym (first_two false i h ia)
      ∙ ap (λ x. decided x i) (sym (is_inner (member? A i) (member? B i) ia ib))
      ∙ mixed i j h k (λ w. w.1 ib) (λ w. ja w.0)
      ∙ ap (λ x. decided x j) (is_outer (member? A j) (member? B j) ja)
      ∙ last_two true j k (λ w. ja w.0))

module _ (r : Rule) (n : ℕ) (sets : List ℕ) (some : NoneEmpty sets) (inside : Inside n sets) (serves : Serves r n sets) where
  -- each set has a controller
  member : (j : ℕ) → j < length sets → (i : ℕ) × (i < n) × (i ∈ get_or sets j 0)
  member j h = some_in n (get_or sets j 0) (inside j h) (some j h)

  impossible : (a b c : ℕ) → Lacking n sets a b c → ⊥
  impossible a b c lacking = start (seek (λ i. Dec.and (member? (get_or sets a 0) i) (member? (get_or sets b 0) i)) n) (member a lacking.0) (member b lacking.1) (member c lacking.2)
    where
      A : ℕ
      A = get_or sets a 0

      B : ℕ
      B = get_or sets b 0

      C : ℕ
      C = get_or sets c 0

      turned : Lacking n sets b a c
      turned = (lacking.1, lacking.0, lacking.2, λ i h x y z. lacking.3 i h y x z)

      shared : (i : ℕ) → i < n → i ∈ A → i ∈ B → (j : ℕ) → j < n → j ∈ C → Dec (j ∈ A) → ⊥
      shared i h x y j k z (no f) = broken r n sets serves a b c lacking i j h k x y f
      shared i h x y j k z (yes m) = broken r n sets serves b a c turned i j h k y x (λ l. lacking.3 j k m l z)

      start : ((i : ℕ) × (i < n) × ((i ∈ A) × (i ∈ B))) ⊎ ((i : ℕ) → i < n → (i ∈ A) × (i ∈ B) → ⊥)
          → (i : ℕ) × (i < n) × (i ∈ A) → (i : ℕ) × (i < n) × (i ∈ B) → (i : ℕ) × (i < n) × (i ∈ C) → ⊥
      start (inl (i, h, (x, y))) in-a in_b (j, k, z) = shared i h x y j k z (member? A j)
      start (inr f) (i, h, x) (j, k, y) in_c =
          broken r n sets serves a a b (lacking.0, lacking.0, lacking.1, λ u l p q s. f u l (q, s)) i j h k x x (λ m. f j k (m, y))

pub needs_threes : (r : Rule) → NeedsThrees r
needs_threes r n sets some inside serves a b c ha hb hc =
    elim (shares? n (get_or sets a 0) (get_or sets b 0) (get_or sets c 0)) [ inl w ↦ w | inr f ↦ absurd (impossible r n sets some inside serves a b c (ha, hb, hc, f)) ]
