-- Every three sets share a controller exactly where each split into three groups leaves a core whole.
use Rattle.std.proofs.Common.{ℕ, ◌<◌, ◌⊎◌, List, length, get_or, inl, inr}
use mathlib.Core.Logic.Dec
use Rattle.structure.specs.Groups.{◌∈◌}
use Rattle.structure.proofs.Masks.{member?, mask, mask_in, in_mask, mask_below, shares?}
use Rattle.cores.specs.Sharing.{ThreesShare, MeetsAll, HasCore, Split, SplitsKeepACore, WordingsAgree}
use Rattle.cores.proofs.Cores.{Apart, meets_all?, has_core}

-- one of the three groups meets every set, or three sets that they miss would share no controller
threes_then_splits : (n : ℕ) (sets : List ℕ) → ThreesShare n sets → SplitsKeepACore n sets
threes_then_splits n sets share x y z split = go (meets_all? n sets x) (meets_all? n sets y) (meets_all? n sets z)
  where
    Missed : ℕ → Type 0
    Missed g = (j : ℕ) × (j < length sets) × Apart n (get_or sets j 0) g

    nowhere : Missed x → Missed y → Missed z → ⊥
    nowhere (a, ha, f) (b, hb, g) (c, hc, h) =
        let (i, l, in-a, in_b, in_c) = share a b c ha hb hc in
        elim (split.placed i l) [ inl m ↦ f i l in-a m | inr (inl m) ↦ g i l in_b m | inr (inr m) ↦ h i l in_c m ]

    go : MeetsAll n sets x ⊎ Missed x → MeetsAll n sets y ⊎ Missed y → MeetsAll n sets z ⊎ Missed z → HasCore n sets x ⊎ (HasCore n sets y ⊎ HasCore n sets z)
    go (inl m) b c = inl (has_core n sets x m)
    go (inr a) (inl m) c = inr (inl (has_core n sets y m))
    go (inr a) (inr b) (inl m) = inr (inr (has_core n sets z m))
    go (inr a) (inr b) (inr c) = absurd (nowhere a b c)

-- the split by two sets: outside the first, in the first alone, in both
module _ (A B : ℕ) where
  outer? : (i : ℕ) → Dec (i ∈ A → ⊥)
  outer? i = Dec.not (member? A i)

  middle? : (i : ℕ) → Dec ((i ∈ A) × (i ∈ B → ⊥))
  middle? i = Dec.and (member? A i) (Dec.not (member? B i))

  inner? : (i : ℕ) → Dec ((i ∈ A) × (i ∈ B))
  inner? i = Dec.and (member? A i) (member? B i)

  split_by : (n : ℕ) → Split n (mask outer? n) (mask middle? n) (mask inner? n)
  split_by n = record {
    inside = (mask_below outer? n, mask_below middle? n, mask_below inner? n);
    placed = λ i h. put i h (member? A i) (member? B i);
    once = λ i h. (
      (λ x y. in_mask outer? n i h x (in_mask middle? n i h y).0),
      (λ x y. in_mask outer? n i h x (in_mask inner? n i h y).0),
      (λ x y. (in_mask middle? n i h x).1 (in_mask inner? n i h y).1),
    );
  }
    where
      put : (i : ℕ) → i < n → Dec (i ∈ A) → Dec (i ∈ B) → (i ∈ mask outer? n) ⊎ ((i ∈ mask middle? n) ⊎ (i ∈ mask inner? n))
      put i h (no f) d = inl (mask_in outer? n i h f)
      put i h (yes a) (no f) = inr (inl (mask_in middle? n i h (a, f)))
      put i h (yes a) (yes b) = inr (inr (mask_in inner? n i h (a, b)))

-- a part of that split which contains a core meets all three sets, so the third set meets the first two where they meet
splits_then_threes : (n : ℕ) (sets : List ℕ) → SplitsKeepACore n sets → ThreesShare n sets
splits_then_threes n sets keep a b c ha hb hc =
    elim (shares? n A B C) [ inl w ↦ w | inr f ↦ absurd (broken f (keep (mask (outer? A B) n) (mask (middle? A B) n) (mask (inner? A B) n) (split_by A B n))) ]
  where
    A : ℕ
    A = get_or sets a 0

    B : ℕ
    B = get_or sets b 0

    C : ℕ
    C = get_or sets c 0

    broken : ((i : ℕ) → i < n → i ∈ A → i ∈ B → i ∈ C → ⊥)
        → HasCore n sets (mask (outer? A B) n) ⊎ (HasCore n sets (mask (middle? A B) n) ⊎ HasCore n sets (mask (inner? A B) n)) → ⊥
    broken f (inl (k, core, within)) = let (i, h, s, m) = core.meets_all a ha in in_mask (outer? A B) n i h (within i h m) s
    broken f (inr (inl (k, core, within))) = let (i, h, s, m) = core.meets_all b hb in (in_mask (middle? A B) n i h (within i h m)).1 s
    broken f (inr (inr (k, core, within))) =
        let (i, h, s, m) = core.meets_all c hc in
        let both = in_mask (inner? A B) n i h (within i h m) in
        f i h both.0 both.1 s

pub wordings_agree : WordingsAgree
wordings_agree n sets = (threes_then_splits n sets, splits_then_threes n sets)
