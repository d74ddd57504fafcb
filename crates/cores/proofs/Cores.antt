-- A group that meets every set contains a core.
use Rattle.std.proofs.Common.{◌≡◌, ℕ, zero, suc, ◌^◌, ◌<◌, ◌≤◌, ◌⊎◌, List, length, get_or, subst, inl, inr, arith}
use mathlib.Core.Logic.Dec
use native.Mathlib.Decide.{ℕ_discrete}
use Rattle.structure.specs.Groups.{◌∈◌, Within, Meets}
use Rattle.structure.proofs.Bits.{cut, cut_below, in_cut, cut_in}
use Rattle.structure.proofs.Masks.{member?, mask, mask_in, in_mask, mask_below, seek, meets?}
use Rattle.cores.specs.Sharing.{MeetsAll, HasCore}

-- the two groups have no controller in common
abbrev pub Apart : ℕ → ℕ → ℕ → Type 0
Apart n a b = (i : ℕ) → i < n → i ∈ a → i ∈ b → ⊥

-- the group meets every set, or is apart from one
pub meets_all? : (n : ℕ) (sets : List ℕ) (g : ℕ) → MeetsAll n sets g ⊎ ((j : ℕ) × (j < length sets) × Apart n (get_or sets j 0) g)
meets_all? n sets g = elim (seek (λ j. apart? (get_or sets j 0)) (length sets)) [ inl w ↦ inr w | inr f ↦ inl (λ j h. met (get_or sets j 0) (f j h)) ]
  where
    apart? : (a : ℕ) → Dec (Apart n a g)
    apart? a = elim (meets? n a g) [ inl (i, h, x, y) ↦ no (λ f. f i h x y) | inr f ↦ yes f ]

    met : (a : ℕ) → (Apart n a g → ⊥) → Meets n a g
    met a f = elim (meets? n a g) [ inl m ↦ m | inr apart ↦ absurd (f apart) ]

pub meets_more : (n : ℕ) (sets : List ℕ) (g h : ℕ) → Within n g h → MeetsAll n sets g → MeetsAll n sets h
meets_more n sets g h w m j l = let (i, k, x, y) = m j l in (i, k, x, w i k y)

-- ---- k without the controller i
others? : (k i j : ℕ) → Dec ((j ∈ k) × (j ≡ i → ⊥))
others? k i j = Dec.and (member? k j) (Dec.not (ℕ_discrete j i))

without : ℕ → ℕ → ℕ → ℕ
without n k i = mask (others? k i) n

without_in : (n k i j : ℕ) → j < n → j ∈ k → (j ≡ i → ⊥) → j ∈ without n k i
unfolding without
without_in n k i j h x e = mask_in (others? k i) n j h (x, e)

in_without : (n k i j : ℕ) → j < n → j ∈ without n k i → (j ∈ k) × (j ≡ i → ⊥)
unfolding without
in_without n k i j h x = in_mask (others? k i) n j h x

without_below : (n k i : ℕ) → without n k i < 2 ^ n
unfolding without
without_below n k i = mask_below (others? k i) n

-- ---- leave out one controller after another where the rest still meets every set
module _ (n : ℕ) (sets : List ℕ) (g : ℕ) (met : MeetsAll n sets g) where
  -- none of the first m controllers of k can be left out
  record Trimmed (m k : ℕ) : Type 0 where
    pub below : k < 2 ^ n
    pub within : Within n k g
    pub meets : MeetsAll n sets k
    pub needed : (i : ℕ) → i < m → i ∈ k → MeetsAll n sets (without n k i) → ⊥

  trimmed_more : (m k : ℕ) → m < n → Trimmed m k → (k' : ℕ) × Trimmed (suc m) k'
  trimmed_more m k h t = step (meets_all? n sets (without n k m))
    where
      step : MeetsAll n sets (without n k m) ⊎ ((j : ℕ) × (j < length sets) × Apart n (get_or sets j 0) (without n k m)) → (k' : ℕ) × Trimmed (suc m) k'
      step (inl w) = (
        without n k m,
        record {
          below = without_below n k m;
          within = λ i l x. t.within i l (in_without n k m i l x).0;
          meets = w;
          needed = λ i l x w'. t.needed i (omega (arith, (in_without n k m i (omega arith) x).1)) (in_without n k m i (omega arith) x).0
              (meets_more n sets (without n (without n k m) i) (without n k i)
              (λ j u y. without_in n k i j u (in_without n k m j u (in_without n (without n k m) i j u y).0).0 (in_without n (without n k m) i j u y).1) w');
        },
      )
      step (inr (j, l, apart)) = (
        k,
        record { below = t.below; within = t.within; meets = t.meets; needed = λ i l x w'. last i l x w' (ℕ_discrete i m) },
      )
        where
          last : (i : ℕ) → i < suc m → i ∈ k → MeetsAll n sets (without n k i) → Dec (i ≡ m) → ⊥
          last i l x w' (no d) = t.needed i (omega arith) x w'
          last i _ x w' (yes e) =
              let (c, h', y, z) = subst (λ v. MeetsAll n sets (without n k v)) e w' j l in
              apart c h' y z

  trimmed : (m : ℕ) → m ≤ n → (k : ℕ) × Trimmed m k
  trimmed zero h = (
    cut n g,
    record {
      below = cut_below n g;
      within = λ i l x. cut_in n g i x;
      meets = meets_more n sets g (cut n g) (λ i l x. in_cut n g i l x) met;
      needed = λ i l x w. omega arith;
    },
  )
  trimmed (suc m) h = trimmed_more m (trimmed m (omega arith)).0 h (trimmed m (omega arith)).1

  pub has_core : HasCore n sets g
  has_core = made (trimmed n (omega arith))
    where
      made : (k : ℕ) × Trimmed n k → HasCore n sets g
      made (k, t) = (
        k,
        record {
          inside = t.below;
          meets_all = t.meets;
          minimal = λ h (w, (i, l, x, out)) m. t.needed i l x
              (meets_more n sets h (without n k i) (λ j u y. without_in n k i j u (w j u y) (λ e. out (subst (λ v. v ∈ h) e y))) m);
        },
        t.within,
      )
