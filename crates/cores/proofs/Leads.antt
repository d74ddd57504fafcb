-- The leading core: the search finds it, and there is only one.
use Rattle.std.proofs.Common.{◌≡◌, ℕ, zero, suc, ◌^◌, ◌<◌, ◌≤◌, Bool, true, false, cond, ◌&&◌, ltb, ◌⊎◌, List, get_or, Some, None, Option, sym, refl, ap, ◌∙◌, subst, inl, inr, arith}
use Rattle.std.proofs.lemmas.Bool.{cases_eq, cases_lt, and_parts, and_cases, ltb-true, ltb-false, both_ways}
use Rattle.structure.specs.Groups.{everyone, count}
use Rattle.structure.proofs.Bits.{cut, cut_below, in_cut, cut_in, some_in, none_in, everyone_has, everyone_below}
use Rattle.structure.proofs.Members.{count_part, count_less, count_full}
use Rattle.cores.specs.Sharing.{MeetsAll}
use Rattle.cores.specs.Leads.{Leading, meets_all, better, best_below, or_empty, leading_core, Wiring}
use Rattle.cores.proofs.Cores.{meets_more}
use Rattle.cores.proofs.Tests.{meets_all_decides}

-- ---- the best group so far
module _ (n : ℕ) (sets : List ℕ) where
  -- of the groups below `upto`, b has fewest controllers among those that meet all sets, and is the first of these;
  -- b is one of them, or the group of all
  pub record Best (upto b : ℕ) : Type 0 where
    pub below : b < 2 ^ n
    pub from : (b < upto) ⊎ (b ≡ everyone n)
    pub meets : MeetsAll n sets b
    pub smallest : (h : ℕ) → h < upto → MeetsAll n sets h → count n b ≤ count n h
    pub lowest : (h : ℕ) → h < upto → MeetsAll n sets h → count n h ≡ count n b → b ≤ h

  -- group k takes its place, or does not
  pub best_takes : (k b : ℕ) → k < 2 ^ n → MeetsAll n sets k → count n k < count n b → Best k b → Best (suc k) k
  best_takes k b l m f s = record {
    below = l;
    from = inl (omega arith);
    meets = m;
    smallest = λ h u w. elim (cases_eq h k) [ inl z ↦ omega (arith, ap (count n) z) | inr ne ↦ omega (arith, s.smallest h (omega arith) w) ];
    lowest = λ h u w e. elim (cases_eq h k) [ inl z ↦ omega arith | inr ne ↦ absurd (omega (arith, s.smallest h (omega arith) w)) ];
  }

  pub best_keeps : (k b : ℕ) → k < 2 ^ n → (MeetsAll n sets k → count n b ≤ count n k) → Best k b → Best (suc k) b
  best_keeps k b l f s = record {
    below = s.below;
    from = elim s.from [ inl u ↦ inl (omega arith) | inr z ↦ inr z ];
    meets = s.meets;
    smallest = λ h u w. elim (cases_eq h k) [ inl z ↦ omega (arith, ap (count n) z, f (subst (λ v. MeetsAll n sets v) z w)) | inr ne ↦ s.smallest h (omega arith) w ];
    lowest = λ h u w e. elim (cases_eq h k) [
      | inl z ↦ omega (arith, before (sym (ap (count n) z) ∙ e))
      | inr ne ↦ s.lowest h (omega arith) w e
    ];
  }
    where
      before : count n k ≡ count n b → b ≤ k
      before e = elim s.from [ inl u ↦ omega arith | inr z ↦ omega (arith, count_full n k l (e ∙ ap (count n) z)) ]

  -- the best of all groups of the yard leads
  pub best_leads : (b : ℕ) → Best (2 ^ n) b → Leading n sets b
  best_leads b s = record {
    core = record {
      inside = s.below;
      meets_all = s.meets;
      minimal = λ h (w, (i, l, x, out)) m. omega (arith, smallest h m, count_less n h b i w l x out);
    };
    smallest = smallest;
    lowest = λ h m e. elim (cases_lt h (2 ^ n)) [ inl l ↦ s.lowest h l m e | inr l ↦ omega (arith, s.below) ];
  }
    where
      smallest : (h : ℕ) → MeetsAll n sets h → count n b ≤ count n h
      smallest h m =
          let a = s.smallest (cut n h) (cut_below n h) (meets_more n sets h (cut n h) (in_cut n h) m) in
          omega (arith, count_part n (cut n h) h (λ i l. cut_in n h i))

-- there is only one
pub leading_unique : (n : ℕ) (sets : List ℕ) (g h : ℕ) → Leading n sets g → Leading n sets h → g ≡ h
leading_unique n sets g h p q =
    let a = p.smallest h q.core.meets_all in
    let b = q.smallest g p.core.meets_all in
    omega (arith, p.lowest h q.core.meets_all (omega arith), q.lowest g p.core.meets_all (omega arith))

-- ---- the search of specs/
module _ (n : ℕ) (sets : List ℕ) where
  abbrev Sought : ℕ → Option ℕ → Type 0
  Sought k None = (h : ℕ) → h < k → MeetsAll n sets h → ⊥
  Sought k (Some b) = Best n sets k b

  sought_more : (k : ℕ) (o : Option ℕ) → k < 2 ^ n → Sought k o → Sought (suc k) (better n sets k o)
  sought_more k None l s = go (meets_all n sets k) refl
    where
      go : (t : Bool) → meets_all n sets k ≡ t → Sought (suc k) (cond t (Some k) None)
      go true e = record {
        below = l;
        from = inl (omega arith);
        meets = (meets_all_decides n sets k).0 e;
        smallest = λ h u m. elim (cases_eq h k) [ inl z ↦ omega (arith, ap (count n) z) | inr ne ↦ absurd (s h (omega arith) m) ];
        lowest = λ h u m q. elim (cases_eq h k) [ inl z ↦ omega arith | inr ne ↦ absurd (s h (omega arith) m) ];
      }
      go false e = λ h u m. elim (cases_eq h k) [
        | inl z ↦ both_ways (meets_all n sets k) e ((meets_all_decides n sets k).1 (subst (λ v. MeetsAll n sets v) z m))
        | inr ne ↦ s h (omega arith) m
      ]
  sought_more k (Some b) l s = go (meets_all n sets k && ltb (count n k) (count n b)) refl
    where
      go : (t : Bool) → (meets_all n sets k && ltb (count n k) (count n b)) ≡ t → Sought (suc k) (cond t (Some k) (Some b))
      go true e =
          let (m, f) = and_parts (meets_all n sets k) (ltb (count n k) (count n b)) e in
          best_takes n sets k b l ((meets_all_decides n sets k).0 m) (ltb-true (count n k) (count n b) f) s
      go false e = best_keeps n sets k b l (λ m. elim (and_cases (meets_all n sets k) (ltb (count n k) (count n b)) e) [
        | inl f ↦ absurd (both_ways (meets_all n sets k) f ((meets_all_decides n sets k).1 m))
        | inr f ↦ ltb-false (count n k) (count n b) f
      ]) s

  sought : (k : ℕ) → k ≤ 2 ^ n → Sought k (best_below n sets k)
  sought zero h = λ h l m. omega arith
  sought (suc k) h = sought_more k (best_below n sets k) h (sought k (omega arith))

  found : (k h : ℕ) (o : Option ℕ) → Sought k o → h < k → MeetsAll n sets h → Best n sets k (or_empty o)
  found k h None s l m = absurd (s h l m)
  found k h (Some b) s l m = s

-- ---- the leading core of a wiring
module _ (n : ℕ) (sets : List ℕ) (wiring : Wiring n sets) where
  pub everyone_meets : MeetsAll n sets (everyone n)
  everyone_meets j h = let (i, l, m) = some_in n (get_or sets j 0) (wiring.inside j h) (wiring.peopled j h) in (i, l, m, everyone_has n i l)

  pub empty_misses : MeetsAll n sets 0 → ⊥
  empty_misses m = let (i, l, x, y) = m 0 wiring.some in none_in i y

  -- before any group was looked at, the group of all is the best
  pub best_none : Best n sets 1 (everyone n)
  best_none = record {
    below = everyone_below n;
    from = inr refl;
    meets = everyone_meets;
    smallest = λ h l m. absurd (empty_misses (subst (λ v. MeetsAll n sets v) (omega arith) m));
    lowest = λ h l m e. absurd (empty_misses (subst (λ v. MeetsAll n sets v) (omega arith) m));
  }

  -- once all groups but the last were looked at, that of all, the best leads
  pub best_done : (b upto : ℕ) → everyone n ≤ upto → Best n sets upto b → Leading n sets b
  best_done b upto l s = best_leads n sets b (record {
    below = s.below;
    from = inl s.below;
    meets = s.meets;
    smallest = λ h u m. elim (cases_eq h (everyone n)) [ inl z ↦ omega (arith, ap (count n) z, most) | inr ne ↦ s.smallest h (omega arith) m ];
    lowest = λ h u m e. elim (cases_eq h (everyone n)) [ inl z ↦ omega (arith, s.below) | inr ne ↦ s.lowest h (omega arith) m e ];
  })
    where
      most : count n b ≤ count n (everyone n)
      most = count_part n b (everyone n) (λ i h _. everyone_has n i h)

  pub leading_leads : Leading n sets (leading_core n sets)
  leading_leads =
      best_leads n sets (leading_core n sets)
      (found n sets (2 ^ n) (everyone n) (best_below n sets (2 ^ n)) (sought n sets (2 ^ n) (omega arith)) (everyone_below n) everyone_meets)
