-- The rounds give what their laws say in words.
use Rattle.std.proofs.Common.{◌≡◌, ℕ, zero, suc, ◌-◌, ◌^◌, ◌<◌, Bool, true, false, cond, ◌⊎◌, [], ◌∷◌, length, Some, None, Decides, sym, refl, ap, ◌∙◌, subst, inl, inr, arith}
use Rattle.std.proofs.lemmas.Bool.{cases_Bool, both_ways, not-true, not_from_false, false≢true}
use Rattle.structure.specs.Groups.{everyone}
use Rattle.structure.specs.Meanings.{Meaning, Laws}
use Rattle.structure.proofs.Masks.{meets?}
use Rattle.duty.specs.Codes.{Code}
use Rattle.rounds.specs.Rows.{Word, Row, word_at, group}
use Rattle.rounds.specs.Rounds.{first, or_else, has_enough, weighty, polled, confirmed, led}
use Rattle.rounds.specs.Laws.{Enough, Weighty, LowestWeighty, Polls, Confirms, Leads}
use Rattle.rounds.proofs.Words.{some_same, none_some, first_passes, first_found}
use Rattle.rounds.proofs.Groups.{group_below, in_group, outside_not, not_outside}

-- the first value that passes stands at some place, and none that passes at a lower one
pub first_lowest : (test : Code → Bool) (row : Row) (v : Code) → first test row ≡ Some v
    → (i : ℕ) × (word_at row i ≡ Some v) × ((j : ℕ) (w : Code) → j < i → word_at row j ≡ Some w → test w ≡ false)
first_lowest test [] v e = absurd (none_some v e)
first_lowest test (None ∷ ws) v e = let (i, h, f) = first_lowest test ws v e in (suc i, h, later f)
  where
    later : {i : ℕ} → ((j : ℕ) (w : Code) → j < i → word_at ws j ≡ Some w → test w ≡ false) → (j : ℕ) (w : Code) → j < suc i → word_at (None ∷ ws) j ≡ Some w → test w ≡ false
    later f zero w l h = absurd (none_some w h)
    later f (suc j) w l h = f j w (omega arith) h
first_lowest test (Some a ∷ ws) v e = go (test a) refl e (first_lowest test ws v)
  where
    go : (b : Bool) → test a ≡ b → cond b (Some a) (first test ws) ≡ Some v
        → (first test ws ≡ Some v → (i : ℕ) × (word_at ws i ≡ Some v) × ((j : ℕ) (w : Code) → j < i → word_at ws j ≡ Some w → test w ≡ false))
        → (i : ℕ) × (word_at (Some a ∷ ws) i ≡ Some v) × ((j : ℕ) (w : Code) → j < i → word_at (Some a ∷ ws) j ≡ Some w → test w ≡ false)
    go true t e rest = (0, e, λ j w l h. absurd (omega arith))
    go false t e rest = let (i, h, f) = rest e in (suc i, h, later f)
      where
        later : {i : ℕ} → ((j : ℕ) (w : Code) → j < i → word_at ws j ≡ Some w → test w ≡ false) → (j : ℕ) (w : Code) → j < suc i → word_at (Some a ∷ ws) j ≡ Some w → test w ≡ false
        later f zero w l h = subst (λ k. test k ≡ false) (some_same a w (Some a) refl h) t
        later f (suc j) w l h = f j w (omega arith) h

-- ---- lead
pub leads : (m : Meaning) (row : Row) (z : Code) (sure : Bool) (k : ℕ) → Leads m row z sure k (led m z sure k row)
leads m row z true k = record { sure_keeps = λ _. refl; unsure_takes = λ e. absurd (false≢true (sym e)); unsure_keeps = λ e. absurd (false≢true (sym e)) }
leads m row z false k = record { sure_keeps = λ e. absurd (false≢true e); unsure_takes = λ _ v e. rw e; unsure_keeps = λ _ e. rw e }

module _ (m : Meaning) (laws : Laws m) where
  -- a group that is enough is not empty: someone says the value
  pub enough_said : (row : Row) (v : Code) → Enough m row v → (i : ℕ) × (i < m.size) × (word_at row i ≡ Some v)
  enough_said row v e = let (i, l, x, _, _) = laws.share (group v row) (group v row) (group v row) e e e in (i, l, in_group v row i x)

  -- two values whose groups are enough are one: some controller says both
  pub enough_one : (row : Row) (v w : Code) → Enough m row v → Enough m row w → v ≡ w
  enough_one row v w p q =
      let (i, l, x, y, _) = laws.share (group v row) (group w row) (group w row) p q q in
      some_same v w (word_at row i) (in_group v row i x) (in_group w row i y)

  pub polled_value : (row : Row) (v : Code) → Enough m row v → polled m row ≡ Some v
  polled_value row v e =
      let (i, _, h) = enough_said row v e in
      let (w, f) = first_found (has_enough m row) row i v h e in
      f ∙ ap Some (enough_one row w v (first_passes (has_enough m row) row w f) e)

  -- ---- poll
  pub polls : (row : Row) → Polls m row (polled m row)
  polls row = record {
    nothing = (λ e v p. none_some v (sym e ∙ polled_value row v p), λ f. none f (polled m row) refl);
    value = λ v. (first_passes (has_enough m row) row v, polled_value row v);
  }
    where
      none : ((v : Code) → Enough m row v → ⊥) → (w : Word) → polled m row ≡ w → w ≡ None
      none f None e = refl
      none f (Some v) e = absurd (f v (first_passes (has_enough m row) row v e))

  -- ---- confirm
  module _ (row : Row) (whole : length row ≡ m.size) where
    group_small : (v : Code) → group v row < 2 ^ m.size
    group_small v = rw whole at (group_below v row)

    abbrev outside : Code → ℕ
    outside v = everyone m.size - group v row

    pub weighty_decides : (v : Code) → Decides (weighty m row v) (Weighty m row v)
    weighty_decides v = (there, back)
      where
        there : weighty m row v ≡ true → Weighty m row v
        there t g e = elim (meets? m.size g (group v row)) [
          | inl meets ↦ meets
          | inr apart ↦
              let inside = laws.more g (outside v) (λ i h x. not_outside m.size (group v row) i (group_small v) h (apart i h x)) e in
              absurd (both_ways (m.enough (outside v)) (not-true (m.enough (outside v)) t) inside)
        ]

        back : Weighty m row v → weighty m row v ≡ true
        back f = not_from_false (m.enough (outside v)) (elim (cases_Bool (m.enough (outside v))) [
          | inl t ↦ let (i, l, x, y) = f (outside v) t in absurd (outside_not m.size (group v row) i (group_small v) l x y)
          | inr t ↦ t
        ])

    -- every enough group meets that of a value whose group is enough
    pub enough_weighty : (v : Code) → Enough m row v → Weighty m row v
    enough_weighty v e g h = let (i, l, x, y, _) = laws.share g (group v row) (group v row) h e e in (i, l, x, y)

    -- a weighty value is said by someone
    pub weighty_said : (v : Code) → Weighty m row v → (i : ℕ) × (i < m.size) × (word_at row i ≡ Some v)
    weighty_said v w = let (i, l, _, y) = w (everyone m.size) laws.all in (i, l, in_group v row i y)

    pub confirms : (x : Code) → Confirms m row x (confirmed m x row) (has_enough m row (confirmed m x row))
    confirms x = record {
      value = chosen (first (weighty m row) row) refl;
      sure_when = (λ e. e, λ e. e);
      enough_weighty = enough_weighty;
    }
      where
        chosen : (w : Word) → first (weighty m row) row ≡ w → ((i : ℕ) × LowestWeighty m row i (or_else w x)) ⊎ (((v : Code) → Weighty m row v → ⊥) × (or_else w x ≡ x))
        chosen None e = inr (
          λ v f. let (i, _, h) = weighty_said v f in let (u, g) = first_found (weighty m row) row i v h ((weighty_decides v).1 f) in none_some u (sym e ∙ g),
          refl,
        )
        chosen (Some z) e =
            let (i, h, f) = first_lowest (weighty m row) row z e in
            inl (
              i,
              record {
                stands = h;
                is_weighty = (weighty_decides z).0 (first_passes (weighty m row) row z e);
                lowest = λ j w l s g. both_ways (weighty m row w) (f j w l s) ((weighty_decides w).1 g);
              },
            )
