-- A board after any run of steps.
use Rattle.std.proofs.Common.{◌≡◌, ℕ, zero, suc, ◌<◌, ◌≤◌, Bool, true, false, cond, ◌&&◌, eqb, ltb, leb, ◌⊎◌, List, [], ◌∷◌, ◌++◌, reverse, length, get_or, replicate, sum, sym, refl, ap, ◌∙◌, subst, inl, inr, arith, length-set}
use mathlib.Core.List.{reverse-cons}
use Rattle.std.proofs.lemmas.List.{get_or-set_same, get_or-set_other, length-replicate}
use Rattle.std.proofs.lemmas.Bool.{cases_Bool, cases_lt, and_parts, ltb-true, eqb-true, eqb-false, cond-true, cond-false}
use Rattle.duty.specs.Codes.{Code}
use Rattle.duty.specs.Outcomes.{is_taken}
use Rattle.duty.specs.Steps.{next, takes, after, taken}
use Rattle.depot.specs.Boards.{Settings, new_board, bay_of, amps_in, fitting, replaced, step}
use Rattle.depot.specs.BoardLaws.{first_for, Kept}
use Rattle.depot.proofs.BayLists.{sum_zeros}
use Rattle.depot.proofs.Steps.{step_within, step_past}

-- the amps of the first of the grants for this bay, or those that it had before
abbrev first_or : ℕ → ℕ → List Code → ℕ
first_or old bay [] = old
first_or old bay (grant ∷ grants) = cond (eqb (bay_of grant) bay) (amps_in grant) (first_or old bay grants)

-- one grant before all others counts as what the bay had before
first_or_push : (old bay : ℕ) (grants : List Code) (grant : Code) → first_or old bay (grants ++ grant ∷ []) ≡ first_or (cond (eqb (bay_of grant) bay) (amps_in grant) old) bay grants
first_or_push old bay [] grant = refl
first_or_push old bay (g ∷ gs) grant = ap (λ x. cond (eqb (bay_of g) bay) (amps_in g) x) (first_or_push old bay gs grant)

first_or_none : (bay : ℕ) (grants : List Code) → first_or 0 bay grants ≡ first_for bay grants
first_or_none bay [] = refl
first_or_none bay (g ∷ gs) = ap (λ x. cond (eqb (bay_of g) bay) (amps_in g) x) (first_or_none bay gs)

-- what a bay has once a grant's bay is replaced
get_or_replaced : (amps : List ℕ) (grant : Code) (bay : ℕ) → bay_of grant < length amps → get_or (replaced amps grant) bay 0 ≡ cond (eqb (bay_of grant) bay) (amps_in grant) (get_or amps bay 0)
get_or_replaced amps grant bay inside =
    elim (cases_Bool (eqb (bay_of grant) bay)) [
      | inl same ↦
          rw same (rw (sym (eqb-true (bay_of grant) bay same)) (get_or-set_same amps (bay_of grant) (amps_in grant) 0 inside))
      | inr other ↦
          rw other (get_or-set_other amps (bay_of grant) bay (amps_in grant) 0 (λ e. eqb-false (bay_of grant) bay other (sym e)))
    ]

-- on a new board each bay has 0, and so have those that do not exist
get_or_zeros : (n bay : ℕ) → ◌≡◌ {A = ℕ} (get_or (replicate n 0) bay 0) 0
get_or_zeros zero bay = refl
get_or_zeros (suc n) zero = refl
get_or_zeros (suc n) (suc bay) = get_or_zeros n bay

module _ (s : Settings) where
  -- what one grant does: nothing, or it is taken, within the feed
  abbrev Moves : List ℕ → Code → List ℕ → Bool → Type 0
  Moves amps grant amps' is_taken' =
      ((amps' ≡ amps) × (is_taken' ≡ false)) ⊎
      ((amps' ≡ replaced amps grant) × (is_taken' ≡ true) × (bay_of grant < s.bays) × (sum (replaced amps grant) ≤ s.feed))

  moves : (amps : List ℕ) (grant : Code) → Moves amps grant (next fitting step s amps grant) (takes fitting step s amps grant)
  moves amps grant =
      elim (cases_Bool (fitting s grant)) [
        | inr unfit ↦ inl (cond-false (fitting s grant) _ amps unfit, ap (λ b. b && is_taken (step s amps grant).1) unfit)
        | inl fit ↦
            elim (cases_lt s.feed (sum (replaced amps grant))) [
              | inl past ↦
                  let stepped = step_past s amps grant past in
                  inl (
                    cond-true (fitting s grant) (step s amps grant).0 amps fit ∙ ap (λ p. p.0) stepped,
                    ap (λ b. b && is_taken (step s amps grant).1) fit ∙ ap (λ p. is_taken p.1) stepped,
                  )
              | inr within ↦
                  let stepped = step_within s amps grant within in
                  inr (
                    cond-true (fitting s grant) (step s amps grant).0 amps fit ∙ ap (λ p. p.0) stepped,
                    ap (λ b. b && is_taken (step s amps grant).1) fit ∙ ap (λ p. is_taken p.1) stepped,
                    ltb-true (bay_of grant) s.bays (and_parts (ltb (bay_of grant) s.bays) (leb (amps_in grant) 1000) fit).0,
                    within,
                  )
            ]
      ]

  -- from these amps, with these grants taken, to those amps
  record From (amps : List ℕ) (taken : List Code) (amps' : List ℕ) : Type 0 where
    all_bays : length amps' ≡ s.bays
    within_feed : sum amps' ≤ s.feed
    last_grant : (bay : ℕ) → get_or amps' bay 0 ≡ first_or (get_or amps bay 0) bay (reverse taken)

  -- one grant more before the others
  from_more : (amps : List ℕ) (grant : Code) (between : List ℕ) (is_taken' : Bool) (taken : List Code) (amps' : List ℕ) → length amps ≡ s.bays → Moves amps grant between is_taken' → From between taken amps' → From amps (cond is_taken' (grant ∷ taken) taken) amps'
  from_more amps grant between is_taken' taken amps' full (inl stays) f =
      rw stays.1 (subst (λ xs. From xs taken amps') stays.0 f)
  from_more amps grant between is_taken' taken amps' full (inr goes) f =
      let inside : bay_of grant < length amps = omega (arith, goes.2) in
      rw goes.1
      (record {
        all_bays = f.all_bays;
        within_feed = f.within_feed;
        last_grant = λ bay.
            f.last_grant bay
            ∙ ap (λ xs. first_or (get_or xs bay 0) bay (reverse taken)) goes.0
            ∙ ap (λ x. first_or x bay (reverse taken)) (get_or_replaced amps grant bay inside)
            ∙ sym (first_or_push (get_or amps bay 0) bay (reverse taken) grant)
            ∙ ap (first_or (get_or amps bay 0) bay) (sym (reverse-cons grant taken));
      })

  -- a grant leaves the number of bays and keeps within the feed
  moved_bays : (amps : List ℕ) (grant : Code) (between : List ℕ) (is_taken' : Bool) → Moves amps grant between is_taken' → length amps ≡ s.bays → length between ≡ s.bays
  moved_bays amps grant between is_taken' (inl stays) full = ap length stays.0 ∙ full
  moved_bays amps grant between is_taken' (inr goes) full = ap length goes.0 ∙ length-set amps (bay_of grant) (amps_in grant) ∙ full

  moved_within : (amps : List ℕ) (grant : Code) (between : List ℕ) (is_taken' : Bool) → Moves amps grant between is_taken' → sum amps ≤ s.feed → sum between ≤ s.feed
  moved_within amps grant between is_taken' (inl stays) within = rw stays.0 within
  moved_within amps grant between is_taken' (inr goes) within = rw goes.0 goes.3

  from_all : (amps : List ℕ) → length amps ≡ s.bays → sum amps ≤ s.feed → (values : List Code) → From amps (taken fitting step s amps values) (after fitting step s amps values)
  from_all amps full within [] = record { all_bays = full; within_feed = within; last_grant = λ bay. refl }
  from_all amps full within (v ∷ vs) =
      let m = moves amps v in
      from_more amps v (next fitting step s amps v) (takes fitting step s amps v) (taken fitting step s (next fitting step s amps v) vs) (after fitting step s (next fitting step s amps v) vs) full m
      (from_all (next fitting step s amps v) (moved_bays amps v (next fitting step s amps v) (takes fitting step s amps v) m full) (moved_within amps v (next fitting step s amps v) (takes fitting step s amps v) m within) vs)

  -- a new board keeps its law over every run of steps
  pub new_keeps : (amps : List ℕ) → amps ≡ new_board s → (values : List Code) → Kept s (taken fitting step s amps values) (after fitting step s amps values)
  new_keeps amps new values =
      let none = ap sum new ∙ sum_zeros s.bays in
      let f = from_all amps (ap length new ∙ length-replicate s.bays 0) (omega arith) values in
      record {
        all_bays = f.all_bays;
        within_feed = f.within_feed;
        last_grant = λ bay.
            f.last_grant bay
            ∙ ap (λ x. first_or x bay (reverse (taken fitting step s amps values))) (ap (λ xs. get_or xs bay 0) new ∙ get_or_zeros s.bays bay)
            ∙ first_or_none bay (reverse (taken fitting step s amps values));
      }
