-- What a tally of the row as it came says of the row as it is heard.
use Rattle.std.proofs.Common.{◌≡◌, ◌-◌, ◌≤◌, Bool, true, false, not, List, [], ◌∷◌, length, take, Option, sym, refl, ap, ◌∙◌, inl, inr}
use native.Mathlib.Nat.{sub-zero}
use Rattle.std.proofs.lemmas.List.{take_all}
use Rattle.std.proofs.lemmas.Bool.{false≢true, cases_Bool}
use Rattle.structure.specs.Groups.{everyone}
use Rattle.structure.specs.Meanings.{Meaning, Laws}
use Rattle.structure.proofs.Bits.{none_in}
use Rattle.duty.specs.Codes.{Code}
use Rattle.duty.specs.declared.values.Same.{Ghosts as Same}
use Rattle.rounds.specs.Rows.{Word, Row, heard_word, heard, says, group}
use Rattle.rounds.specs.Rounds.{has_enough, weighty}
use Rattle.rounds.proofs.Words.{heard_fits, says_true}
use Rattle.rounds.proofs.Groups.{group_heard}
use Rattle.engine.specs.Words.{codes}

-- the tally of a value that fits is its group in the row as it is heard
pub fit_group : {V : Type 0} (K : Same V) (fits : Code → Bool) (words : List (Option V)) (v : Code) → length words ≤ 16 → fits v ≡ true →
    group v (codes K (take 16 words)) ≡ group v (heard fits (codes K words))
fit_group K fits words v short fit = ap (λ ws. group v (codes K ws)) (take_all 16 words short) ∙ sym (group_heard fits v (codes K words) fit)

module _ (fits : Code → Bool) (v : Code) (unfit : fits v ≡ false) where
  unsaid : (w : Word) → says v (heard_word fits w) ≡ false
  unsaid w = elim (cases_Bool (says v (heard_word fits w))) [
    | inl e ↦ absurd (false≢true (sym unfit ∙ heard_fits fits w v (says_true v (heard_word fits w) e)))
    | inr e ↦ e
  ]

  -- nobody is heard to say an unfit value
  unfit_group : (row : Row) → group v (heard fits row) ≡ 0
  unfit_group [] = refl
  unfit_group (w ∷ ws) = rw (unsaid w, unfit_group ws)

-- the empty group is not enough: three enough groups share a controller
none_enough : (m : Meaning) → Laws m → m.enough 0 ≡ false
none_enough m laws = elim (cases_Bool (m.enough 0)) [
  | inl e ↦ let s = laws.share 0 0 0 e e e in absurd (none_in s.0 s.2)
  | inr e ↦ e
]

module _ (m : Meaning) (laws : Laws m) (fits : Code → Bool) (row : Row) (v : Code) (unfit : fits v ≡ false) where
  -- so an unfit value passes neither test
  pub unfit_enough : has_enough m (heard fits row) v ≡ false
  unfit_enough = ap m.enough (unfit_group fits v unfit row) ∙ none_enough m laws

  pub unfit_weighty : weighty m (heard fits row) v ≡ false
  unfit_weighty = ap (λ g. not (m.enough (everyone m.size - g))) (unfit_group fits v unfit row) ∙ rw (sub-zero (everyone m.size), laws.all) refl
