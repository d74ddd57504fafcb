-- Rows in which the members of a group hear each other truly, whatever the others say.
use Rattle.std.proofs.Common.{◌≡◌, ℕ, zero, suc, ◌<◌, Bool, true, false, cond, [], ◌∷◌, length, sym, refl, ap, ◌∙◌, inl, inr, arith}
use Rattle.std.proofs.lemmas.Bool.{cases_Bool, cond-true, cond-false}
use Rattle.structure.specs.Groups.{◌∈◌, has}
use Rattle.structure.specs.Meanings.{Meaning}
use Rattle.structure.proofs.Bits.{has_decides}
use Rattle.duty.specs.Codes.{Code}
use Rattle.rounds.specs.Rows.{Word, Row, word_at, heard}
use Rattle.rounds.specs.Slots.{Stage, speaks, next, after}
use Rattle.rounds.specs.Slots.Stage.{poll}
use Rattle.rounds.specs.Agreement.{HeardTruly, RunsExist}

-- the row of n words made from a function of the place
abbrev pub row_of : (ℕ → Word) → ℕ → Row
row_of f zero = []
row_of f (suc n) = f 0 ∷ row_of (λ i. f (suc i)) n

row_length : (f : ℕ → Word) (n : ℕ) → length (row_of f n) ≡ n
row_length f zero = refl
row_length f (suc n) = ap suc (row_length (λ i. f (suc i)) n)

row_at : (f : ℕ → Word) (n i : ℕ) → i < n → word_at (row_of f n) i ≡ f i
row_at f zero i h = absurd (omega arith)
row_at f (suc n) zero h = refl
row_at f (suc n) (suc i) h = row_at (λ j. f (suc j)) n i (omega arith)

not_has : (S q : ℕ) → (q ∈ S → ⊥) → has S q ≡ false
not_has S q out = elim (cases_Bool (has S q)) [ inl e ↦ absurd (out ((has_decides S q).0 e)) | inr e ↦ e ]

module _ (m : Meaning) (fits : Code → Bool) (S : ℕ) (x : ℕ → Code) (free : ℕ → ℕ → ℕ → Word) where
  -- what p hears of q in round t, where the controllers stand at these stages
  abbrev pub says : (ℕ → Stage) → ℕ → ℕ → ℕ → Word
  says at t p q = cond (has S q) (speaks (at q)) (free p q t)

  -- all controllers, after t rounds
  abbrev pub stands : ℕ → ℕ → Stage
  stands zero q = poll 0 (x q)
  stands (suc t) q = next m (stands t q) (heard fits (row_of (says (stands t) t q) m.size))

  abbrev pub rows : ℕ → ℕ → Row
  rows p t = row_of (says (stands t) t p) m.size

  pub after_stands : (q t : ℕ) → after m fits (x q) (rows q) t ≡ stands t q
  after_stands q zero = refl
  after_stands q (suc t) = ap (λ s. next m s (heard fits (rows q t))) (after_stands q t)

  pub heard_truly : ((p : ℕ) → p < m.size → p ∈ S → fits (x p) ≡ true) → HeardTruly m fits S x rows
  heard_truly fit = record {
    fit = fit;
    whole = λ p t h i u. row_length (says (stands t) t p) m.size;
    truly = λ p q t hp hq ip iq u. row_at (says (stands t) t p) m.size q hq ∙ cond-true (has S q) (speaks (stands t q)) (free p q t) ((has_decides S q).1 iq) ∙ ap speaks (sym (after_stands q t));
  }

  pub said_freely : (p q t : ℕ) → q < m.size → (q ∈ S → ⊥) → word_at (rows p t) q ≡ free p q t
  said_freely p q t h out = row_at (says (stands t) t p) m.size q h ∙ cond-false (has S q) (speaks (stands t q)) (free p q t) (not_has S q out)

pub runs_exist : (m : Meaning) → RunsExist m
runs_exist m fits S x free fit = (rows m fits S x free, heard_truly m fits S x free fit, said_freely m fits S x free)
