-- Words of values, and the words of a row at its places.
use Rattle.std.proofs.Common.{◌≡◌, ℕ, zero, suc, ◌+◌, ◌<◌, ◌≤◌, List, [], ◌∷◌, length, get_or, drop, Some, None, Option, unwrap_or, Bor, Bool, true, false, cond, sym, refl, ap, ◌∙◌, add-one, arith, drop-cons}
use Rattle.duty.specs.Codes.{Code}
use Rattle.duty.specs.declared.values.Same.{Ghosts as Same}
use Rattle.std.specs.Option.{option_copied, MatchOption}
use Rattle.rounds.specs.Rows.{Row, word_at, heard_word, same_code, says}
use Rattle.rounds.specs.Rounds.{or_else}
use Rattle.engine.specs.Words.{word_code, codes}

pub word_past : (row : Row) (i : ℕ) → length row ≤ i → word_at row i ≡ None
word_past [] i h = refl
word_past (w ∷ ws) zero h = absurd (omega arith)
word_past (w ∷ ws) (suc i) h = word_past ws i (omega arith)

module _ {V : Type 0} (K : Same V) where
  pub length_codes : (words : List (Option V)) → length (codes K words) ≡ length words
  length_codes [] = refl
  length_codes (w ∷ ws) = ap suc (length_codes ws)

  pub code_at : (words : List (Option V)) (i : ℕ) (word : Option V) → i < length words → word ≡ get_or words i word → word_at (codes K words) i ≡ word_code K word
  code_at [] i word h e = absurd (omega arith)
  code_at (w ∷ ws) zero word h e = ap (word_code K) (sym e)
  code_at (w ∷ ws) (suc i) word h e = code_at ws i word (omega arith) e

  -- the codes from a place on begin with the word at that place
  pub codes_from : (words : List (Option V)) (i : ℕ) (word : Option V) → i < length words → word ≡ get_or words i word →
      codes K (drop i words) ≡ word_code K word ∷ codes K (drop (i + 1) words)
  codes_from words i word here is = ap (codes K) (drop-cons words i word here) ∙ rw (sym is, add-one i) refl

  -- a value or another
  pub code_or : (word : Option V) (v : V) → K.code (unwrap_or word v) ≡ or_else (word_code K word) (K.code v)
  code_or None v = refl
  code_or (Some w) v = refl

  -- the word is the value where it has one that `P` says so of
  pub when_said : (value : V) (word : Option V) (o : Option (Bor V)) (r : Bool) {P : Bor V → Type 0} → option_copied o ≡ word → MatchOption o (r ≡ false) P →
      ((x : Bor V) → P x → r ≡ same_code (K.code value) (K.code x.now)) → r ≡ says (K.code value) (word_code K word)
  when_said value word None r e h k = rw (← e) h
  when_said value word (Some x) r e h k = rw (← e) (k x h)

  -- the word heard is the word itself where its value fits, and nothing else
  pub when_heard : (fits : Code → Bool) (word r : Option V) {P : V → Type 0} → MatchOption word (r ≡ None) P →
      ((x : V) → P x → r ≡ cond (fits (K.code x)) (Some x) None) → word_code K r ≡ heard_word fits (word_code K word)
  when_heard fits None r h k = rw h
  when_heard fits (Some x) r h k = rw (k x h) (go (fits (K.code x)))
    where
      go : (b : Bool) → word_code K (cond b (Some x) None) ≡ cond b (Some (K.code x)) None
      go true = refl
      go false = refl
