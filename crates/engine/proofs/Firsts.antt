-- The first value that passes, in a row as it came and as it is heard.
use Rattle.std.proofs.Common.{◌≡◌, Bool, true, false, cond, [], ◌∷◌, Some, None, refl, ap, List, map, Option, Bor, length, sym, subst}
use Rattle.duty.specs.Codes.{Code}
use Rattle.rounds.specs.Rows.{Row, heard}
use Rattle.rounds.specs.Rounds.{first}
use Rattle.std.specs.List.{find, flat_map}
use Rattle.std.specs.Option.{option_copied, option_map, option_to_list}
use Rattle.std.specs.Iterator.Adapters.{option_iter_item, option_iter_done, option_iter_steps}
use Rattle.std.proofs.lemmas.Iterator.{YieldsList}
use Rattle.std.proofs.lemmas.Iterator.Consumers.{YieldsList-from_shown}
use Rattle.std.specs.Prelude.{IsTrue, MatchBool}
use Rattle.duty.specs.declared.values.Same.{Ghosts as Same}
use Rattle.engine.specs.Words.{word_code, codes}

-- a test that no unfit value passes finds the same in the row as it came
pub first_heard : (fits test : Code → Bool) → ((v : Code) → fits v ≡ false → test v ≡ false) → (row : Row) → first test (heard fits row) ≡ first test row
first_heard fits test none [] = refl
first_heard fits test none (None ∷ ws) = first_heard fits test none ws
first_heard fits test none (Some v ∷ ws) = go (fits v) refl (first_heard fits test none ws)
  where
    go : (b : Bool) → fits v ≡ b → first test (heard fits ws) ≡ first test ws → first test (cond b (Some v) None ∷ heard fits ws) ≡ cond (test v) (Some v) (first test ws)
    go true e rest = ap (cond (test v) (Some v)) rest
    go false e rest = rw (none v e) rest

-- the code of a word's value, if it has one
abbrev pub said : {V : Type 0} → Same V → Option V → List Code
said K word = map K.code (option_to_list word)

no_more : {V : Type 0} (K : Same V) (done : Bool) (word : Option V) (r : Option (Bor V)) → r ≡ None → MatchBool done (r ≡ None) (option_copied r ≡ word) → length (cond done [] (said K word)) ≡ 0
no_more K true word r e h = refl
no_more K false word r e h = rw (sym h, e) refl

one_more : {V : Type 0} (K : Same V) (done done' : Bool) (word word' : Option V) (b : Bor V) → IsTrue done' → MatchBool done (◌≡◌ {A = Option (Bor V)} (Some b) None) (Some b.now ≡ word) → cond done [] (said K word) ≡ K.code b.now ∷ cond done' [] (said K word')
one_more K true done' word word' b e h = cc
one_more K false true word word' b e h = rw (sym h) refl
one_more K false false word word' b e h = cc

pub option_gives : {V : Type 0} (K : Same V) (word : Option V) (s : _) → option_iter_item s ≡ word → option_iter_done s ≡ false → YieldsList option_iter_steps (λ b. K.code b.now) s (said K word)
option_gives K word s item done =
    subst (YieldsList option_iter_steps (λ b. K.code b.now) s) (rw (done, item) refl)
    (YieldsList-from_shown option_iter_steps (λ b. K.code b.now) (λ u. cond (option_iter_done u) [] (said K (option_iter_item u)))
    (λ u t h. no_more K (option_iter_done u) (option_iter_item u) None refl h.1) (λ u b t h. one_more K (option_iter_done u) (option_iter_done t) (option_iter_item u) (option_iter_item t) b h.0 h.1) s)

pub copied_code : {V : Type 0} (K : Same V) (r : Option (Bor V)) (o : Option V) → o ≡ option_copied r → word_code K o ≡ option_map (λ b. K.code b.now) r
copied_code K None o e = rw e
copied_code K (Some b) o e = rw e

pub find_said : {V : Type 0} (K : Same V) (test : Code → Bool) (words : List (Option V)) → find test (flat_map (said K) words) ≡ first test (codes K words)
find_said K test [] = refl
find_said K test (None ∷ ws) = find_said K test ws
find_said K test (Some v ∷ ws) = ap (cond (test (K.code v)) (Some (K.code v))) (find_said K test ws)
