-- Words, one after another.
use Rattle.std.proofs.Common.{◌≡◌, ℕ, ◌<◌, List, [], ◌∷◌, ◌++◌, length, take, Ok, Err, Option, Result, sym, refl, ap, ◌∙◌, subst, ⊎_elim, append_assoc, append-nil, arith, length-append, length-take-le}
use Rattle.std.proofs.lemmas.List.{take_all, take-append-le}
use Rattle.arrayvec.specs.ArrayVec.{ArrayVec}
use Rattle.std.specs.Result.{IsOk, OnOk, OnErr}
use Rattle.std.proofs.lemmas.Bool.{cases_lt}
use Rattle.lines.specs.Forms.{Departs, field_number}
use Rattle.lines.specs.Lines.{SaysWord, SayWords, HearForm}
use Rattle.lines.proofs.Departures.{here, after}
use Rattle.lines.proofs.FormFaults.{FaultAt}

module _ {V : Type 0} (Says : List ℕ → V → Type 0) where
  -- all fields but those that are left say the words
  pub record Sofar (all : List (List ℕ)) (ws : List (Option V)) (rest : List (List ℕ)) : Type 0 where
    pub done : List (List ℕ)
    pub split : all ≡ done ++ rest
    pub said : SayWords Says done ws
    pub count : length ws ≡ length done

  pub started : (rest : List (List ℕ)) → Sofar rest [] rest
  started rest = record { done = []; split = refl; said = tt; count = refl }

  say_push : (fs : List (List ℕ)) (ws : List (Option V)) (f : List ℕ) (w : Option V) → SayWords Says fs ws → SaysWord Says f w → SayWords Says (fs ++ (f ∷ [])) (ws ++ (w ∷ []))
  say_push [] [] f w s p = (p, tt)
  say_push [] (v ∷ ws) f w s p = absurd s
  say_push (g ∷ fs) [] f w s p = absurd s
  say_push (g ∷ fs) (v ∷ ws) f w s p = (s.0, say_push fs ws f w s.1 p)

  pub one_more : (all : List (List ℕ)) (ws : List (Option V)) (rest after : List (List ℕ)) (f : List ℕ) (w : Option V) → Sofar all ws rest → rest ≡ f ∷ after → SaysWord Says f w → Sofar all (ws ++ (w ∷ [])) after
  one_more all ws rest after f w s e p = record {
    done = s.done ++ (f ∷ []);
    split = s.split ∙ ap (λ l. s.done ++ l) e ∙ sym (append_assoc s.done (f ∷ []) (after));
    said = say_push s.done ws f w s.said p;
    count = length-append ws (w ∷ []) ∙ omega (arith, s.count, length-append s.done (f ∷ []));
  }

  pub all_said : (all : List (List ℕ)) (ws : List (Option V)) (rest : List (List ℕ)) → Sofar all ws rest → rest ≡ [] → SayWords Says all ws
  all_said all ws rest s e = subst (λ l. SayWords Says l ws) (sym (s.split ∙ ap (λ r. s.done ++ r) e ∙ append-nil s.done)) s.said

  -- the word after those that are done
  say_at : (fs more : List (List ℕ)) (f : List ℕ) (ws : List (Option V)) → SayWords Says (fs ++ (f ∷ more)) ws → (w : Option V) × SaysWord Says f w
  say_at [] more f [] s = absurd s
  say_at [] more f (w ∷ ws) s = (w, s.0)
  say_at (g ∷ fs) more f [] s = absurd s
  say_at (g ∷ fs) more f (w ∷ ws) s = say_at fs more f ws s.1

  pub no_word : (all : List (List ℕ)) (ws : List (Option V)) (rest later : List (List ℕ)) (f : List ℕ) (k : ℕ) → Sofar all ws rest → rest ≡ f ∷ later → ((w : Option V) → SaysWord Says f w → ⊥) → k ≡ field_number (length ws) → FaultAt (HearForm Says) all k
  no_word all ws rest later f k s e wrong is =
      let L : List (List ℕ) → Type 0 = λ fs. (w : List (Option V)) × HearForm Says fs w in
      let at = here (λ fs. L (s.done ++ fs)) rest ([], (take 17 ws, (ws, subst (λ l. SayWords Says l ws) (sym (append-nil s.done)) s.said, refl)))
      (λ g gs more is l. let same : g ≡ f = cc in let w = say_at s.done more g l.1.0 l.1.1 in wrong w.0 (subst (λ x. SaysWord Says x w.0) same w.1))
      (λ none l. let z : ◌≡◌ {A = ℕ} 0 1 = cc in omega arith) in
      (length ws, is, subst (λ l. Departs L l (length ws)) (sym s.split) (subst (Departs L (s.done ++ rest)) (sym s.count) (after L s.done rest at)))

-- a word more, of which the first 17 are kept
pub kept_more : {X : Type 0} (ws : List X) (w : X) → take 17 (take 17 ws ++ (w ∷ [])) ≡ take 17 (ws ++ (w ∷ []))
kept_more ws w =
    ⊎_elim
    (λ lt. ap (λ l. take 17 (l ++ (w ∷ []))) (take_all 17 ws (omega arith)))
    (λ ge.
    let full : length (take 17 ws) ≡ 17 = length-take-le 17 ws ge in
    take-append-le 17 (take 17 ws) (w ∷ []) (omega arith) ∙ take_all 17 (take 17 ws) (omega arith) ∙ sym (take-append-le 17 ws (w ∷ []) ge))
    (cases_lt (length ws) 17)

-- a word is added where there is room, which is for 17
pub pushed : {X E : Type 0} (old new : ArrayVec X) (w : X) (r : Result (Unit {0}) E) → (IsOk r → length old.items < 17) → OnOk r (new.items ≡ old.items ++ (w ∷ [])) → OnErr r (length old.items ≡ 17) → OnErr r (new ≡ old) → new.items ≡ take 17 (old.items ++ (w ∷ []))
pushed old new w (Ok u) room more full same = let lt : length old.items < 17 = room refl in more ∙ sym (take_all 17 (old.items ++ (w ∷ [])) (omega (arith, length-append old.items (w ∷ []))))
pushed old new w (Err e) room more full same = ap (λ (v : ArrayVec _). v.items) same ∙ sym (take-append-le 17 old.items (w ∷ []) (omega (arith, full)) ∙ take_all 17 old.items (omega (arith, full)))
