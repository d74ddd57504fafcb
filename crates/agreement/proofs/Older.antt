-- What later calls leave of a history.
use Rattle.std.proofs.Common.{◌≡◌, ℕ, suc, ◌<◌, ◌≤◌, eqb, [], ◌∷◌, ◌++◌, Some, Ok, Err, refl, ◌∙◌, arith}
use Rattle.std.proofs.lemmas.Bool.{ne_eqb, cond-false}
use Rattle.agreement.specs.Histories.{Event, offered, spoke, heard, History, accepted, row, answer, pending, pending_at}

module _ {V : Type 0} where
  pub accepted_more : (e : Event V) (es : History V) → accepted es ≤ accepted (e ∷ es)
  accepted_more (offered v r) es = omega arith
  accepted_more (spoke w) es = omega arith
  accepted_more (heard ws (Ok a)) es = omega arith
  accepted_more (heard ws (Err e)) es = omega arith

  pub row_more : (e : Event V) (es : History V) (t : ℕ) → t < accepted es → row (e ∷ es) t ≡ row es t
  row_more (offered v r) es t l = refl
  row_more (spoke w) es t l = refl
  row_more (heard ws (Ok a)) es t l = cond-false (eqb t (accepted es)) ws (row es t) (ne_eqb t (accepted es) (λ z. omega arith))
  row_more (heard ws (Err e)) es t l = refl

  pub answer_more : (e : Event V) (es : History V) (t : ℕ) → t < accepted es → answer (e ∷ es) t ≡ answer es t
  answer_more (offered v r) es t l = refl
  answer_more (spoke w) es t l = refl
  answer_more (heard ws (Ok a)) es t l = cond-false (eqb t (accepted es)) (Some a) (answer es t) (ne_eqb t (accepted es) (λ z. omega arith))
  answer_more (heard ws (Err e)) es t l = refl

  pub pending_more : (v : V) (e : Event V) (es : History V) (t : ℕ) → t ≤ accepted es → pending_at v (e ∷ es) t ≡ pending_at v es t
  pending_more v (offered w r) es t l = refl
  pending_more v (spoke w) es t l = refl
  pending_more v (heard ws (Ok a)) es t l = cond-false (eqb t (suc (accepted es))) (pending v es) (pending_at v es t) (ne_eqb t (suc (accepted es)) (λ z. omega arith))
  pending_more v (heard ws (Err e)) es t l = refl

  -- the same for any later calls
  pub accepted_older : (later es : History V) → accepted es ≤ accepted (later ++ es)
  accepted_older [] es = omega arith
  accepted_older (e ∷ later) es = omega (arith, accepted_older later es, accepted_more e (later ++ es))

  pub row_older : (later es : History V) (t : ℕ) → t < accepted es → row (later ++ es) t ≡ row es t
  row_older [] es t l = refl
  row_older (e ∷ later) es t l = row_more e (later ++ es) t (omega (arith, accepted_older later es)) ∙ row_older later es t l

  pub pending_older : (v : V) (later es : History V) (t : ℕ) → t ≤ accepted es → pending_at v (later ++ es) t ≡ pending_at v es t
  pending_older v [] es t l = refl
  pending_older v (e ∷ later) es t l = pending_more v e (later ++ es) t (omega (arith, accepted_older later es)) ∙ pending_older v later es t l
