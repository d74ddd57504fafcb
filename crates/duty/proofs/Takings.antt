-- What follows from the promise of `take`, for one call and for many.
use Rattle.std.proofs.Common.{◌≡◌, ℕ, Bool, false, cond, ◌&&◌, List, [], ◌∷◌, Ok, Err, Result, sym, refl, ap, ◌∙◌, inl, inr}
use Rattle.std.proofs.lemmas.Bool.{cases_Bool, cond-true, cond-false}
use Rattle.duty.specs.Codes.{Code}
use Rattle.duty.specs.declared.outcomes.Outcome.{Outcome}
use Rattle.duty.specs.declared.refusals.DutyRefusal.{DutyRefusal}
use Rattle.duty.specs.declared.refusals.DutyRefusal.TheVariants.{Unfit}
use Rattle.duty.specs.Outcomes.{is_taken}
use Rattle.duty.specs.Refusals.{Refused}
use Rattle.duty.specs.Taking.{Takes}
use Rattle.duty.specs.Steps.{next, takes, after, taken}
use Rattle.duty.specs.Calls.{Call, codes, answers_taken, taken_in, Leads, Always}
use Rattle.duty.specs.Alike.{Alike, AlikeStays}

-- a refused value was not taken
refused_not_taken : (n : ℕ) (vs : List ℕ) (r : Result Outcome DutyRefusal) → Refused n vs r → answers_taken r ≡ false
refused_not_taken n vs (Ok o) refused = absurd refused
refused_not_taken n vs (Err e) refused = refl

cong₂ : {X : Type 0} {x y : X} {xs ys : List X} → x ≡ y → xs ≡ ys → x ∷ xs ≡ y ∷ ys
cong₂ p q = cc

-- there is one refusal
only_unfit : (e : DutyRefusal) → e ≡ Unfit
only_unfit Unfit = refl

pub refused_unfit : (n : ℕ) (vs : List ℕ) (r : Result Outcome DutyRefusal) → Refused n vs r → r ≡ Err Unfit
refused_unfit n vs (Ok o) refused = absurd refused
refused_unfit n vs (Err e) refused = ap (λ x. Err x) (only_unfit e)

module _
    {D Settings Content : Type 0}
    (settings : D → Settings)
    (content : D → Content)
    (fitting : Settings → Code → Bool)
    (step : Settings → Content → Code → Content × Outcome)
  where
    -- the content after one call, whether or not the value fits
    pub content_next : (d : D) (code : Code) (r : Result Outcome DutyRefusal) (e : D) → Takes settings content fitting step d code r e → content e ≡ next fitting step (settings d) (content d) code
    content_next d code r e t =
        elim (cases_Bool (fitting (settings d) code)) [
          | inl fit ↦ t.fit_content fit ∙ sym (cond-true (fitting (settings d) code) _ (content d) fit)
          | inr unfit ↦ rw (t.unfit_unchanged unfit) (sym (cond-false (fitting (settings d) code) _ (content d) unfit))
        ]

    -- the answer to a value with this code
    abbrev pub answer : Settings → Content → Code → Result Outcome DutyRefusal
    answer s c code = cond (fitting s code) (Ok (step s c code).1) (Err Unfit)

    pub answer_next : (d : D) (code : Code) (r : Result Outcome DutyRefusal) (e : D) → Takes settings content fitting step d code r e → r ≡ answer (settings d) (content d) code
    answer_next d code r e t =
        elim (cases_Bool (fitting (settings d) code)) [
          | inl fit ↦ t.fit_outcome fit ∙ sym (cond-true (fitting (settings d) code) _ (Err Unfit) fit)
          | inr unfit ↦ refused_unfit 4 [] r (t.unfit_refused unfit) ∙ sym (cond-false (fitting (settings d) code) _ (Err Unfit) unfit)
        ]

    -- a call answers that the value is taken exactly when the value fits and the step takes it
    pub taken_next : (d : D) (code : Code) (r : Result Outcome DutyRefusal) (e : D) → Takes settings content fitting step d code r e → answers_taken r ≡ takes fitting step (settings d) (content d) code
    taken_next d code r e t =
        elim (cases_Bool (fitting (settings d) code)) [
          | inl fit ↦ ap answers_taken (t.fit_outcome fit) ∙ ap (λ b. b && is_taken (step (settings d) (content d) code).1) (sym fit)
          | inr unfit ↦ refused_not_taken 4 [] r (t.unfit_refused unfit) ∙ ap (λ b. b && is_taken (step (settings d) (content d) code).1) (sym unfit)
        ]

    -- calls leave the settings, and give the content of the run of steps and take what it takes
    pub leads_settings : (d : D) (calls : List Call) (e : D) → Leads settings content fitting step d calls e → settings e ≡ settings d
    leads_settings d [] e l = ap settings l
    leads_settings d (call ∷ calls) e l = leads_settings l.0 calls e l.2 ∙ l.1.same_settings

    pub leads_content : (d : D) (calls : List Call) (e : D) → Leads settings content fitting step d calls e → content e ≡ after fitting step (settings d) (content d) (codes calls)
    leads_content d [] e l = ap content l
    leads_content d (call ∷ calls) e l =
        leads_content l.0 calls e l.2
        ∙ ap (λ s. after fitting step s (content l.0) (codes calls)) l.1.same_settings
        ∙ ap (λ c. after fitting step (settings d) c (codes calls)) (content_next d call.code call.answer l.0 l.1)

    pub leads_taken : (d : D) (calls : List Call) (e : D) → Leads settings content fitting step d calls e → taken_in calls ≡ taken fitting step (settings d) (content d) (codes calls)
    leads_taken d [] e l = refl
    leads_taken d (call ∷ calls) e l =
        let rest =
        leads_taken l.0 calls e l.2
        ∙ ap (λ s. taken fitting step s (content l.0) (codes calls)) l.1.same_settings
        ∙ ap (λ c. taken fitting step (settings d) c (codes calls)) (content_next d call.code call.answer l.0 l.1)
        in
        ap (λ b. cond b (call.code ∷ taken_in calls) (taken_in calls)) (taken_next d call.code call.answer l.0 l.1)
        ∙ ap (λ vs. cond (takes fitting step (settings d) (content d) call.code) (call.code ∷ vs) vs) rest

    -- what holds of every run of steps holds of all calls
    pub always : (d : D) (P : List Code → Content → Type 0) → ((values : List Code) → P (taken fitting step (settings d) (content d) values) (after fitting step (settings d) (content d) values)) → Always settings content fitting step d P
    always d P steps =
        record {
          by_steps = steps;
          by_calls = λ calls e l. rw (leads_taken d calls e l, leads_content d calls e l) (steps (codes calls));
        }

    -- one value, given to two duties that are alike
    alike_next : (d e d' e' : D) (code : Code) (r q : Result Outcome DutyRefusal) → Alike settings content d e → Takes settings content fitting step d code r d' → Takes settings content fitting step e code q e' → Alike settings content d' e' × (r ≡ q)
    alike_next d e d' e' code r q a t u = (
      record {
        same_settings = t.same_settings ∙ a.same_settings ∙ sym u.same_settings;
        same_content =
            content_next d code r d' t
            ∙ ap (λ s. next fitting step s (content d) code) a.same_settings
            ∙ ap (λ c. next fitting step (settings e) c code) a.same_content
            ∙ sym (content_next e code q e' u);
      },
      answer_next d code r d' t
          ∙ ap (λ s. answer s (content d) code) a.same_settings
          ∙ ap (λ c. answer (settings e) c code) a.same_content
          ∙ sym (answer_next e code q e' u),
    )

    pub alike_stays : AlikeStays settings content fitting step
    alike_stays d d' e e' [] [] a l k same = (record { same_settings = ap settings l ∙ a.same_settings ∙ sym (ap settings k); same_content = ap content l ∙ a.same_content ∙ sym (ap content k) }, refl)
    alike_stays d d' e e' [] (y ∷ ys) a l k same = absurd cc
    alike_stays d d' e e' (x ∷ xs) [] a l k same = absurd cc
    alike_stays d d' e e' (x ∷ xs) (y ∷ ys) a l k same =
        let first : x.code ≡ y.code = cc in
        let rest : codes xs ≡ codes ys = cc in
        let once = alike_next d e l.0 k.0 y.code x.answer y.answer a (rw first at l.1) k.1 in
        let more = alike_stays l.0 d' k.0 e' xs ys once.0 l.2 k.2 rest in
        (more.0, cong₂ once.1 more.1)
