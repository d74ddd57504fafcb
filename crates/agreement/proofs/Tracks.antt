-- What a life keeps, call by call: where its slot stands, what it closed, and what its duty made of that.
use Rattle.std.proofs.Common.{◌≡◌, ℕ, zero, suc, ◌+◌, ◌-◌, ◌*◌, ◌/◌, ◌%◌, ◌<◌, ◌≤◌, Bool, true, false, cond, eqb, List, [], ◌∷◌, map, length, Some, Ok, Err, Option, sym, refl, ap, ◌∙◌, subst, inl, inr, arith}
use native.Mathlib.Decide.{ℕ_discrete}
use lib.ListN.{length-map}
use Rattle.std.proofs.lemmas.Bool.{cases_lt, cases_eq, cases_Bool, eq-eqb, cond-true}
use Rattle.structure.specs.Meanings.{Meaning, Laws}
use Rattle.structure.specs.declared.Structure.{Ghosts as Structure}
use Rattle.duty.specs.Codes.{Code}
use Rattle.duty.specs.declared.duties.Duty.{Ghosts as Duty}
use Rattle.duty.specs.declared.values.Same.{Ghosts as Same}
use Rattle.duty.specs.declared.outcomes.Outcome.{Outcome}
use Rattle.rounds.specs.Rows as rows
use Rattle.rounds.specs.Slots.{rounds, next, after}
use Rattle.rounds.specs.Slots.Stage.{poll, closed}
use Rattle.rounds.proofs.Slots.{polling, confirming, leading, after_open, slot_value, after_closed, slot_value_fits, after_same}
use Rattle.engine.specs.Controllers.{stage_of, runs_on, fits_on}
use Rattle.engine.specs.Promises.{Opened, Hears, Moves, Closes, outcome_of}
use Rattle.engine.specs.Words.{word_code, codes}
use Rattle.engine.specs.declared.controllers.Controller.{Controller}
use Rattle.engine.specs.declared.controllers.Heard.{Heard}
use Rattle.engine.specs.declared.controllers.Heard.TheVariants.{Round, Closed}
use Rattle.agreement.specs.Histories.{Event, offered, spoke, heard, History, accepted, row, answer, pending, pending_at, closings}
use Rattle.agreement.specs.Lives.{content_by, Stepped, Promised, Run, rests, goes, Life, Lived}
use Rattle.agreement.proofs.Divisions.{split, below, inside, more, last, whole_slots, slots_within}
use Rattle.agreement.proofs.Older.{row_more, answer_more, pending_more}

-- the first j values of f, the latest first
abbrev pub values_of : (ℕ → Code) → ℕ → List Code
values_of f zero = []
values_of f (suc j) = f j ∷ values_of f j

pub values_same : (f g : ℕ → Code) (j : ℕ) → ((i : ℕ) → i < j → f i ≡ g i) → values_of f j ≡ values_of g j
values_same f g zero e = refl
values_same f g (suc j) e = ap (λ x. x ∷ values_of f j) (e j (omega arith)) ∙ ap (λ xs. g j ∷ xs) (values_same f g j (λ i l. e i (omega arith)))

values_length : (f : ℕ → Code) (j : ℕ) → length (values_of f j) ≡ j
values_length f zero = refl
values_length f (suc j) = ap suc (values_length f j)

abbrev pub value_codes : List (Code × Outcome) → List Code
value_codes xs = map (λ x. x.0) xs

module _ {S D V : Type 0} (M : Structure S) (G : Duty D V) (K : Same V) (m : Meaning) (laws : Laws m) (σ : G.Settings) (k : G.Content) (v : V) where
  abbrev pub fits : Code → Bool
  fits = G.fitting σ

  abbrev pub R : ℕ
  R = rounds m

  pub R_some : 0 < R
  R_some = omega (arith, laws.leads_some)

  -- ---- a history by what it shows: the number of accepted rows, the rows, their answers, the proposals pending, the values closed
  module _ (rw : ℕ → List (Option V)) (pa : ℕ → V) where
    abbrev pub begin : ℕ → Code
    begin j = K.code (pa (j * R))

    abbrev pub slot : ℕ → ℕ → rows.Row
    slot j i = codes K (rw (j * R + i))

    -- the value that the rounds give in slot j
    abbrev pub value : ℕ → Code
    value j = slot_value m fits (begin j) (slot j)

    pub given : (j : ℕ) → after m fits (begin j) (slot j) R ≡ closed (value j)
    given j = after_closed m fits (begin j) (slot j) laws.leads_some

  pub record Past (n : ℕ) (rw : ℕ → List (Option V)) (an : ℕ → Option (Heard V)) (pa : ℕ → V) (cl : List (Code × Outcome)) : Type 0 where
    pub at_fits : (t : ℕ) → fits (K.code (pa t)) ≡ true
    pub whole : (t : ℕ) → t < n → length (codes K (rw t)) ≡ m.size
    pub stepped : Stepped G σ k cl
    pub values : value_codes cl ≡ values_of (value rw pa) (n / R)
    pub closes : (j : ℕ) → (j + 1) * R ≤ n → (x : V) × (o : Outcome) × (an (j * R + (R - 1)) ≡ Some (Closed x o)) × (value rw pa j ≡ K.code x)
    pub goes_on : (t : ℕ) → t < n → t % R + 1 < R → an t ≡ Some (Round (t % R + 2))

  pub record Standing (n : ℕ) (rw : ℕ → List (Option V)) (pa : ℕ → V) (cl : List (Code × Outcome)) (pd : V) (c : Controller S D V) : Type 0 where
    pub meaning : M.meaning c.structure ≡ m
    pub settings : G.settings c.duty ≡ σ
    pub pends : c.pending ≡ pd
    pub pends_fits : fits (K.code pd) ≡ true
    pub stage : stage_of K c ≡ after m fits (begin rw pa (n / R)) (slot rw pa (n / R)) (n % R)
    pub content : G.content c.duty ≡ content_by G σ k cl

  abbrev pub PastOf : History V → Type 0
  PastOf es = Past (accepted es) (row es) (answer es) (pending_at v es) (closings K es)

  abbrev pub StandingOf : History V → Controller S D V → Type 0
  StandingOf es c = Standing (accepted es) (row es) (pending_at v es) (closings K es) (pending v es) c

  -- ---- a call that accepts no row
  stands_still : (n : ℕ) (rw : ℕ → List (Option V)) (pa : ℕ → V) (cl : List (Code × Outcome)) (pd pd' : V) (c c' : Controller S D V) → Standing n rw pa cl pd c →
      c'.structure ≡ c.structure → c'.duty ≡ c.duty → stage_of K c' ≡ stage_of K c → c'.pending ≡ pd' → fits (K.code pd') ≡ true → Standing n rw pa cl pd' c'
  stands_still n rw pa cl pd pd' c c' s e f g h i = record {
    meaning = ap M.meaning e ∙ s.meaning;
    settings = ap G.settings f ∙ s.settings;
    pends = h;
    pends_fits = i;
    stage = g ∙ s.stage;
    content = ap G.content f ∙ s.content;
  }

  stands_as_was : (n : ℕ) (rw : ℕ → List (Option V)) (pa : ℕ → V) (cl : List (Code × Outcome)) (pd : V) (c c' : Controller S D V) → Standing n rw pa cl pd c → c' ≡ c → Standing n rw pa cl pd c'
  stands_as_was n rw pa cl pd c c' s e = subst (Standing n rw pa cl pd) (sym e) s

  -- ---- one accepted row more
  module _ (es : History V) (c : Controller S D V) (past : PastOf es) (stands : StandingOf es c) (ws : List (Option V)) where
    abbrev n : ℕ
    n = accepted es

    abbrev j : ℕ
    j = n / R

    abbrev u : ℕ
    u = n % R

    here : j * R + u ≡ n
    here = split R R_some n

    module _ (a : Heard V) where
      abbrev es' : History V
      es' = heard ws (Ok a) ∷ es

      begin_stays : (i : ℕ) → i * R ≤ n → begin (row es') (pending_at v es') i ≡ begin (row es) (pending_at v es) i
      begin_stays i l = ap K.code (pending_more v (heard ws (Ok a)) es (i * R) l)

      slot_stays : (i t : ℕ) → i * R + t < n → slot (row es') (pending_at v es') i t ≡ slot (row es) (pending_at v es) i t
      slot_stays i t l = ap (codes K) (row_more (heard ws (Ok a)) es (i * R + t) l)

      after_stays : (i t : ℕ) → i * R + t ≤ n → after m fits (begin (row es') (pending_at v es') i) (slot (row es') (pending_at v es') i) t ≡ after m fits (begin (row es) (pending_at v es) i) (slot (row es) (pending_at v es) i) t
      after_stays i t l = after_same m fits _ _ _ _ t (begin_stays i (omega arith)) (λ y h. slot_stays i y (omega arith))

      value_stays : (i : ℕ) → (i + 1) * R ≤ n → value (row es') (pending_at v es') i ≡ value (row es) (pending_at v es) i
      value_stays i l =
          let e = sym (given (row es') (pending_at v es') i) ∙ after_stays i R (omega arith) ∙ given (row es) (pending_at v es) i in
          cc

      new_row : slot (row es') (pending_at v es') j u ≡ codes K ws
      new_row = ap (codes K) (cond-true (eqb (j * R + u) n) ws (row es (j * R + u)) (eq-eqb (j * R + u) n here))

      -- the stage that the row gives
      moved_to : next (runs_on M c) (stage_of K c) (rows.heard (fits_on G c) (codes K ws)) ≡ after m fits (begin (row es') (pending_at v es') j) (slot (row es') (pending_at v es') j) (suc u)
      moved_to =
          ap (λ x. next x (stage_of K c) (rows.heard (fits_on G c) (codes K ws))) stands.meaning
          ∙ ap (λ x. next m (stage_of K c) (rows.heard (G.fitting x) (codes K ws))) stands.settings
          ∙ ap (λ x. next m x (rows.heard fits (codes K ws))) (stands.stage ∙ sym (after_stays j u (omega (arith, here))))
          ∙ ap (λ x. next m (after m fits (begin (row es') (pending_at v es') j) (slot (row es') (pending_at v es') j) u) (rows.heard fits x)) (sym new_row)

      still_fits : (t : ℕ) → fits (K.code (pending_at v es' t)) ≡ true
      still_fits t = go (eqb t (suc n))
        where
          go : (b : Bool) → fits (K.code (cond b (pending v es) (pending_at v es t))) ≡ true
          go true = stands.pends_fits
          go false = past.at_fits t

      still_whole : length ws ≡ m.size → (t : ℕ) → t < suc n → length (codes K (row es' t)) ≡ m.size
      still_whole w t l = elim (cases_eq t n) [
        | inl z ↦ ap (λ x. length (codes K x)) (cond-true (eqb t n) ws (row es t) (eq-eqb t n z)) ∙ length-map ws (word_code K) ∙ w
        | inr ne ↦ ap (λ x. length (codes K x)) (row_more (heard ws (Ok a)) es t (omega arith)) ∙ past.whole t (omega arith)
      ]

      new_answer : answer es' n ≡ Some a
      new_answer = cond-true (eqb n n) (Some a) (answer es n) (eq-eqb n n refl)

      old_answer : (t : ℕ) → t < n → answer es' t ≡ answer es t
      old_answer t l = answer_more (heard ws (Ok a)) es t l

      -- what was closed before
      closed_before : (i : ℕ) → (i + 1) * R ≤ n → (x : V) × (o : Outcome) × (answer es' (i * R + (R - 1)) ≡ Some (Closed x o)) × (value (row es') (pending_at v es') i ≡ K.code x)
      closed_before i l =
          let (x, o, e, f) = past.closes i l in
          let r = R_some in
          (x, o, old_answer (i * R + (R - 1)) (omega arith) ∙ e, value_stays i l ∙ f)

      values_before : values_of (value (row es) (pending_at v es)) j ≡ values_of (value (row es') (pending_at v es')) j
      values_before = values_same _ _ j (λ i l. sym (value_stays i (slots_within R R_some (i + 1) n (omega arith))))

      new_meaning : (c' : Controller S D V) → c'.structure ≡ c.structure → M.meaning c'.structure ≡ m
      new_meaning c' e = ap M.meaning e ∙ stands.meaning

    -- ---- the slot goes on
    module _ (c' : Controller S D V) (structure : c'.structure ≡ c.structure) (pends : c'.pending ≡ c.pending) (size : length ws ≡ m.size) where
      goes_on : suc u < R → (let a : Heard V = Round (u + 2) in (stage_of K c' ≡ after m fits (begin (row (es' a)) (pending_at v (es' a)) j) (slot (row (es' a)) (pending_at v (es' a)) j) (suc u)))
          → c'.duty ≡ c.duty → PastOf (es' (Round (u + 2))) × StandingOf (es' (Round (u + 2))) c'
      goes_on l st dt =
          let a : Heard V = Round (u + 2) in
          let (ej, eu) = more R R_some n l in (
            record {
              at_fits = still_fits a;
              whole = still_whole a size;
              stepped = past.stepped;
              values = past.values ∙ values_before a ∙ ap (values_of (value (row (es' a)) (pending_at v (es' a)))) (sym ej);
              closes = λ i h.
                  let w = whole_slots R R_some (i + 1) (suc n) h in
                  closed_before a i (slots_within R R_some (i + 1) n (omega arith));
              goes_on = λ t h q. elim (cases_eq t n) [
                | inl z ↦ ap (answer (es' a)) z ∙ new_answer a ∙ ap (λ x. Some (Round (x % R + 2))) (sym z)
                | inr ne ↦ old_answer a t (omega arith) ∙ past.goes_on t (omega arith) q
              ];
            },
            record {
              meaning = new_meaning a c' structure;
              settings = ap G.settings dt ∙ stands.settings;
              pends = pends ∙ stands.pends;
              pends_fits = stands.pends_fits;
              stage = st ∙ ap (λ x. after m fits (begin (row (es' a)) (pending_at v (es' a)) x) (slot (row (es' a)) (pending_at v (es' a)) x) (suc u)) (sym ej)
                  ∙ ap (after m fits (begin (row (es' a)) (pending_at v (es' a)) (suc n / R)) (slot (row (es' a)) (pending_at v (es' a)) (suc n / R))) (sym eu);
              content = ap G.content dt ∙ stands.content;
            },
          )

      -- ---- the slot closes
      abbrev got : Heard V → Code
      got a = value (row (es' a)) (pending_at v (es' a)) j

      module _ (a : Heard V) (end : suc u ≡ R) (cl : Closes M G K c (got a) a c') where
        abbrev a' : Heard V
        a' = Closed cl.value cl.outcome

        got_fits : fits (got a) ≡ true
        got_fits = slot_value_fits m fits (begin (row (es' a)) (pending_at v (es' a)) j) (slot (row (es' a)) (pending_at v (es' a)) j) (still_fits a (j * R))

        value_fits : fits (K.code cl.value) ≡ true
        value_fits = ap fits cl.code ∙ got_fits

        -- the duty's step, at the settings and the content that it found
        fit_there : G.fitting (G.settings c.duty) (got a) ≡ true
        fit_there = ap (λ x. G.fitting x (got a)) stands.settings ∙ got_fits

        stepped_to : G.step (G.settings c.duty) (G.content c.duty) (got a) ≡ G.step σ (content_by G σ k (closings K es)) (K.code cl.value)
        stepped_to =
            ap (λ x. G.step x (G.content c.duty) (got a)) stands.settings
            ∙ ap (λ x. G.step σ x (got a)) stands.content
            ∙ ap (G.step σ (content_by G σ k (closings K es))) (sym cl.code)

        outcome_there : cl.outcome ≡ (G.step σ (content_by G σ k (closings K es)) (K.code cl.value)).1
        outcome_there = cl.settles.outcome ∙ ap outcome_of (cl.settles.takes.fit_outcome fit_there) ∙ ap (λ (x : G.Content × Outcome). x.1) stepped_to

        content_there : G.content c'.duty ≡ (G.step σ (content_by G σ k (closings K es)) (K.code cl.value)).0
        content_there = cl.settles.takes.fit_content fit_there ∙ ap (λ (x : G.Content × Outcome). x.0) stepped_to

        abbrev ended : (suc n ≡ suc j * R) × (suc n / R ≡ suc j) × (suc n % R ≡ 0)
        ended = last R R_some n end

        last_row : j * R + (R - 1) ≡ n
        last_row = omega (arith, here)

        begins_anew : pending_at v (es' a') (suc j * R) ≡ pending v es
        begins_anew = cond-true (eqb (suc j * R) (suc n)) (pending v es) (pending_at v es (suc j * R)) (eq-eqb (suc j * R) (suc n) (sym ended.0))

        closes_now : PastOf (es' a') × StandingOf (es' a') c'
        closes_now = (
          record {
            at_fits = still_fits a';
            whole = still_whole a' size;
            stepped = (value_fits, outcome_there, past.stepped);
            values =
                ap (λ x. x ∷ value_codes (closings K es)) cl.code ∙ ap (λ xs. got a ∷ xs) (past.values ∙ values_before a')
                ∙ ap (values_of (value (row (es' a')) (pending_at v (es' a')))) (sym ended.1);
            closes = λ i h.
                let w : i + 1 ≤ suc j = subst (λ x. i + 1 ≤ x) ended.1 (whole_slots R R_some (i + 1) (suc n) h) in
                elim (cases_lt i j) [
                  | inl l ↦ closed_before a' i (slots_within R R_some (i + 1) n (omega arith))
                  | inr l ↦
                      let z : i ≡ j = omega arith in (
                        cl.value,
                        cl.outcome,
                        ap (λ x. answer (es' a') (x * R + (R - 1))) z ∙ ap (answer (es' a')) last_row ∙ new_answer a',
                        ap (value (row (es' a')) (pending_at v (es' a'))) z ∙ sym cl.code,
                      )
                ];
            goes_on = λ t h q. elim (cases_eq t n) [
              | inl z ↦ absurd (let y : u + 1 < R = subst (λ x. x % R + 1 < R) z q in omega arith)
              | inr ne ↦ old_answer a' t (omega arith) ∙ past.goes_on t (omega arith) q
            ];
          },
          record {
            meaning = new_meaning a' c' structure;
            settings = cl.settles.takes.same_settings ∙ stands.settings;
            pends = pends ∙ stands.pends;
            pends_fits = stands.pends_fits;
            stage =
                cl.stage ∙ ap (λ x. poll 0 (K.code x)) (stands.pends ∙ sym begins_anew)
                ∙ ap (λ x. poll 0 (K.code (pending_at v (es' a') (x * R)))) (sym ended.1)
                ∙ ap (after m fits (begin (row (es' a')) (pending_at v (es' a')) (suc n / R)) (slot (row (es' a')) (pending_at v (es' a')) (suc n / R))) (sym ended.2);
            content = content_there;
          },
        )

  -- a slot that is open goes on
  moves_open : (x : Code) (rs : ℕ → rows.Row) (t : ℕ) → t < R → (c : Controller S D V) (a : Heard V) (c' : Controller S D V) → Moves M G K c (after m fits x rs t) a c' →
      (a ≡ Round (t + 1)) × (stage_of K c' ≡ after m fits x rs t) × (c'.duty ≡ c.duty)
  moves_open x rs t l c a c' mv = elim (after_open m fits x rs t l) [
    | polling i w f g ↦ let q = subst (λ y. Moves M G K c y a c') f mv in (q.answer ∙ ap Round (omega arith), q.stage ∙ sym f, q.duty)
    | confirming i w y f g ↦ let q = subst (λ y. Moves M G K c y a c') f mv in (q.answer ∙ ap Round (omega arith), q.stage ∙ sym f, q.duty)
    | leading i w b f g ↦ let q = subst (λ y. Moves M G K c y a c') f mv in (q.answer ∙ ap Round (omega arith), q.stage ∙ sym f, q.duty)
  ]

  abbrev Track : History V → Controller S D V → Type 0
  Track es c = PastOf es × StandingOf es c

  -- ---- an accepted row
  track_row : (es : History V) (c : Controller S D V) → Track es c → (ws : List (Option V)) (a : Heard V) (c' : Controller S D V) → Hears M G K c ws (Ok a) c' → Track (heard ws (Ok a) ∷ es) c'
  track_row es c (past, stands) ws a c' h = moved (ℕ_discrete (length ws) (runs_on M c).size)
    where
      turn : length ws ≡ m.size → Moves M G K c (next (runs_on M c) (stage_of K c) (rows.heard (fits_on G c) (codes K ws))) a c' → Track (heard ws (Ok a) ∷ es) c'
      turn size mv =
          let n = accepted es in
          let x = begin (row (heard ws (Ok a) ∷ es)) (pending_at v (heard ws (Ok a) ∷ es)) (n / R) in
          let rs = slot (row (heard ws (Ok a) ∷ es)) (pending_at v (heard ws (Ok a) ∷ es)) (n / R) in
          let at = subst (λ s. Moves M G K c s a c') (moved_to es c past stands ws a) mv in
          elim (cases_lt (suc (n % R)) R) [
            | inl l ↦
                let (e, st, dt) = moves_open x rs (suc (n % R)) l c a c' at in
                let f : a ≡ Round (n % R + 2) = e ∙ ap Round (omega arith) in
                subst (λ b. Track (heard ws (Ok b) ∷ es) c') (sym f) (goes_on es c past stands ws c' h.structure h.pending size l st dt)
            | inr l ↦
                let end : suc (n % R) ≡ R = omega (arith, below R R_some n) in
                let cl : Closes M G K c (got es c past stands ws c' h.structure h.pending size a) a c' =
                subst (λ s. Moves M G K c s a c') (ap (after m fits x rs) end ∙ given (row (heard ws (Ok a) ∷ es)) (pending_at v (heard ws (Ok a) ∷ es)) (n / R)) at in
                subst (λ b. Track (heard ws (Ok b) ∷ es) c') (sym cl.answer) (closes_now es c past stands ws c' h.structure h.pending size a end cl)
          ]

      moved : Dec (length ws ≡ (runs_on M c).size) → Track (heard ws (Ok a) ∷ es) c'
      moved (no f) = absurd (h.refused f).0
      moved (yes e) =
          let (b, same, mv) = h.accepted e in
          let q : b ≡ a = cc in
          turn (e ∙ ap (λ x. x.size) stands.meaning) (subst (λ y. Moves M G K c (next (runs_on M c) (stage_of K c) (rows.heard (fits_on G c) (codes K ws))) y c') q mv)

  -- ---- any call
  track_call : (es : History V) (c : Controller S D V) → Track es c → (e : Event V) (c' : Controller S D V) → Promised M G K c e c' → Track (e ∷ es) c'
  track_call es c t (offered w (Ok u)) c' p = (
    t.0,
    elim (cases_Bool (fits_on G c (K.code w))) [
      | inl f ↦ stands_still (accepted es) (row es) (pending_at v es) (closings K es) (pending v es) w c c' t.1 p.structure p.duty p.stage (p.taken f).1 (ap (λ x. G.fitting x (K.code w)) (sym t.1.settings) ∙ f)
      | inr f ↦ absurd (p.refused f).0
    ],
  )
  track_call es c t (offered w (Err e)) c' p = (
    t.0,
    elim (cases_Bool (fits_on G c (K.code w))) [
      | inl f ↦ absurd (let q = (p.taken f).0 in let z : ◌≡◌ {A = ℕ} 0 1 = cc in omega arith)
      | inr f ↦ stands_as_was (accepted es) (row es) (pending_at v es) (closings K es) (pending v es) c c' t.1 (p.refused f).1
    ],
  )
  track_call es c t (spoke w) c' p = (t.0, stands_as_was (accepted es) (row es) (pending_at v es) (closings K es) (pending v es) c c' t.1 p.1)
  track_call es c t (heard ws (Ok a)) c' p = track_row es c t ws a c' p
  track_call es c t (heard ws (Err e)) c' p = (
    t.0,
    elim (ℕ_discrete (length ws) (runs_on M c).size) [
      | yes q ↦ absurd (let (b, same, _) = p.accepted q in let z : ◌≡◌ {A = ℕ} 0 1 = cc in omega arith)
      | no f ↦ stands_as_was (accepted es) (row es) (pending_at v es) (closings K es) (pending v es) c c' t.1 (p.refused f).1
    ],
  )

  -- ---- the life of a controller
  module _ (s : S) (d : D) (start : Controller S D V) (meaning : M.meaning s ≡ m) (settings : G.settings d ≡ σ) (content : G.content d ≡ k) (opened : Opened M G K s d v start) where
    first_fits : fits (K.code v) ≡ true
    first_fits = ap (λ x. G.fitting x (K.code v)) (sym settings) ∙ opened.fits

    track_open : Track [] start
    track_open =
        let (ej, eu) = inside R R_some 0 0 R_some in
        let zero_div : 0 / R ≡ 0 = ap (λ x. x / R) (omega arith) ∙ ej in
        let zero_mod : 0 % R ≡ 0 = ap (λ x. x % R) (omega arith) ∙ eu in (
          record {
            at_fits = λ t. first_fits;
            whole = λ t l. absurd (omega arith);
            stepped = tt;
            values = ap (values_of (value (row []) (pending_at v []))) (sym zero_div);
            closes = λ i l. absurd (omega (arith, R_some));
            goes_on = λ t l. absurd (omega arith);
          },
          record {
            meaning = ap M.meaning opened.structure ∙ meaning;
            settings = ap G.settings opened.duty ∙ settings;
            pends = opened.pending;
            pends_fits = first_fits;
            stage = opened.stage ∙ ap (after m fits (begin (row []) (pending_at v []) (0 / R)) (slot (row []) (pending_at v []) (0 / R))) (sym zero_mod);
            content = ap G.content opened.duty ∙ content;
          },
        )

    pub track_run : (es : History V) (c : Controller S D V) → Run M G K start es c → Track es c
    track_run [] c rests = track_open
    track_run (e ∷ es) c (goes x y r p) = track_call es _ (track_run es _ r) e c p

  pub track : (es : History V) (c : Controller S D V) (life : Life M G K m σ k v es c) → PastOf es × StandingOf es c
  track es c life = track_run life.s life.d life.start life.meaning life.settings life.content life.opened es c life.runs

  pub lived : (es : History V) (c : Controller S D V) → Life M G K m σ k v es c → Lived M G K m σ k v es c
  lived es c life =
      let (past, stands) = track es c life in
      record {
        closes = λ i l.
            let (x, o, e, f) = past.closes i l in
            (x, o, e, given (row es) (pending_at v es) i ∙ ap closed f);
        goes_on = past.goes_on;
        count = sym (length-map (closings K es) (λ x. x.0)) ∙ ap length past.values ∙ values_length (value (row es) (pending_at v es)) (accepted es / R);
        settings = stands.settings;
        content = stands.content;
        stepped = past.stepped;
      }
