-- Members of an enough group that hear each other truly close each slot with one value, so that all they hold is the same.
use Rattle.std.proofs.Common.{◌≡◌, ℕ, ◌+◌, ◌-◌, ◌*◌, ◌/◌, ◌%◌, ◌<◌, ◌≤◌, Bool, true, cond, ltb, List, [], ◌∷◌, length, Some, Option, sym, refl, ap, ◌∙◌, subst, inl, inr, arith}
use Rattle.std.proofs.lemmas.Bool.{cases_lt, lt-ltb, le-ltb, cond-true, cond-false}
use Rattle.structure.specs.Groups.{◌∈◌}
use Rattle.structure.specs.Meanings.{Meaning, Laws}
use Rattle.structure.specs.declared.Structure.{Ghosts as Structure}
use Rattle.duty.specs.Codes.{Code}
use Rattle.duty.specs.declared.duties.Duty.{Ghosts as Duty}
use Rattle.duty.specs.declared.values.Same.{Ghosts as Same}
use Rattle.duty.specs.declared.outcomes.Outcome.{Outcome}
use Rattle.rounds.specs.Rows.{Row, word_at}
use Rattle.rounds.specs.Slots.{rounds, speaks, after}
use Rattle.rounds.specs.Slots.Stage.{closed}
use Rattle.rounds.specs.Agreement.{HeardTruly, Agree}
use Rattle.rounds.proofs.Slots.{slot_agrees, after_same}
use Rattle.engine.specs.Words.{word_code, codes}
use Rattle.engine.specs.declared.controllers.Controller.{Controller}
use Rattle.engine.specs.declared.controllers.Heard.TheVariants.{Closed}
use Rattle.agreement.specs.Histories.{History, accepted, row, answer, pending_at, closings}
use Rattle.agreement.specs.Lives.{content_by, Stepped, Life, SpeaksAfter, HearTruly, Agrees, Keeps}
use Rattle.agreement.proofs.Divisions.{inside, slots_within}
use Rattle.agreement.proofs.Older.{accepted_older, row_older, pending_older}
use Rattle.agreement.proofs.Tracks.{values_of, values_same, value_codes, R_some, value, given, PastOf, StandingOf, track_run, track}

-- closed values determine their outcomes
stepped_same : {D V : Type 0} (G : Duty D V) (σ : G.Settings) (k : G.Content) (xs ys : List (Code × Outcome)) → Stepped G σ k xs → Stepped G σ k ys → value_codes xs ≡ value_codes ys → xs ≡ ys
stepped_same G σ k [] [] p q e = refl
stepped_same G σ k [] (y ∷ ys) p q e = absurd (let z : ◌≡◌ {A = ℕ} 0 (length (value_codes (y ∷ ys))) = ap length e in omega arith)
stepped_same G σ k (x ∷ xs) [] p q e = absurd (let z : ◌≡◌ {A = ℕ} (length (value_codes (x ∷ xs))) 0 = ap length e in omega arith)
stepped_same G σ k (x ∷ xs) (y ∷ ys) p q e =
    let head : x.0 ≡ y.0 = cc in
    let tail : value_codes xs ≡ value_codes ys = cc in
    let rest = stepped_same G σ k xs ys p.2 q.2 tail in
    let outcome : x.1 ≡ y.1 =
    p.1 ∙ ap (λ v. (G.step σ (content_by G σ k xs) v).1) head ∙ ap (λ zs. (G.step σ (content_by G σ k zs) y.0).1) rest ∙ sym q.1 in
    ap (λ (v : Code). (v, x.1) ∷ xs) head ∙ ap (λ (o : Outcome). (y.0, o) ∷ xs) outcome ∙ ap (λ zs. y ∷ zs) rest

module _ {S D V : Type 0} (M : Structure S) (G : Duty D V) (K : Same V) (m : Meaning) (laws : Laws m) (σ : G.Settings) (k : G.Content) (A : ℕ) (first : ℕ → V) (history : ℕ → History V) (last : ℕ → Controller S D V)
    (enough : m.enough A ≡ true) (yard : HearTruly M G K m σ k A first history last) where
  abbrev fits : Code → Bool
  fits = G.fitting σ

  abbrev R : ℕ
  R = rounds m

  some : 0 < R
  some = R_some M G K m laws σ k (first 0)

  past : (p : ℕ) → p < m.size → p ∈ A → PastOf M G K m laws σ k (first p) (history p)
  past p h i = (track M G K m laws σ k (first p) (history p) (last p) (yard.life p h i)).0

  stands : (p : ℕ) → p < m.size → p ∈ A → StandingOf M G K m laws σ k (first p) (history p) (last p)
  stands p h i = (track M G K m laws σ k (first p) (history p) (last p) (yard.life p h i)).1

  -- the value with which p closes slot j
  abbrev closing : ℕ → ℕ → Code
  closing p j = value M G K m laws σ k (first p) (row (history p)) (pending_at (first p) (history p)) j

  -- ---- slot j, which p has closed
  module _ (j : ℕ) (p : ℕ) (hp : p < m.size) (ip : p ∈ A) (done : (j + 1) * R ≤ accepted (history p)) where
    abbrev x : ℕ → Code
    x r = K.code (pending_at (first r) (history r) (j * R))

    abbrev own : ℕ → ℕ → Row
    own r t = codes K (row (history r) (j * R + t))

    -- a member that lacks the slot's last row is lent that of p
    abbrev rows : ℕ → ℕ → Row
    rows r t = cond (ltb (j * R + t) (accepted (history r))) (own r t) (own p t)

    owned : (r t : ℕ) → j * R + t < accepted (history r) → rows r t ≡ own r t
    owned r t l = cond-true (ltb (j * R + t) (accepted (history r))) (own r t) (own p t) (lt-ltb (j * R + t) (accepted (history r)) l)

    lent : (r t : ℕ) → accepted (history r) ≤ j * R + t → rows r t ≡ own p t
    lent r t l = cond-false (ltb (j * R + t) (accepted (history r))) (own r t) (own p t) (le-ltb (j * R + t) (accepted (history r)) l)

    by_p : (t : ℕ) → t < R → j * R + t < accepted (history p)
    by_p t l = omega arith

    -- what q says after t rows of the slot is what the rounds give
    module _ (q : ℕ) (hq : q < m.size) (iq : q ∈ A) (t : ℕ) (l : t < R) (w : Option V) (said : SpeaksAfter M G K (yard.life q hq iq).start (history q) (j * R + t) w) where
      abbrev life : Life M G K m σ k (first q) (history q) (last q)
      life = yard.life q hq iq

      earlier_stands : StandingOf M G K m laws σ k (first q) said.earlier said.c
      earlier_stands = (track_run M G K m laws σ k (first q) life.s life.d life.start life.meaning life.settings life.content life.opened said.earlier said.c said.runs).1

      reached : accepted said.earlier ≤ accepted (history q)
      reached = subst (λ es. accepted said.earlier ≤ accepted es) (sym said.parts) (accepted_older said.later said.earlier)

      same_begin : K.code (pending_at (first q) said.earlier (j * R)) ≡ x q
      same_begin = ap K.code (sym (pending_older (first q) said.later said.earlier (j * R) (omega (arith, said.count))) ∙ ap (λ es. pending_at (first q) es (j * R)) (sym said.parts))

      same_rows : (u : ℕ) → u < t → codes K (row said.earlier (j * R + u)) ≡ rows q u
      same_rows u h =
          ap (codes K) (sym (row_older said.later said.earlier (j * R + u) (omega (arith, said.count))) ∙ ap (λ es. row es (j * R + u)) (sym said.parts))
          ∙ sym (owned q u (omega (arith, said.count, reached)))

      said_so : word_code K w ≡ speaks (after m fits (x q) (rows q) t)
      said_so =
          let at = inside R some j t l in
          let ej : accepted said.earlier / R ≡ j = ap (λ n. n / R) said.count ∙ at.0 in
          let eu : accepted said.earlier % R ≡ t = ap (λ n. n % R) said.count ∙ at.1 in
          said.speaks
          ∙ ap speaks (earlier_stands.stage
          ∙ ap (λ i. after m fits (K.code (pending_at (first q) said.earlier (i * R))) (λ u. codes K (row said.earlier (i * R + u))) (accepted said.earlier % R)) ej
          ∙ ap (after m fits (K.code (pending_at (first q) said.earlier (j * R))) (λ u. codes K (row said.earlier (j * R + u)))) eu
          ∙ after_same m fits _ _ _ _ t same_begin same_rows)

    -- p's rows, and those that a member has itself, hold what the members say
    told : (r q t : ℕ) → r < m.size → (hq : q < m.size) → r ∈ A → (iq : q ∈ A) → t < R → j * R + t < accepted (history r) → word_at (own r t) q ≡ speaks (after m fits (x q) (rows q) t)
    told r q t hr hq ir iq l a = let (w, said, e) = yard.truly r q (j * R + t) hr hq ir iq a in e ∙ said_so q hq iq t l w said

    truly : HeardTruly m fits A x rows
    truly = record {
      fit = λ r hr ir. (past r hr ir).at_fits (j * R);
      whole = λ r t hr ir l. elim (cases_lt (j * R + t) (accepted (history r))) [
        | inl a ↦ ap length (owned r t a) ∙ (past r hr ir).whole (j * R + t) a
        | inr a ↦ ap length (lent r t a) ∙ (past p hp ip).whole (j * R + t) (by_p t l)
      ];
      truly = λ r q t hr hq ir iq l. elim (cases_lt (j * R + t) (accepted (history r))) [
        | inl a ↦ ap (λ y. word_at y q) (owned r t a) ∙ told r q t hr hq ir iq l a
        | inr a ↦ ap (λ y. word_at y q) (lent r t a) ∙ told p q t hp hq ip iq l (by_p t l)
      ];
    }

    pub slot_agree : Agree m fits A x rows
    slot_agree = slot_agrees m laws fits A x rows enough truly

    -- a member that has all rows of the slot closes it with that value
    pub closes_so : (q : ℕ) → q < m.size → q ∈ A → (j + 1) * R ≤ accepted (history q) → (v : Code) → after m fits (x q) (rows q) R ≡ closed v → closing q j ≡ v
    closes_so q hq iq l v e =
        let f = sym (given M G K m laws σ k (first q) (row (history q)) (pending_at (first q) (history q)) j)
        ∙ after_same m fits (x q) (x q) (own q) (rows q) R refl (λ t h. sym (owned q t (omega arith))) ∙ e in
        cc

  -- two members that have closed a slot closed it with one value
  same_value : (j p q : ℕ) → p < m.size → q < m.size → p ∈ A → q ∈ A → (j + 1) * R ≤ accepted (history p) → (j + 1) * R ≤ accepted (history q) → closing p j ≡ closing q j
  same_value j p q hp hq ip iq dp dq =
      let (v, close) = (slot_agree j p hp ip dp).close in
      closes_so j p hp ip dp p hp ip dp v (close p hp ip) ∙ sym (closes_so j p hp ip dp q hq iq dq v (close q hq iq))

  pub same_closings : (p q : ℕ) → p < m.size → q < m.size → p ∈ A → q ∈ A → accepted (history p) ≡ accepted (history q) → closings K (history p) ≡ closings K (history q)
  same_closings p q hp hq ip iq e =
      stepped_same G σ k (closings K (history p)) (closings K (history q)) (past p hp ip).stepped (past q hq iq).stepped
      ((past p hp ip).values
      ∙ values_same (closing p) (closing q) (accepted (history p) / R)
      (λ i l. let w = slots_within R some (i + 1) (accepted (history p)) (omega arith) in same_value i p q hp hq ip iq w (omega arith))
      ∙ ap (λ n. values_of (closing q) (n / R)) e ∙ sym (past q hq iq).values)

  pub same_content : (p q : ℕ) → p < m.size → q < m.size → p ∈ A → q ∈ A → accepted (history p) ≡ accepted (history q) → G.content (last p).duty ≡ G.content (last q).duty
  same_content p q hp hq ip iq e = (stands p hp ip).content ∙ ap (content_by G σ k) (same_closings p q hp hq ip iq e) ∙ sym (stands q hq iq).content

  pub kept : (j : ℕ) (v : Code) → ((p : ℕ) → p < m.size → p ∈ A → K.code (pending_at (first p) (history p) (j * R)) ≡ v) → (p : ℕ) → p < m.size → p ∈ A → (j + 1) * R ≤ accepted (history p) →
      (y : V) × (o : Outcome) × (answer (history p) (j * R + (R - 1)) ≡ Some (Closed y o)) × (K.code y ≡ v)
  kept j v all p hp ip l =
      let (y, o, e, f) = (past p hp ip).closes j l in
      (y, o, e, sym f ∙ closes_so j p hp ip l p hp ip l v ((slot_agree j p hp ip l).valid v all p hp ip))

module _ {S D V : Type 0} (M : Structure S) (G : Duty D V) (K : Same V) (lawful : (s : S) → Laws (M.meaning s)) where
  laws_of : (m : Meaning) (σ : G.Settings) (k : G.Content) (v : V) (es : History V) (c : Controller S D V) → Life M G K m σ k v es c → Laws m
  laws_of m σ k v es c life = subst Laws life.meaning (lawful life.s)

  pub agrees : (m : Meaning) → Agrees M G K m
  agrees m σ k A first history last enough yard p q hp hq ip iq e =
      let laws = laws_of m σ k (first p) (history p) (last p) (yard.life p hp ip) in
      (same_content M G K m laws σ k A first history last enough yard p q hp hq ip iq e, same_closings M G K m laws σ k A first history last enough yard p q hp hq ip iq e)

  pub keeps : (m : Meaning) → Keeps M G K m
  keeps m σ k A first history last enough yard j v all p hp ip l =
      kept M G K m (laws_of m σ k (first p) (history p) (last p) (yard.life p hp ip)) σ k A first history last enough yard j v all p hp ip l
