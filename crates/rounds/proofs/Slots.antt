-- One slot, phase by phase: members of an enough group that hear each other truly come to hold one value, and keep it.
use Rattle.std.proofs.Common.{◌≡◌, ℕ, zero, suc, ◌+◌, ◌-◌, ◌*◌, ◌/◌, ◌%◌, ◌<◌, ◌≤◌, Bool, true, false, ltb, length, Some, None, sym, refl, ap, ◌∙◌, subst, inl, inr, add-one, arith}
use Rattle.std.proofs.lemmas.Bool.{cases_lt, cases_eq, lt-ltb, le-ltb, cond-true, cond-false}
use Rattle.structure.specs.Groups.{◌∈◌}
use Rattle.structure.specs.Meanings.{Meaning, Laws}
use Rattle.duty.specs.Codes.{Code}
use Rattle.rounds.specs.Rows.{Word, Row, word_at, heard}
use Rattle.rounds.specs.Rounds.{first, or_else, has_enough, weighty, polled, confirmed, led}
use Rattle.rounds.specs.Slots.{Stage, speaks, lead_of, rounds, ended, next, after}
use Rattle.rounds.specs.Slots.Stage.{poll, confirm, lead, closed}
use Rattle.rounds.specs.Agreement.{Holds, stage, HeardTruly, Agree, SlotAgrees}
use Rattle.rounds.proofs.Words.{some_same, first_fits, heard_at, heard_fits}
use Rattle.rounds.proofs.Phases.{Told, Fitting, One, All, told_heard, one_polled, sure_confirmed, all_enough, all_polled, all_confirmed, led_taken}

-- the round with which phase k begins
abbrev start : ℕ → ℕ
start zero = 0
start (suc k) = suc (suc (suc (start k)))

start_is : (k : ℕ) → start k ≡ 3 * k
start_is zero = refl
start_is (suc k) = omega (arith, start_is k)

-- ---- one controller: what it holds in each phase
module _ (m : Meaning) (fits : Code → Bool) (x : Code) (rows : ℕ → Row) where
  abbrev row : ℕ → Row
  row t = heard fits (rows t)

  -- the value with which phase k begins, and what its three rounds give
  abbrev begun : ℕ → Code
  begun zero = x
  begun (suc k) =
      led m (confirmed m (begun k) (row (suc (start k)))) (has_enough m (row (suc (start k))) (confirmed m (begun k) (row (suc (start k))))) (lead_of m k) (row (suc (suc (start k))))

  abbrev y : ℕ → Word
  y k = polled m (row (start k))

  abbrev z : ℕ → Code
  z k = confirmed m (begun k) (row (suc (start k)))

  abbrev sure : ℕ → Bool
  sure k = has_enough m (row (suc (start k))) (z k)

  ended_more : (k : ℕ) (v : Code) → suc k < length m.leads → ended m k v ≡ poll (suc k) v
  ended_more k v l = cond-true (ltb (k + 1) (length m.leads)) (poll (k + 1) v) (closed v) (lt-ltb (k + 1) (length m.leads) (omega arith)) ∙ ap (λ i. poll i v) (add-one k)

  ended_last : (k : ℕ) (v : Code) → length m.leads ≤ suc k → ended m k v ≡ closed v
  ended_last k v l = cond-false (ltb (k + 1) (length m.leads)) (poll (k + 1) v) (closed v) (le-ltb (k + 1) (length m.leads) (omega arith))

  abbrev at : ℕ → Stage
  at t = after m fits x rows t

  -- from the beginning of a phase, round by round
  module _ (k : ℕ) (e : at (start k) ≡ poll k (begun k)) where
    to_confirm : at (suc (start k)) ≡ confirm k (begun k) (y k)
    to_confirm = ap (λ s. next m s (row (start k))) e

    to_lead : at (suc (suc (start k))) ≡ lead k (z k) (sure k)
    to_lead = ap (λ s. next m s (row (suc (start k)))) to_confirm

    to_end : at (start (suc k)) ≡ ended m k (begun (suc k))
    to_end = ap (λ s. next m s (row (suc (suc (start k))))) to_lead

  at_poll : (k : ℕ) → k < length m.leads → at (start k) ≡ poll k (begun k)
  at_poll zero l = refl
  at_poll (suc k) l = to_end k (at_poll k (omega arith)) ∙ ended_more k (begun (suc k)) l

  at_confirm : (k : ℕ) → k < length m.leads → at (suc (start k)) ≡ confirm k (begun k) (y k)
  at_confirm k l = to_confirm k (at_poll k l)

  at_lead : (k : ℕ) → k < length m.leads → at (suc (suc (start k))) ≡ lead k (z k) (sure k)
  at_lead k l = to_lead k (at_poll k l)

  at_close : 1 ≤ length m.leads → at (start (length m.leads)) ≡ closed (begun (length m.leads))
  at_close some = last (length m.leads) refl some
    where
      last : (n : ℕ) → n ≡ length m.leads → 1 ≤ n → at (start n) ≡ closed (begun n)
      last zero e l = absurd (omega arith)
      last (suc k) e l = to_end k (at_poll k (omega arith)) ∙ ended_last k (begun (suc k)) (omega arith)

  -- what is held fits, if the first value does
  polled_fits : (k : ℕ) (v : Code) → y k ≡ Some v → fits v ≡ true
  polled_fits k v e = first_fits fits (has_enough m (row (start k))) (rows (start k)) v e

  or_else_fits : (w : Word) (v : Code) → ((u : Code) → w ≡ Some u → fits u ≡ true) → fits v ≡ true → fits (or_else w v) ≡ true
  or_else_fits None v f h = h
  or_else_fits (Some u) v f h = f u refl

  led_fits : (v : Code) (b : Bool) (k t : ℕ) → fits v ≡ true → fits (led m v b k (row t)) ≡ true
  led_fits v true k t h = h
  led_fits v false k t h = or_else_fits (word_at (row t) k) v (λ u e. heard_fits fits (word_at (rows t) k) u (sym (heard_at fits (rows t) k) ∙ e)) h

  confirmed_fits : (k : ℕ) → fits (begun k) ≡ true → fits (z k) ≡ true
  confirmed_fits k h = or_else_fits (first (weighty m (row (suc (start k)))) (row (suc (start k)))) (begun k) (first_fits fits (weighty m (row (suc (start k)))) (rows (suc (start k)))) h

  begun_fits : (k : ℕ) → fits x ≡ true → fits (begun k) ≡ true
  begun_fits zero h = h
  begun_fits (suc k) h = led_fits (z k) (sure k) (lead_of m k) (suc (suc (start k))) (confirmed_fits k (begun_fits k h))

-- ---- the members of an enough group that hear each other truly
module _ (m : Meaning) (laws : Laws m) (fits : Code → Bool) (S : ℕ) (x : ℕ → Code) (rows : ℕ → ℕ → Row) (enough : m.enough S ≡ true) (truly : HeardTruly m fits S x rows) where
  abbrev n : ℕ
  n = m.size

  abbrev L : ℕ
  L = length m.leads

  abbrev value : ℕ → ℕ → Code
  value k p = begun m fits (x p) (rows p) k

  abbrev heard_by : ℕ → ℕ → Row
  heard_by p t = heard fits (rows p t)

  -- what the members say in the three rounds of phase k
  abbrev polls : ℕ → ℕ → Word
  polls k r = Some (value k r)

  abbrev answers : ℕ → ℕ → Word
  answers k r = y m fits (x r) (rows r) k

  abbrev proposes : ℕ → ℕ → Word
  proposes k r = Some (z m fits (x r) (rows r) k)

  value_fits : (k p : ℕ) → p < n → p ∈ S → fits (value k p) ≡ true
  value_fits k p h i = begun_fits m fits (x p) (rows p) k (truly.fit p h i)

  -- each of their rows, as heard, holds what the members say
  module _ (k : ℕ) (l : k < L) (p : ℕ) (h : p < n) (i : p ∈ S) where
    told : (t : ℕ) (say : ℕ → Word) → t < rounds m → Fitting n S fits say → ((q : ℕ) → speaks (stage m fits S x rows q t) ≡ say q) → Told n S say (heard_by p t)
    told t say u f e = told_heard n S fits say (rows p t) f (record {
      whole = truly.whole p t h i u;
      true_at = λ q hq iq. truly.truly p q t h hq i iq u ∙ e q;
    })

    told_polls : Told n S (polls k) (heard_by p (start k))
    told_polls = told (start k) (polls k) (omega (arith, start_is k))
        (λ r hr ir v e. subst (λ w. fits w ≡ true) (some_same (value k r) v (polls k r) refl e) (value_fits k r hr ir))
        (λ q. ap speaks (at_poll m fits (x q) (rows q) k l))

    told_answers : Told n S (answers k) (heard_by p (suc (start k)))
    told_answers = told (suc (start k)) (answers k) (omega (arith, start_is k))
        (λ r hr ir v e. polled_fits m fits (x r) (rows r) k v e)
        (λ q. ap speaks (at_confirm m fits (x q) (rows q) k l))

    told_proposes : Told n S (proposes k) (heard_by p (suc (suc (start k))))
    told_proposes = told (suc (suc (start k))) (proposes k) (omega (arith, start_is k))
        (λ r hr ir v e. subst (λ w. fits w ≡ true) (some_same (z m fits (x r) (rows r) k) v (proposes k r) refl e) (confirmed_fits m fits (x r) (rows r) k (value_fits k r hr ir)))
        (λ q. ap speaks (at_lead m fits (x q) (rows q) k l))

  -- ---- after the confirm round, a member that is sure holds what every member holds
  one_answer : (k : ℕ) → k < L → One n S (answers k)
  one_answer k l r s hr hs ir is v w p q =
      one_polled m laws S enough (polls k) (heard_by r (start k)) (heard_by s (start k)) (told_polls k l r hr ir) (told_polls k l s hs is) v w p q

  sure_shared : (k : ℕ) → k < L → (p q : ℕ) → p < n → q < n → p ∈ S → q ∈ S → sure m fits (x p) (rows p) k ≡ true → z m fits (x q) (rows q) k ≡ z m fits (x p) (rows p) k
  sure_shared k l p q hp hq ip iq e =
      sure_confirmed m laws S enough (answers k) (heard_by p (suc (start k))) (heard_by q (suc (start k))) (told_answers k l p hp ip) (told_answers k l q hq iq)
      (one_answer k l) (z m fits (x p) (rows p) k) (value k q) e

  -- ---- a phase whose lead is a member ends with one value
  settled : (k : ℕ) → k < L → lead_of m k ∈ S → (p : ℕ) → p < n → p ∈ S → value (suc k) p ≡ z m fits (x (lead_of m k)) (rows (lead_of m k)) k
  settled k l i p hp ip =
      let q = lead_of m k in
      let hq = laws.leads_inside k l in
      led_taken m laws S enough (proposes k) (heard_by p (suc (suc (start k)))) (told_proposes k l p hp ip) q hq i
      (z m fits (x q) (rows q) k) (z m fits (x p) (rows p) k) (sure m fits (x p) (rows p) k) refl (λ e. sym (sure_shared k l p q hp hq ip i e))

  -- ---- a value that all members hold as a phase begins is all that they hold in it and after it
  module _ (v : Code) where
    abbrev Held : ℕ → Type 0
    Held k = (p : ℕ) → p < n → p ∈ S → value k p ≡ v

    module _ (k : ℕ) (l : k < L) (held : Held k) (p : ℕ) (h : p < n) (i : p ∈ S) where
      all_answer : y m fits (x p) (rows p) k ≡ Some v
      all_answer = all_polled m laws S enough (polls k) (heard_by p (start k)) (told_polls k l p h i) v (λ r hr ir. ap Some (held r hr ir))

    module _ (k : ℕ) (l : k < L) (held : Held k) (p : ℕ) (h : p < n) (i : p ∈ S) where
      all_say : All n S (answers k) v
      all_say r hr ir = all_answer k l held r hr ir

      all_propose : z m fits (x p) (rows p) k ≡ v
      all_propose = all_confirmed m laws S enough (answers k) (heard_by p (suc (start k))) (told_answers k l p h i) v all_say (value k p)

      all_sure : sure m fits (x p) (rows p) k ≡ true
      all_sure = ap (has_enough m (heard_by p (suc (start k)))) all_propose ∙ all_enough m laws S enough (answers k) (heard_by p (suc (start k))) (told_answers k l p h i) v all_say

      all_end : value (suc k) p ≡ v
      all_end = ap (λ b. led m (z m fits (x p) (rows p) k) b (lead_of m k) (heard_by p (suc (suc (start k))))) all_sure ∙ all_propose

    kept : (k d : ℕ) → k + d ≤ L → Held k → Held (k + d)
    kept k zero l held = let e : k ≡ k + 0 = omega arith in subst Held e held
    kept k (suc d) l held = let e : suc (k + d) ≡ k + suc d = omega arith in subst Held e (all_end (k + d) (omega arith) (kept k d (omega arith) held))

    -- every stage from there on holds it
    holds_at : (k : ℕ) → k ≤ L → Held k → (p : ℕ) → p < n → p ∈ S → (Holds v (stage m fits S x rows p (start k)))
        × (k < L → Holds v (stage m fits S x rows p (suc (start k)))) × (k < L → Holds v (stage m fits S x rows p (suc (suc (start k)))))
    holds_at k l held p h i = (
      elim (cases_lt k L) [
        | inl less ↦ subst (Holds v) (sym (at_poll m fits (x p) (rows p) k less)) (held p h i)
        | inr last ↦
            let e : k ≡ L = omega arith in
            subst (λ j. Holds v (stage m fits S x rows p (start j))) (sym e) (subst (Holds v) (sym (at_close m fits (x p) (rows p) laws.leads_some)) (subst Held e held p h i))
      ],
      λ less. subst (Holds v) (sym (at_confirm m fits (x p) (rows p) k less)) (held p h i, all_answer k less held p h i),
      λ less. subst (Holds v) (sym (at_lead m fits (x p) (rows p) k less)) (all_propose k less held p h i, all_sure k less held p h i),
    )

    -- a round is one of the three of its phase
    holds_from : (k : ℕ) → k ≤ L → Held k → (p t : ℕ) → p < n → p ∈ S → 3 * k ≤ t → t ≤ rounds m → Holds v (stage m fits S x rows p t)
    holds_from k l held p t h i low high =
        let j = t / 3 in
        let le : k ≤ j = omega arith in
        let few : j ≤ L = omega arith in
        let same : k + (j - k) ≡ j = omega arith in
        let there = holds_at j few (subst Held same (kept k (j - k) (omega arith) held)) p h i in
        elim (cases_eq (t % 3) 0) [
          | inl e ↦ let at : start j ≡ t = omega (arith, start_is j) in subst (λ u. Holds v (stage m fits S x rows p u)) at there.0
          | inr ne ↦ elim (cases_eq (t % 3) 1) [
            | inl e ↦ let at : suc (start j) ≡ t = omega (arith, start_is j) in subst (λ u. Holds v (stage m fits S x rows p u)) at (there.1 (omega arith))
            | inr ne' ↦ let at : suc (suc (start j)) ≡ t = omega (arith, start_is j) in subst (λ u. Holds v (stage m fits S x rows p u)) at (there.2 (omega arith))
          ]
        ]

    closes : (k : ℕ) → k ≤ L → Held k → (p : ℕ) → p < n → p ∈ S → stage m fits S x rows p (rounds m) ≡ closed v
    closes k l held p h i =
        let same : k + (L - k) ≡ L = omega arith in
        ap (λ t. stage m fits S x rows p t) (sym (start_is L)) ∙ at_close m fits (x p) (rows p) laws.leads_some ∙ ap closed (subst Held same (kept k (L - k) (omega arith) held) p h i)

  pub agree : Agree m fits S x rows
  agree =
      let (j, l, i) = laws.leads_meet S enough in
      record {
        settle = λ k lk ik. (
          z m fits (x (lead_of m k)) (rows (lead_of m k)) k,
          λ p t h ip low high. holds_from (z m fits (x (lead_of m k)) (rows (lead_of m k)) k) (suc k) (omega arith) (settled k lk ik) p t h ip (omega arith) high,
        );
        close = (
          z m fits (x (lead_of m j)) (rows (lead_of m j)) j,
          closes (z m fits (x (lead_of m j)) (rows (lead_of m j)) j) (suc j) (omega arith) (settled j l i),
        );
        keep = λ v all p t h ip high. holds_from v 0 (omega arith) all p t h ip (omega arith) high;
        valid = λ v all. closes v 0 (omega arith) all;
      }

pub slot_agrees : (m : Meaning) → Laws m → SlotAgrees m
slot_agrees m laws fits S x rows enough truly = agree m laws fits S x rows enough truly

-- ---- one slot, whatever is heard: before the last row it is open at the round that is due, and with the last row it closes
module _ (m : Meaning) (fits : Code → Bool) (x : Code) (rows : ℕ → Row) where
  -- the stage after t rows, by its phase and its round
  pub data Open (t : ℕ) (s : Stage) : Type 0 where
    polling : (k : ℕ) (v : Code) → s ≡ poll k v → t ≡ 3 * k → Open t s
    confirming : (k : ℕ) (v : Code) (w : Word) → s ≡ confirm k v w → t ≡ 3 * k + 1 → Open t s
    leading : (k : ℕ) (v : Code) (b : Bool) → s ≡ lead k v b → t ≡ 3 * k + 2 → Open t s

  pub after_open : (t : ℕ) → t < rounds m → Open t (after m fits x rows t)
  after_open t l =
      let k = t / 3 in
      let e = start_is k in
      let less : k < length m.leads = omega arith in
      elim (cases_eq (t % 3) 0) [
        | inl z ↦ let u : start k ≡ t = omega arith in polling k (begun m fits x rows k) (ap (λ i. after m fits x rows i) (sym u) ∙ at_poll m fits x rows k less) (omega arith)
        | inr ne ↦ elim (cases_eq (t % 3) 1) [
          | inl z ↦ let u : suc (start k) ≡ t = omega arith in
              confirming k (begun m fits x rows k) (y m fits x rows k) (ap (λ i. after m fits x rows i) (sym u) ∙ at_confirm m fits x rows k less) (omega arith)
          | inr ne' ↦ let u : suc (suc (start k)) ≡ t = omega arith in
              leading k (z m fits x rows k) (sure m fits x rows k) (ap (λ i. after m fits x rows i) (sym u) ∙ at_lead m fits x rows k less) (omega arith)
        ]
      ]

  -- the value with which the slot closes
  pub slot_value : Code
  slot_value = begun m fits x rows (length m.leads)

  pub after_closed : 1 ≤ length m.leads → after m fits x rows (rounds m) ≡ closed slot_value
  unfolding slot_value
  after_closed some = ap (λ i. after m fits x rows i) (sym (start_is (length m.leads))) ∙ at_close m fits x rows some

  pub slot_value_fits : fits x ≡ true → fits slot_value ≡ true
  unfolding slot_value
  slot_value_fits h = begun_fits m fits x rows (length m.leads) h

-- only the rows before t count
pub after_same : (m : Meaning) (fits : Code → Bool) (x x' : Code) (rows rows' : ℕ → Row) (t : ℕ) → x ≡ x' → ((i : ℕ) → i < t → rows i ≡ rows' i) → after m fits x rows t ≡ after m fits x' rows' t
after_same m fits x x' rows rows' zero e f = ap (poll 0) e
after_same m fits x x' rows rows' (suc t) e f =
    ap (λ s. next m s (heard fits (rows t))) (after_same m fits x x' rows rows' t e (λ i l. f i (omega arith))) ∙ ap (λ r. next m (after m fits x' rows' t) (heard fits r)) (f t (omega arith))
