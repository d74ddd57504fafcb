-- A yard of four with a liar, worked out: three plan books, six rows, and controller 3 telling each of them another plan.
use Rattle.std.proofs.Common.{◌≡◌, ℕ, zero, suc, ◌<◌, ◌≤◌, min, Bool, true, cond, eqb, ltb, List, [], ◌∷◌, ◌++◌, map, length, get_or, Some, None, Ok, Option, sym, refl, ap, ◌∙◌, inl, inr, true≢false, arith, lit<, lit≤}
use Rattle.std.proofs.lemmas.Bool.{cases_eq, eq-eqb, ne_eqb, cond-true, cond-false}
use Rattle.structure.specs.Groups.{◌∈◌}
use Rattle.structure.specs.Meanings.{Meaning}
use Rattle.structure.proofs.Bits.{in_below}
use Rattle.duty.specs.Codes.{Code}
use Rattle.duty.specs.declared.outcomes.Outcome.TheVariants.{Taken}
use Rattle.rounds.specs.Rows.{Word, Row, word_at, heard as heard_by}
use Rattle.rounds.specs.Slots.{Stage, speaks, next}
use Rattle.rounds.specs.Slots.Stage.{poll, confirm, lead, closed}
use Rattle.rounds.specs.Agreement.{HeardTruly}
use Rattle.rounds.proofs.Existence.{stands, rows, after_stands, heard_truly, said_freely}
use Rattle.engine.specs.Controllers.{stage_of, runs_on, fits_on, due}
use Rattle.engine.specs.Promises.{Hears, Moves, Closes}
use Rattle.engine.specs.Words.{word_code, codes}
use Rattle.engine.specs.declared.controllers.Controller.{Controller}
use Rattle.engine.specs.declared.controllers.Heard.{Heard}
use Rattle.engine.specs.declared.controllers.Heard.TheVariants.{Round, Closed}
use Rattle.engine.specs.declared.controllers.Held.{Held}
use Rattle.engine.specs.declared.controllers.Held.TheVariants.{Poll, Confirm, Lead}
use Rattle.engine.specs.declared.phases.Phase.{Phase}
use Rattle.threshold.specs.Thresholds.{threshold}
use Rattle.threshold.specs.declared.thresholds.Threshold.{Threshold}
use Rattle.depot.specs.Plans.{fitting}
use Rattle.depot.specs.declared.books.PlanBook.{PlanBook}
use Rattle.depot.specs.declared.values.Plan.{Plan}
use Rattle.agreement.specs.Histories.{heard, History, accepted, row}
use Rattle.agreement.specs.Lives.{Run, rests, goes, Life, HearTruly}
use Rattle.example.specs.Liar.{M, K, G, LiarYard}

abbrev m : Meaning
m = threshold 4 1

abbrev fits : Code → Bool
fits = fitting 9

abbrev plan : ℕ → Plan
plan p = record { 0 = p }

-- the first proposals
abbrev first : ℕ → Plan
first zero = plan 7
first (suc zero) = plan 7
first (suc (suc p)) = plan 9

abbrev x : ℕ → Code
x p = K.code (first p)

-- what controller 3 says to p
abbrev free : ℕ → ℕ → ℕ → Word
free p q t = Some (suc p ∷ [])

-- the stage of p after t rounds, and the row that it hears then
abbrev st : ℕ → ℕ → Stage
st p t = stands m fits 7 x free t p

abbrev heard_codes : ℕ → ℕ → Row
heard_codes p t = rows m fits 7 x free p t

-- ---- the same as values
abbrev plan_of : Code → Plan
plan_of c = plan (get_or c 0 0)

abbrev plan_word : Word → Option Plan
plan_word None = None
plan_word (Some c) = Some (plan_of c)

abbrev words : ℕ → ℕ → List (Option Plan)
words p t = map plan_word (heard_codes p t)

abbrev four : Threshold
four = record { size = 4; faults = 1; high = lit≤ tt; third = lit< tt }

abbrev no_plan : PlanBook
no_plan = record { highest = 9; in_force = 0; some = lit≤ tt; few = lit≤ tt; known = lit≤ tt }

abbrev plan_7 : PlanBook
plan_7 = record { highest = 9; in_force = 7; some = lit≤ tt; few = lit≤ tt; known = lit≤ tt }

abbrev phase : ℕ → Phase
phase k = record { number = min k 15; few = omega arith }

abbrev number_of : Stage → ℕ
number_of (poll k c) = k
number_of (confirm k c w) = k
number_of (lead k c b) = k
number_of (closed c) = 0

abbrev held_of : Stage → Held Plan
held_of (poll k c) = Poll (plan_of c)
held_of (confirm k c w) = Confirm (plan_of c) (plan_word w)
held_of (lead k c b) = Lead (plan_of c) b
held_of (closed c) = Poll (plan_of c)

abbrev standing : ℕ → Stage → PlanBook → Controller Threshold PlanBook Plan
standing p s book = record { structure = four; duty = book; phase = phase (number_of s); held = held_of s; pending = first p }

-- p after t rows: five rounds of the slot, and then the close
abbrev at : ℕ → ℕ → Controller Threshold PlanBook Plan
at p t = cond (ltb t 6) (standing p (st p t) no_plan) (standing p (poll 0 (x p)) plan_7)

abbrev says : ℕ → ℕ → Heard Plan
says p t = cond (ltb t 5) (Round (due (st p (suc t)))) (Closed (plan 7) Taken)

abbrev history : ℕ → ℕ → History Plan
history p zero = []
history p (suc t) = heard (words p t) (Ok (says p t)) ∷ history p t

-- what one row does
record Fact (p t : ℕ) : Type 0 where
  stage : stage_of K (at p t) ≡ st p t
  code : codes K (words p t) ≡ heard_codes p t
  word : word_code K (plan_word (speaks (st p t))) ≡ speaks (st p t)
  hears : Hears M G K (at p t) (words p t) (Ok (says p t)) (at p (suc t))

-- the close: the book takes plan 7
closes : (p : ℕ) → Closes M G K (standing p (st p 5) no_plan) (7 ∷ []) (Closed (plan 7) Taken) (standing p (poll 0 (x p)) plan_7)
closes p = record {
  value = plan 7;
  outcome = Taken;
  answer = refl;
  code = refl;
  settles = record {
    answer = Ok Taken;
    takes = record {
      same_settings = refl;
      fit_content = λ _. refl;
      fit_outcome = λ _. refl;
      unfit_refused = λ e. absurd (true≢false e);
      unfit_unchanged = λ e. absurd (true≢false e);
    };
    outcome = refl;
  };
  stage = refl;
}

abbrev Moved : ℕ → ℕ → Type 0
Moved p t = Moves M G K (at p t) (next (runs_on M (at p t)) (stage_of K (at p t)) (heard_by (fits_on G (at p t)) (codes K (words p t)))) (says p t) (at p (suc t))

made : (p t : ℕ) → stage_of K (at p t) ≡ st p t → codes K (words p t) ≡ heard_codes p t → word_code K (plan_word (speaks (st p t))) ≡ speaks (st p t) →
    (at p (suc t)).structure ≡ (at p t).structure → (at p (suc t)).pending ≡ (at p t).pending → length (words p t) ≡ (runs_on M (at p t)).size → Moved p t → Fact p t
made p t stage code word structure pending whole moved = record {
  stage = stage;
  code = code;
  word = word;
  hears = record { structure = structure; pending = pending; accepted = λ _. (says p t, refl, moved); refused = λ other. absurd (other whole) };
}

-- worked out, row by row
fact : (p t : ℕ) → p < 3 → t < 6 → Fact p t
fact zero zero h l = made 0 0 refl refl refl refl refl refl (record { answer = refl; stage = refl; duty = refl })
fact zero (suc zero) h l = made 0 1 refl refl refl refl refl refl (record { answer = refl; stage = refl; duty = refl })
fact zero (suc (suc zero)) h l = made 0 2 refl refl refl refl refl refl (record { answer = refl; stage = refl; duty = refl })
fact zero (suc (suc (suc zero))) h l = made 0 3 refl refl refl refl refl refl (record { answer = refl; stage = refl; duty = refl })
fact zero (suc (suc (suc (suc zero)))) h l = made 0 4 refl refl refl refl refl refl (record { answer = refl; stage = refl; duty = refl })
fact zero (suc (suc (suc (suc (suc zero))))) h l = made 0 5 refl refl refl refl refl refl (closes 0)
fact zero (suc (suc (suc (suc (suc (suc t)))))) h l = absurd (omega arith)
fact (suc zero) zero h l = made 1 0 refl refl refl refl refl refl (record { answer = refl; stage = refl; duty = refl })
fact (suc zero) (suc zero) h l = made 1 1 refl refl refl refl refl refl (record { answer = refl; stage = refl; duty = refl })
fact (suc zero) (suc (suc zero)) h l = made 1 2 refl refl refl refl refl refl (record { answer = refl; stage = refl; duty = refl })
fact (suc zero) (suc (suc (suc zero))) h l = made 1 3 refl refl refl refl refl refl (record { answer = refl; stage = refl; duty = refl })
fact (suc zero) (suc (suc (suc (suc zero)))) h l = made 1 4 refl refl refl refl refl refl (record { answer = refl; stage = refl; duty = refl })
fact (suc zero) (suc (suc (suc (suc (suc zero))))) h l = made 1 5 refl refl refl refl refl refl (closes 1)
fact (suc zero) (suc (suc (suc (suc (suc (suc t)))))) h l = absurd (omega arith)
fact (suc (suc zero)) zero h l = made 2 0 refl refl refl refl refl refl (record { answer = refl; stage = refl; duty = refl })
fact (suc (suc zero)) (suc zero) h l = made 2 1 refl refl refl refl refl refl (record { answer = refl; stage = refl; duty = refl })
fact (suc (suc zero)) (suc (suc zero)) h l = made 2 2 refl refl refl refl refl refl (record { answer = refl; stage = refl; duty = refl })
fact (suc (suc zero)) (suc (suc (suc zero))) h l = made 2 3 refl refl refl refl refl refl (record { answer = refl; stage = refl; duty = refl })
fact (suc (suc zero)) (suc (suc (suc (suc zero)))) h l = made 2 4 refl refl refl refl refl refl (record { answer = refl; stage = refl; duty = refl })
fact (suc (suc zero)) (suc (suc (suc (suc (suc zero))))) h l = made 2 5 refl refl refl refl refl refl (closes 2)
fact (suc (suc zero)) (suc (suc (suc (suc (suc (suc t)))))) h l = absurd (omega arith)
fact (suc (suc (suc p))) t h l = absurd (omega arith)

-- ---- the histories
accepts : (p t : ℕ) → accepted (history p t) ≡ t
accepts p zero = refl
accepts p (suc t) = ap suc (accepts p t)

row_is : (p n t : ℕ) → t < n → row (history p n) t ≡ words p t
row_is p zero t l = absurd (omega arith)
row_is p (suc n) t l = let e = accepts p n in elim (cases_eq t n) [
  | inl z ↦ cond-true (eqb t (accepted (history p n))) (words p n) (row (history p n) t) (eq-eqb t (accepted (history p n)) (omega arith)) ∙ ap (words p) (sym z)
  | inr ne ↦ cond-false (eqb t (accepted (history p n))) (words p n) (row (history p n) t) (ne_eqb t (accepted (history p n)) (λ y. ne (omega arith))) ∙ row_is p n t (omega arith)
]

run : (p t : ℕ) → p < 3 → t ≤ 6 → Run M G K (at p 0) (history p t) (at p t)
run p zero h l = rests
run p (suc t) h l = goes (heard (words p t) (Ok (says p t))) (at p (suc t)) (run p t h (omega arith)) (fact p t h l).hears

later : (p n t : ℕ) → t ≤ n → (es : History Plan) × (history p n ≡ es ++ history p t)
later p zero t l = let z : t ≡ 0 = omega arith in ([], ap (history p) (sym z))
later p (suc n) t l = elim (cases_eq t (suc n)) [
  | inl z ↦ ([], ap (history p) (sym z))
  | inr ne ↦ let (es, e) = later p n t (omega arith) in (heard (words p n) (Ok (says p n)) ∷ es, ap (λ r. heard (words p n) (Ok (says p n)) ∷ r) e)
]

-- ---- the yard
member : (p : ℕ) → p ∈ 7 → p < 3
member p i = in_below 3 7 p (lit< tt) i

first_fits : (p : ℕ) → fits (x p) ≡ true
first_fits zero = refl
first_fits (suc zero) = refl
first_fits (suc (suc p)) = refl

told : HeardTruly m fits 7 x (rows m fits 7 x free)
told = heard_truly m fits 7 x free (λ p h i. first_fits p)

life : (p : ℕ) → p < 3 → Life M G K m 9 0 (first p) (history p 6) (at p 6)
life p h = record {
  s = four;
  d = no_plan;
  start = at p 0;
  meaning = refl;
  settings = refl;
  content = refl;
  opened = record { fits = first_fits p; structure = refl; duty = refl; stage = refl; pending = refl };
  runs = run p 6 h (omega arith);
}

heard_of : (p q t : ℕ) → p < 3 → t < 6 → word_at (codes K (row (history p 6) t)) q ≡ word_at (heard_codes p t) q
heard_of p q t h l = ap (λ ws. word_at (codes K ws) q) (row_is p 6 t l) ∙ ap (λ r. word_at r q) (fact p t h l).code

yard : HearTruly M G K m 9 0 7 first (λ p. history p 6) (λ p. at p 6)
unfolding life
yard = record {
  life = λ p h i. life p (member p i);
  truly = λ p q t hp hq ip iq l.
      let six : t < 6 = omega (arith, accepts p 6) in
      let f = fact q t (member q iq) six in
      let (es, e) = later q 6 t (omega arith) in (
        plan_word (speaks (st q t)),
        record {
          earlier = history q t;
          later = es;
          c = at q t;
          parts = e;
          runs = run q t (member q iq) (omega arith);
          count = accepts q t;
          speaks = f.word ∙ ap speaks (sym f.stage);
        },
        heard_of p q t (member p ip) six ∙ told.truly p q t hp hq ip iq six ∙ ap speaks (after_stands m fits 7 x free q t) ∙ sym f.word,
      );
}

pub liar_yard : LiarYard
liar_yard = record {
  first = first;
  history = λ p. history p 6;
  last = λ p. at p 6;
  truly = yard;
  differ = λ e. let z : ◌≡◌ {A = ℕ} 7 9 = ap (λ (p : Plan). p.0) e in omega arith;
  lies = λ p q t l h k e.
      let f : free p 3 t ≡ free q 3 t =
      sym (heard_of p 3 t (omega arith) k ∙ said_freely m fits 7 x free p 3 t (omega arith) (λ i. omega (arith, in_below 3 7 3 (lit< tt) i)))
      ∙ e ∙ heard_of q 3 t h k ∙ said_freely m fits 7 x free q 3 t (omega arith) (λ i. omega (arith, in_below 3 7 3 (lit< tt) i)) in
      let z : suc p ≡ suc q = cc in
      omega arith;
  accept = λ p h. accepts p 6;
  close = λ p h. refl;
}
