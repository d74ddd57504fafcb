-- What each call of a controller promises. The runs of which the agreement speaks are linked by exactly these.
use Rattle.std.specs.Prelude.{◌≡◌, true, false, List, [], length, Ok, Err, Option, Result, ◌≢◌}
use Rattle.structure.specs.declared.Structure.{Ghosts as Structure}
use Rattle.duty.specs.Codes.{Code}
use Rattle.duty.specs.Refusals as DutyRefusals
use Rattle.duty.specs.Taking.{Takes}
use Rattle.duty.specs.declared.duties.Duty.{Ghosts as Duty}
use Rattle.duty.specs.declared.values.Same.{Ghosts as Same}
use Rattle.duty.specs.declared.outcomes.Outcome.{Outcome}
use Rattle.duty.specs.declared.outcomes.Outcome.TheVariants.{Aside}
use Rattle.duty.specs.declared.refusals.DutyRefusal.{DutyRefusal}
use Rattle.rounds.specs.Rows.{heard}
use Rattle.rounds.specs.Slots.{Stage, speaks, next}
use Rattle.rounds.specs.Slots.Stage.{poll, confirm, lead, closed}
use Rattle.engine.specs.declared.controllers.Controller.{Controller}
use Rattle.engine.specs.declared.controllers.Heard.{Heard}
use Rattle.engine.specs.declared.controllers.Heard.TheVariants.{Round, Closed}
use Rattle.engine.specs.declared.controllers.Unopened.{Unopened}
use Rattle.engine.specs.declared.refusals.RowRefusal.{RowRefusal}
use Rattle.engine.specs.Controllers.{stage_of, runs_on, fits_on, due}
use Rattle.engine.specs.Refusals.{Refused}
use Rattle.engine.specs.Rows.{fits_in}
use Rattle.engine.specs.Words.{word_code, codes}

-- ---- closing: the duty takes the value
-- the outcome of what the duty answered; a refused value counts as set aside under the refusal's number (no closed value of a controller is
-- refused: whoever seals a table is promised that each fits)
abbrev pub outcome_of : Result Outcome DutyRefusal → Outcome
outcome_of (Ok o) = o
outcome_of (Err e) = Aside (DutyRefusals.number e)

-- the duty d is given the value v and is d' then; the outcome is o
pub record Settles {D V : Type 0} (G : Duty D V) (d : D) (v : Code) (o : Outcome) (d' : D) : Type 0 where
  pub answer : Result Outcome DutyRefusal
  pub takes : Takes G.settings G.content G.fitting G.step d v answer d'
  pub outcome : o ≡ outcome_of answer

module _ {S D V : Type 0} (M : Structure S) (G : Duty D V) (K : Same V) where
  -- ---- opening on s and d with v
  -- the first proposal is what the slot begins with, and pending
  pub record Opened (s : S) (d : D) (v : V) (c : Controller S D V) : Type 0 where
    pub fits : fits_in G d (K.code v) ≡ true
    pub structure : c.structure ≡ s
    pub duty : c.duty ≡ d
    pub stage : stage_of K c ≡ poll 0 (K.code v)
    pub pending : c.pending ≡ v

  -- an unfit one is refused with 4, and structure and duty come back
  pub record Returned (s : S) (d : D) (v : V) (u : Unopened S D) : Type 0 where
    pub unfit : fits_in G d (K.code v) ≡ false
    pub structure : u.structure ≡ s
    pub duty : u.duty ≡ d
    pub number : DutyRefusals.number u.refusal ≡ 4
    pub values : DutyRefusals.values u.refusal ≡ []

  abbrev pub Opens : S → D → V → Result (Controller S D V) (Unopened S D) → Type 0
  Opens s d v (Ok c) = Opened s d v c
  Opens s d v (Err u) = Returned s d v u

  -- ---- offering v
  pub record Offers (c : Controller S D V) (v : V) (r : Result (Unit {0}) DutyRefusal) (c' : Controller S D V) : Type 0 where
    -- a fitting proposal becomes the pending one, and nothing else changes
    pub structure : c'.structure ≡ c.structure
    pub duty : c'.duty ≡ c.duty
    pub held : c'.held ≡ c.held
    pub phase : c'.phase ≡ c.phase
    pub stage : stage_of K c' ≡ stage_of K c
    pub taken : fits_on G c (K.code v) ≡ true → (r ≡ Ok tt) × (c'.pending ≡ v)
    -- an unfit one is refused with 4, and the whole controller stays
    pub refused : fits_on G c (K.code v) ≡ false → DutyRefusals.Refused 4 [] r × (c' ≡ c)

  -- ---- speaking
  abbrev pub Speaks : Controller S D V → Option V → Type 0
  Speaks c w = word_code K w ≡ speaks (stage_of K c)

  -- ---- hearing
  -- the slot goes on at stage s: the answer is the round now due, and the duty is not touched
  pub record GoesOn (c : Controller S D V) (s : Stage) (a : Heard V) (c' : Controller S D V) : Type 0 where
    pub answer : a ≡ Round (due s)
    pub stage : stage_of K c' ≡ s
    pub duty : c'.duty ≡ c.duty

  -- the slot closes with x: the duty takes it, and the next slot begins with the pending proposal
  pub record Closes (c : Controller S D V) (x : Code) (a : Heard V) (c' : Controller S D V) : Type 0 where
    pub value : V
    pub outcome : Outcome
    pub answer : a ≡ Closed value outcome
    pub code : K.code value ≡ x
    pub settles : Settles G c.duty x outcome c'.duty
    pub stage : stage_of K c' ≡ poll 0 (K.code c.pending)

  abbrev pub Moves : Controller S D V → Stage → Heard V → Controller S D V → Type 0
  Moves c (poll k x) a c' = GoesOn c (poll k x) a c'
  Moves c (confirm k x y) a c' = GoesOn c (confirm k x y) a c'
  Moves c (lead k z sure) a c' = GoesOn c (lead k z sure) a c'
  Moves c (closed x) a c' = Closes c x a c'

  pub record Hears (c : Controller S D V) (words : List (Option V)) (r : Result (Heard V) RowRefusal) (c' : Controller S D V) : Type 0 where
    pub structure : c'.structure ≡ c.structure
    pub pending : c'.pending ≡ c.pending
    -- a row of n words moves the slot to the stage that the rounds give
    pub accepted : length words ≡ (runs_on M c).size → (a : Heard V) × (r ≡ Ok a) × Moves c (next (runs_on M c) (stage_of K c) (heard (fits_on G c) (codes K words))) a c'
    -- any other is refused with 3, and the whole controller stays
    pub refused : (length words ≢ (runs_on M c).size) → Refused 3 [] r × (c' ≡ c)
