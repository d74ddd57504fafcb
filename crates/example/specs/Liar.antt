-- Actual controllers that meet the premises of the agreement: a yard of four in which controller 3 tells each of the others something else.
use Rattle.std.specs.Prelude.{◌≡◌, ℕ, ◌<◌, [], ◌∷◌, ◌≢◌}
use Rattle.structure.specs.declared.Structure.{Ghosts as Structure}
use Rattle.duty.specs.declared.duties.Duty.{Ghosts as Duty}
use Rattle.duty.specs.declared.values.Same.{Ghosts as Same}
use Rattle.duty.specs.declared.outcomes.Outcome.TheVariants.{Taken}
use Rattle.rounds.specs.Rows.{word_at}
use Rattle.engine.specs.Words.{codes}
use Rattle.engine.specs.declared.controllers.Controller.{Controller}
use Rattle.threshold.specs.Thresholds.{threshold}
use Rattle.threshold.specs.declared.thresholds.Threshold.{Threshold}
use Rattle.threshold.specs.contracts.methods.ThresholdStructure.TheImpl as ThresholdImpl
use Rattle.depot.specs.declared.books.PlanBook.{PlanBook}
use Rattle.depot.specs.declared.values.Plan.{Plan}
use Rattle.depot.specs.contracts.plan_duty.PlanBookDuty.TheImpl as BookImpl
use Rattle.depot.specs.contracts.values.PlanSame.TheImpl as PlanImpl
use Rattle.agreement.specs.Histories.{History, accepted, row, closings}
use Rattle.agreement.specs.Lives.{HearTruly}

abbrev pub M : Structure Threshold
M = ThresholdImpl.ghosts

abbrev pub K : Same Plan
K = PlanImpl.ghosts

abbrev pub G : Duty PlanBook Plan
G = BookImpl.ghosts

-- the three members of a yard of four, of which one may be faulty: 0, 1 and 2, on plan books with plans to 9
pub record LiarYard : Type 0 where
  pub first : ℕ → Plan
  pub history : ℕ → History Plan
  pub last : ℕ → Controller Threshold PlanBook Plan
  pub truly : HearTruly M G K (threshold 4 1) 9 0 7 first history last
  -- they begin with different proposals
  pub differ : first 0 ≡ first 2 → ⊥
  -- controller 3 says something else to each of them, in every round
  pub lies : (p q t : ℕ) → p < q → q < 3 → t < 6 → word_at (codes K (row (history p) t)) 3 ≢ word_at (codes K (row (history q) t)) 3
  -- each accepts the six rows of a slot, and closes it with plan 7
  pub accept : (p : ℕ) → p < 3 → accepted (history p) ≡ 6
  pub close : (p : ℕ) → p < 3 → closings K (history p) ≡ (7 ∷ [], Taken) ∷ []
