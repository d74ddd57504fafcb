-- A plan book after any run of steps.
use Rattle.std.proofs.Common.{◌≡◌, ℕ, Bool, true, false, cond, ◌&&◌, List, [], ◌∷◌, ◌++◌, reverse, sym, refl, ap, ◌∙◌}
use mathlib.Core.List.{reverse-cons}
use Rattle.duty.specs.Codes.{Code}
use Rattle.duty.specs.Steps.{next, after, taken}
use Rattle.depot.specs.Plans.{plan_of, fitting, step}
use Rattle.depot.specs.PlanLaws.{first_plan, Kept}

-- the first of the plans, or the one that was in force before
abbrev first_or : ℕ → List Code → ℕ
first_or old [] = old
first_or old (plan ∷ plans) = plan_of plan

first_or_push : (old : ℕ) (plans : List Code) (plan : Code) → first_or old (plans ++ plan ∷ []) ≡ first_or (plan_of plan) plans
first_or_push old [] plan = refl
first_or_push old (p ∷ ps) plan = refl

first_or_none : (plans : List Code) → first_or 0 plans ≡ first_plan plans
first_or_none [] = refl
first_or_none (p ∷ ps) = refl

-- one plan more before the others: it is taken if it fits
more : (fits : Bool) (old : ℕ) (plan : Code) (taken : List Code) → first_or (cond fits (plan_of plan) old) (reverse taken) ≡ first_or old (reverse (cond (fits && true) (plan ∷ taken) taken))
more true old plan taken = sym (first_or_push old (reverse taken) plan) ∙ ap (first_or old) (sym (reverse-cons plan taken))
more false old plan taken = refl

from_all : (highest in_force : ℕ) (values : List Code) → after fitting step highest in_force values ≡ first_or in_force (reverse (taken fitting step highest in_force values))
from_all highest in_force [] = refl
from_all highest in_force (v ∷ vs) =
    let between = next fitting step highest in_force v in
    from_all highest between vs ∙ more (fitting highest v) in_force v (taken fitting step highest between vs)

-- a new book keeps its law over every run of steps
pub new_keeps : (highest in_force : ℕ) → in_force ≡ 0 → (values : List Code) → Kept (taken fitting step highest in_force values) (after fitting step highest in_force values)
new_keeps highest in_force new values =
    from_all highest in_force values
    ∙ ap (λ x. first_or x (reverse (taken fitting step highest in_force values))) new
    ∙ first_or_none (reverse (taken fitting step highest in_force values))
