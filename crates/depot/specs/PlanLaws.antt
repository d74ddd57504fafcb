-- What holds of a plan book whatever plans it is given, in whatever order.
use Rattle.std.specs.Prelude.{◌≡◌, ℕ, List, [], ◌∷◌, reverse, Result}
use Rattle.duty.specs.Codes.{Code}
use Rattle.depot.specs.Making as making
use Rattle.depot.specs.declared.books.PlanBook.{PlanBook}
use Rattle.depot.specs.declared.refusals.SettingsRefusal.{SettingsRefusal}
use Rattle.depot.specs.Plans.{plan_of, fitting, step}
use Rattle.depot.specs.PlanCalls.{settings_of, content_of}

-- the first of the plans, or 0 where there is none
abbrev pub first_plan : List Code → ℕ
first_plan [] = 0
first_plan (plan ∷ plans) = plan_of plan

-- the last of the plans, or 0 where there is none
abbrev pub last_plan : List Code → ℕ
last_plan plans = first_plan (reverse plans)

-- in force is the last plan taken, or 0
abbrev pub Kept : List Code → ℕ → Type 0
Kept taken in_force = in_force ≡ last_plan taken

-- a new book keeps this for ever
abbrev pub Lasting : Result PlanBook SettingsRefusal → Type 0
Lasting = making.Lasting settings_of content_of fitting step (λ _. Kept)
