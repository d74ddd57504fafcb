-- What a plan book means, and what the calls on it promise.
use Rattle.std.specs.Prelude.{ℕ, Result}
use Rattle.depot.specs.declared.books.PlanBook.{PlanBook}
use Rattle.depot.specs.declared.refusals.SettingsRefusal.{SettingsRefusal}
use Rattle.depot.specs.Making as making
use Rattle.depot.specs.Plans.{in_range, new_book}

-- the highest plan
abbrev pub settings_of : PlanBook → ℕ
settings_of b = b.highest

-- the plan in force, or 0
abbrev pub content_of : PlanBook → ℕ
content_of b = b.in_force

-- with the highest plan in range a new book, else a refusal with 6
abbrev pub Made : ℕ → Result PlanBook SettingsRefusal → Type 0
Made = making.Made settings_of content_of in_range (λ _. new_book)
