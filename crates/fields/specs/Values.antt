-- The text of a plan and of a grant. A slash is byte 47.
use Rattle.std.specs.Prelude.{◌≡◌, ℕ, ◌<◌, List, ◌∷◌, ◌++◌}
use Rattle.depot.specs.declared.values.Grant.{Grant}
use Rattle.depot.specs.declared.values.Plan.{Plan}
use Rattle.fields.specs.Numbers.{numeral}

-- a plan's numeral
abbrev pub plan_text : Plan → List ℕ
plan_text p = numeral p.0

-- the bay's numeral, a slash, and the numeral of the amps
abbrev pub grant_text : Grant → List ℕ
grant_text g = numeral g.bay ++ (47 ∷ numeral g.amps)

-- the field is the text of the plan, whose number has at most five digits
abbrev pub PlanText : List ℕ → Plan → Type 0
PlanText field p = (p.0 < 100000) × (field ≡ plan_text p)

-- the field is the text of the grant, whose numbers have at most five digits
abbrev pub GrantText : List ℕ → Grant → Type 0
GrantText field g = (g.bay < 100000) × (g.amps < 100000) × (field ≡ grant_text g)
