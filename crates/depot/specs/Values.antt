-- The codes of the two kinds of values.
use Rattle.std.specs.Prelude.{[], ◌∷◌}
use Rattle.duty.specs.Codes.{Code}
use Rattle.depot.specs.declared.values.Grant.{Grant}
use Rattle.depot.specs.declared.values.Plan.{Plan}

-- a plan's code is its number
abbrev pub plan_code : Plan → Code
plan_code p = p.0 ∷ []

-- a grant's code is its bay, then its amps
abbrev pub grant_code : Grant → Code
grant_code g = g.bay ∷ g.amps ∷ []
