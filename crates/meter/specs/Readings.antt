-- The meter: which readings fit it, and what a reading does to it.
use Rattle.std.specs.Prelude.{ℕ, Bool, if◌then◌else◌, nat_le, slice_index}
use Rattle.duty.specs.Codes.{Code}
use Rattle.duty.specs.declared.outcomes.Outcome.{Outcome}
use Rattle.duty.specs.declared.outcomes.Outcome.TheVariants.{Taken, Aside}

-- a reading's code is its one number
abbrev pub reading_of : Code → ℕ
reading_of code = slice_index code 0

-- a reading fits up to the limit
abbrev pub fitting : ℕ → Code → Bool
fitting limit code = nat_le (reading_of code) limit

-- a reading below the latest is set aside with 99; any other is taken, and is then the latest
abbrev pub step : ℕ → ℕ → Code → ℕ × Outcome
step limit latest code = if nat_le latest (reading_of code) then (reading_of code, Taken) else (latest, Aside 99)
