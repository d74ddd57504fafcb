-- The board: which grants fit it, and what a grant does to it.
use Rattle.std.specs.Prelude.{ℕ, Bool, if◌then◌else◌, ◌&&◌, List, replicate, sum, nat_le, nat_lt, slice_index, slice_set}
use Rattle.duty.specs.Codes.{Code}
use Rattle.duty.specs.declared.outcomes.Outcome.{Outcome}
use Rattle.duty.specs.declared.outcomes.Outcome.TheVariants.{Taken, Aside}

-- a board's settings: the number of its bays, and the feed in amps
pub record Settings : Type 0 where
  pub bays : ℕ
  pub feed : ℕ

-- 1 to 64 bays, and a feed of at most 32,000 A
abbrev pub in_range : Settings → Bool
in_range s = nat_le 1 s.bays && nat_le s.bays 64 && nat_le s.feed 32000

-- a board's content is the amps of each of its bays, in order: on a new board all are 0
abbrev pub new_board : Settings → List ℕ
new_board s = replicate s.bays 0

-- the bay and the amps of a grant, by its code
abbrev pub bay_of : Code → ℕ
bay_of grant = slice_index grant 0

abbrev pub amps_in : Code → ℕ
amps_in grant = slice_index grant 1

-- a grant fits when its bay exists, counted from 0, and its amps are at most 1,000
abbrev pub fitting : Settings → Code → Bool
fitting s grant = nat_lt (bay_of grant) s.bays && nat_le (amps_in grant) 1000

-- the amps of all bays with those of the grant's bay replaced
abbrev pub replaced : List ℕ → Code → List ℕ
replaced amps grant = slice_set amps (bay_of grant) (amps_in grant)

-- a grant is taken when the bays with its own replaced sum to at most the feed; else it is set aside with 15
abbrev pub step : Settings → List ℕ → Code → List ℕ × Outcome
step s amps grant = if nat_le (sum (replaced amps grant)) s.feed then (replaced amps grant, Taken) else (amps, Aside 15)
