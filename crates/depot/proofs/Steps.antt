-- What the step of a board gives.
use Rattle.std.proofs.Common.{◌≡◌, ℕ, ◌<◌, ◌≤◌, leb, List, sum}
use Rattle.std.proofs.lemmas.Bool.{cond-true, cond-false, le-leb, lt-leb}
use Rattle.duty.specs.Codes.{Code}
use Rattle.duty.specs.declared.outcomes.Outcome.TheVariants.{Taken, Aside}
use Rattle.depot.specs.Boards.{Settings, replaced, step}

-- a grant within the feed is taken
pub step_within : (s : Settings) (amps : List ℕ) (grant : Code) → sum (replaced amps grant) ≤ s.feed → step s amps grant ≡ (replaced amps grant, Taken)
step_within s amps grant within =
    cond-true (leb (sum (replaced amps grant)) s.feed) (replaced amps grant, Taken) (amps, Aside 15) (le-leb (sum (replaced amps grant)) s.feed within)

-- a grant past the feed is set aside
pub step_past : (s : Settings) (amps : List ℕ) (grant : Code) → s.feed < sum (replaced amps grant) → step s amps grant ≡ (amps, Aside 15)
step_past s amps grant past =
    cond-false (leb (sum (replaced amps grant)) s.feed) (replaced amps grant, Taken) (amps, Aside 15) (lt-leb (sum (replaced amps grant)) s.feed past)
