-- What taking a value promises.
use Rattle.std.specs.Prelude.{◌≡◌, Bool, true, false, [], Ok, Result}
use Rattle.duty.specs.Codes.{Code}
use Rattle.duty.specs.declared.outcomes.Outcome.{Outcome}
use Rattle.duty.specs.declared.refusals.DutyRefusal.{DutyRefusal}
use Rattle.duty.specs.Refusals.{Refused}

module _
    {D Settings Content : Type 0}
    (settings : D → Settings)
    (content : D → Content)
    (fitting : Settings → Code → Bool)
    (step : Settings → Content → Code → Content × Outcome)
  where
    -- The duty `before` is given the value with this code, answers `r`, and is `after` then. The settings stay. A fitting
    -- value gives the content and the outcome of the step; an unfit one is refused with 4, and the whole duty stays.
    pub record Takes (before : D) (code : Code) (r : Result Outcome DutyRefusal) (after : D) : Type 0 where
      pub same_settings : settings after ≡ settings before
      pub fit_content : fitting (settings before) code ≡ true → content after ≡ (step (settings before) (content before) code).0
      pub fit_outcome : fitting (settings before) code ≡ true → r ≡ Ok (step (settings before) (content before) code).1
      pub unfit_refused : fitting (settings before) code ≡ false → Refused 4 [] r
      pub unfit_unchanged : fitting (settings before) code ≡ false → after ≡ before
