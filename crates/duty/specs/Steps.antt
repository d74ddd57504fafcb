-- A run of steps: values given to a duty one after another.
use Rattle.std.specs.Prelude.{Bool, if◌then◌else◌, ◌&&◌, List, [], ◌∷◌}
use Rattle.duty.specs.Codes.{Code}
use Rattle.duty.specs.declared.outcomes.Outcome.{Outcome}
use Rattle.duty.specs.Outcomes.{is_taken}

module _
    {Settings Content : Type 0}
    (fitting : Settings → Code → Bool)
    (step : Settings → Content → Code → Content × Outcome)
    (s : Settings)
  where
    -- the content after one value; an unfit one changes nothing
    abbrev pub next : Content → Code → Content
    next c v = if fitting s v then (step s c v).0 else c

    -- whether the value fits and is taken
    abbrev pub takes : Content → Code → Bool
    takes c v = fitting s v && is_taken (step s c v).1

    -- the content after all the values
    abbrev pub after : Content → List Code → Content
    after c [] = c
    after c (v ∷ vs) = after (next c v) vs

    -- those of the values that are taken, in their order
    abbrev pub taken : Content → List Code → List Code
    taken c [] = []
    taken c (v ∷ vs) = if takes c v then v ∷ taken (next c v) vs else taken (next c v) vs
