-- One turn of a loop that gives values to a duty.
use Rattle.std.proofs.Common.{◌≡◌, ℕ, ◌+◌, ◌<◌, Bool, List, map, length, get_or, drop, sym, ap, ◌∙◌}
use Rattle.std.proofs.lemmas.List.{at_drop_more}
use Rattle.duty.specs.Codes.{Code}
use Rattle.duty.specs.declared.outcomes.Outcome.{Outcome}
use Rattle.duty.specs.Steps.{next, after}

module _
    {V Settings Content : Type 0}
    (code : V → Code)
    (fitting : Settings → Code → Bool)
    (step : Settings → Content → Code → Content × Outcome)
  where
    -- after the turn at i the values past i lead to what those from i on led to before it
    pub turn : (s t : Settings) (before after' : Content) (values : List V) (i : ℕ) (v : V) → t ≡ s → after' ≡ next fitting step t before (code v) → v ≡ get_or values i v → i < length values → after fitting step s after' (map code (drop (i + 1) values)) ≡ after fitting step s before (map code (drop i values))
    turn s t before after' values i v same given item inside =
        ap (λ c. after fitting step s c (map code (drop (i + 1) values)))
        (given ∙ ap (λ x. next fitting step x before (code v)) same ∙ ap (λ x. next fitting step s before (code x)) item)
        ∙ sym (at_drop_more (λ vs. after fitting step s before (map code vs)) values i v inside)
