-- What making a duty from its settings promises: the same of a board and of a plan book.
use Rattle.std.specs.Prelude.{◌≡◌, Bool, true, false, List, [], Ok, Err, Result}
use Rattle.duty.specs.Codes.{Code}
use Rattle.duty.specs.Calls.{Always}
use Rattle.duty.specs.declared.outcomes.Outcome.{Outcome}
use Rattle.depot.specs.declared.refusals.SettingsRefusal.{SettingsRefusal}
use Rattle.depot.specs.Refusals.{number, values}

module _ {D Settings Content : Type 0} (settings : D → Settings) (content : D → Content) where
  -- with settings in range a duty that has them, and the content of a new one; else a refusal with 6
  abbrev pub Made : (Settings → Bool) → (Settings → Content) → Settings → Result D SettingsRefusal → Type 0
  Made in_range new s (Ok d) = (in_range s ≡ true) × (settings d ≡ s) × (content d ≡ new s)
  Made in_range new s (Err e) = (in_range s ≡ false) × (number e ≡ 6) × (values e ≡ [])

  -- a new duty keeps for ever what `kept` says of its settings, the values taken and the content
  abbrev pub Lasting : (Settings → Code → Bool) → (Settings → Content → Code → Content × Outcome) → (Settings → List Code → Content → Type 0) → Result D SettingsRefusal → Type 0
  Lasting fitting step kept (Ok d) = Always settings content fitting step d (kept (settings d))
  Lasting fitting step kept (Err e) = Unit {0}
