-- Duties that mean the same.
use Rattle.std.specs.Prelude.{◌≡◌, Bool, List}
use Rattle.duty.specs.Codes.{Code}
use Rattle.duty.specs.declared.outcomes.Outcome.{Outcome}
use Rattle.duty.specs.Calls.{Call, codes, answers, Leads}

module _ {D Settings Content : Type 0} (settings : D → Settings) (content : D → Content) where
  -- two duties of one kind are alike when their settings and their contents are equal
  pub record Alike (d e : D) : Type 0 where
    pub same_settings : settings d ≡ settings e
    pub same_content : content d ≡ content e

  -- duties that are alike, given the same values, answer the same and are alike again
  abbrev pub AlikeStays : (Settings → Code → Bool) → (Settings → Content → Code → Content × Outcome) → Type 0
  AlikeStays fitting step =
      (d d' e e' : D) (calls calls' : List Call) →
      Alike d e →
      Leads settings content fitting step d calls d' →
      Leads settings content fitting step e calls' e' →
      codes calls ≡ codes calls' →
      Alike d' e' × (answers calls ≡ answers calls')
