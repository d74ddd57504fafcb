-- What holds of a board whatever grants it is given, in whatever order.
use Rattle.std.specs.Prelude.{◌≡◌, ℕ, ◌≤◌, if◌then◌else◌, List, [], ◌∷◌, reverse, length, sum, Result, ◌==◌, slice_index}
use Rattle.duty.specs.Codes.{Code}
use Rattle.depot.specs.Making as making
use Rattle.depot.specs.declared.boards.Board.{Board}
use Rattle.depot.specs.declared.refusals.SettingsRefusal.{SettingsRefusal}
use Rattle.depot.specs.Boards.{Settings, bay_of, amps_in, fitting, step}
use Rattle.depot.specs.BoardCalls.{settings_of, content_of}

-- the amps of the first of the grants that is for this bay, or 0 where none is
abbrev pub first_for : ℕ → List Code → ℕ
first_for bay [] = 0
first_for bay (grant ∷ grants) = if bay_of grant == bay then amps_in grant else first_for bay grants

-- the amps of the last of the grants that is for this bay, or 0 where none is
abbrev pub last_for : ℕ → List Code → ℕ
last_for bay grants = first_for bay (reverse grants)

-- When these grants were taken, in their order, the bays have these amps: they sum to at most the feed, and each bay has
-- those of the last grant taken for it, or 0.
pub record Kept (s : Settings) (taken : List Code) (amps : List ℕ) : Type 0 where
  pub all_bays : length amps ≡ s.bays
  pub within_feed : sum amps ≤ s.feed
  pub last_grant : (bay : ℕ) → slice_index amps bay ≡ last_for bay taken

-- a new board keeps this for ever
abbrev pub Lasting : Result Board SettingsRefusal → Type 0
Lasting = making.Lasting settings_of content_of fitting step Kept
