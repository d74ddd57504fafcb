-- What a board means, and what the calls on it promise.
use Rattle.std.specs.Prelude.{ℕ, List, Result}
use Rattle.arrayvec.specs.ArrayVec.{array_vec_len}
use Rattle.depot.specs.declared.boards.Board.{Board}
use Rattle.depot.specs.declared.refusals.SettingsRefusal.{SettingsRefusal}
use Rattle.depot.specs.Making as making
use Rattle.depot.specs.Bays.{amps_of}
use Rattle.depot.specs.Boards.{Settings, in_range, new_board}

abbrev pub settings_of : Board → Settings
settings_of b = record { bays = array_vec_len b.bays.records; feed = b.feed }

-- the amps of each of the board's bays, in order
abbrev pub content_of : Board → List ℕ
content_of b = amps_of b.bays.records.items

-- with settings in range a new board, else a refusal with 6
abbrev pub Made : Settings → Result Board SettingsRefusal → Type 0
Made = making.Made settings_of content_of in_range new_board
