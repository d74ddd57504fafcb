use Rattle.std.proofs.Common.{◌≡◌, List, length, take, Option}
use Rattle.lines.specs.Forms.{field_number}
use Rattle.lines.proofs.WordRuns.{Sofar}
use Rattle.lines.proofs.word_rows.read_words.Given as goal

abbrev pub invariant-loop-at : goal.invariant-loop-at
invariant-loop-at g l =
    (ws : List (Option _)) × Sofar g.V.Value.says l.fn.rest ws l.at-iterator.fields × (l.at-iterator.at ≡ field_number (length ws)) × (l.words ≡ take 17 ws)
