use Rattle.std.proofs.Common.{◌≡◌, ℕ, List, length}
use Rattle.lines.specs.Forms.{field_number}
use Rattle.lines.proofs.Ascents.{Climbed}
use Rattle.lines.proofs.sets.read_set.Given as goal

abbrev pub invariant-loop-at : goal.invariant-loop-at
invariant-loop-at l = (ns : List ℕ) × Climbed l.fn.rest ns l.low l.group l.at-iterator.fields × (l.at-iterator.at ≡ field_number (length ns))
