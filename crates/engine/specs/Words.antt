-- Words of any kind of value, by their codes.
use Rattle.std.specs.Prelude.{List, map, Some, None, Option}
use Rattle.duty.specs.declared.values.Same.{Ghosts as Same}
use Rattle.rounds.specs.Rows.{Word, Row}

abbrev pub word_code : {V : Type 0} → Same V → Option V → Word
word_code K None = None
word_code K (Some v) = Some (K.code v)

abbrev pub codes : {V : Type 0} → Same V → List (Option V) → Row
codes K words = map (word_code K) words
