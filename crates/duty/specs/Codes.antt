-- The code of a value.
use Rattle.std.specs.Prelude.{ℕ, List}

-- a value means a list of numbers
abbrev pub Code : Type 0
Code = List ℕ
