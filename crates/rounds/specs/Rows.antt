-- Words, rows, and the group of a value.
use Rattle.std.specs.Prelude.{ℕ, zero, suc, ◌+◌, ◌*◌, Bool, true, false, cond, ◌&&◌, List, [], ◌∷◌, map, Some, None, Option, ◌==◌}
use Rattle.duty.specs.Codes.{Code}

-- a word is one value, by its code, or nothing
abbrev pub Word : Type 0
Word = Option Code

-- place i of a row holds what came from controller i
abbrev pub Row : Type 0
Row = List Word

-- the word at a place, or nothing past the end
abbrev pub word_at : Row → ℕ → Word
word_at [] i = None
word_at (w ∷ ws) zero = w
word_at (w ∷ ws) (suc i) = word_at ws i

-- an unfit value counts as nothing
abbrev pub heard_word : (Code → Bool) → Word → Word
heard_word fits None = None
heard_word fits (Some v) = cond (fits v) (Some v) None

abbrev pub heard : (Code → Bool) → Row → Row
heard fits row = map (heard_word fits) row

-- whether two codes are equal
abbrev pub same_code : Code → Code → Bool
same_code [] [] = true
same_code [] (b ∷ bs) = false
same_code (a ∷ xs) [] = false
same_code (a ∷ xs) (b ∷ bs) = a == b && same_code xs bs

-- whether the word is the value v
abbrev pub says : Code → Word → Bool
says v None = false
says v (Some w) = same_code v w

-- the group of v: the controllers whose word in the row is v
abbrev pub group : Code → Row → ℕ
group v [] = 0
group v (w ∷ ws) = cond (says v w) 1 0 + 2 * group v ws
