-- What it is to read a field.
use Rattle.std.specs.Prelude.{◌≡◌, ℕ, List, Option}
use Rattle.std.specs.Option as options

-- a reader's answer: the value that the field says, and nothing where it says none
abbrev pub Reads : {V : Type 0} → (List ℕ → V → Type 0) → List ℕ → Option V → Type 0
Reads Says field r = options.MatchOption r ((v : _) → Says field v → ⊥) (Says field)

-- a field says one value at most
abbrev pub SaysOne : {V : Type 0} → (List ℕ → V → Type 0) → Type 0
SaysOne Says = (field : List ℕ) (v w : _) → Says field v → Says field w → v ≡ w
