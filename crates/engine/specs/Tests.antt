-- Tests of values.
use Rattle.std.specs.Prelude.{◌≡◌, Bool}
use Rattle.std.specs.Fn.{Shared}
use Rattle.std.specs.Borrow.{Bor}
use Rattle.duty.specs.Codes.{Code}

-- each call of f at a value answers what the test says of the value's code
abbrev pub Tests : {F V : Type 0} → Shared F (Bor V × Unit {0}) Bool → (V → Code) → F → (Code → Bool) → Type 0
Tests {F} {V} g code f test = (v : Bor V) (b : Bool) → g.post f (v, tt) b → b ≡ test (code v.now)
