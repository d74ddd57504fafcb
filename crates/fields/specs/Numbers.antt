-- What a field says where it is a number.
use Rattle.std.specs.Prelude.{◌≡◌, ℕ, ◌<◌, List, decimal}
use Rattle.std.specs.Str.Parse.{AllDigits, digits_value_after}

-- the numeral of a number: its decimal digits, with no needless zero in front
abbrev pub numeral : ℕ → List ℕ
numeral n = decimal n

-- the field is the numeral of n, which has at most five digits
abbrev pub Number : List ℕ → ℕ → Type 0
Number field n = (n < 100000) × (field ≡ numeral n)

-- the digits that follow those of n, and the number m that all of them say
abbrev pub Continues : ℕ → List ℕ → ℕ → Type 0
Continues n bytes m = AllDigits 10 bytes × (m ≡ digits_value_after 10 n bytes) × (m < 100000)
