-- How long a numeral is.
use Rattle.std.proofs.Common.{ℕ, ◌^◌, ◌<◌, ◌≤◌, length, arith}
use Rattle.std.proofs.lemmas.Fmt.{length-decimal-le}
use Rattle.fields.specs.Numbers.{numeral}

-- the length of a numeral of 8, 32 or 64 bits
pub length_8 : (n : ℕ) → n < 2 ^ 8 → length (numeral n) ≤ 3
length_8 n h = length-decimal-le 3 n (omega arith) (omega arith) (omega arith)

pub length_32 : (n : ℕ) → n < 2 ^ 32 → length (numeral n) ≤ 10
length_32 n h = length-decimal-le 10 n (omega arith) (omega arith) (omega arith)

pub length_64 : (n : ℕ) → n < 2 ^ 64 → length (numeral n) ≤ 20
length_64 n h = length-decimal-le 20 n (omega arith) (omega arith) (omega arith)
