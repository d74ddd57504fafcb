use Rattle.std.proofs.Common.{ℕ, ◌<◌, length, get_or}
use lib.Bits.{bit_and}
use Rattle.survivor.proofs.tables.Draft.none_shared.Given as goal

abbrev pub invariant-loop-k : goal.invariant-loop-k
invariant-loop-k l = (c : ℕ) → c < l.k → 0 < bit_and (bit_and l.a l.b) (get_or l.sets c 0)

abbrev pub invariant-loop-j : goal.invariant-loop-j
invariant-loop-j l = (b c : ℕ) → b < l.j → c < length l.sets → 0 < bit_and (bit_and l.a (get_or l.sets b 0)) (get_or l.sets c 0)

abbrev pub invariant-loop-i : goal.invariant-loop-i
invariant-loop-i l =
    (a : ℕ) → a < l.i → (b c : ℕ) → b < length l.sets → c < length l.sets → 0 < bit_and (bit_and (get_or l.sets a 0) (get_or l.sets b 0)) (get_or l.sets c 0)
