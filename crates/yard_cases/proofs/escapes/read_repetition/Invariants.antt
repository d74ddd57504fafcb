use Rattle.std.proofs.Common.{◌<◌, length}
use Rattle.yard_cases.proofs.escapes.read_repetition.Given as goal

abbrev pub decreases-loop-repeated : goal.decreases-loop-repeated
decreases-loop-repeated l = length l.body

abbrev pub invariant-loop-repeated : goal.invariant-loop-repeated
invariant-loop-repeated l = length l.body < length l.fn.text
