use Rattle.std.proofs.Common.{length}
use Rattle.yard_cases.proofs.escapes.unfold.Given as goal

abbrev pub decreases-loop-text : goal.decreases-loop-text
decreases-loop-text l = length l.text
