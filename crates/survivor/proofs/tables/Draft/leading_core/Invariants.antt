use Rattle.survivor.specs.Drafts.{sets_of}
use Rattle.survivor.specs.Sealing.{Found}
use Rattle.survivor.proofs.tables.Draft.leading_core.Given as goal

abbrev pub invariant-loop-group : goal.invariant-loop-group
invariant-loop-group l = Found l.self.size (sets_of l.self) l.group l.best l.fewest
