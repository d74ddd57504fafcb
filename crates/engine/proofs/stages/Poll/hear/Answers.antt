use Rattle.std.proofs.Common.{◌≡◌}
use Rattle.structure.specs.Meanings.{Meaning, Laws}
use Rattle.rounds.specs.Rows.{Word, Row}
use Rattle.rounds.specs.Rounds.{polled}
use Rattle.rounds.specs.Laws.{Polls}
use Rattle.rounds.proofs.Laws as laws
use Rattle.engine.proofs.stages.Poll.hear.Goals as goal

by_law : (m : Meaning) → Laws m → (row : Row) (y : Word) → y ≡ polled m row → Polls m row y
by_law m lawful row y e = rw e (laws.polls m lawful row)

pub returns-clause-polls : goal.returns-clause-polls
returns-clause-polls g c = by_law _ (g.met.S.Structure.lawful c.args.row.now.structure.now) _ _ c.first_enough.ensures
