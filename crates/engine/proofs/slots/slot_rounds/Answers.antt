use Rattle.rounds.proofs.Slots.{slot_agrees}
use Rattle.rounds.proofs.Existence.{runs_exist}
use Rattle.engine.proofs.slots.slot_rounds.Goals as goal

pub returns-clause-agrees : goal.returns-clause-agrees
returns-clause-agrees g c = slot_agrees (g.S.Structure.meaning c.args.structure.now) (g.met.S.Structure.lawful c.args.structure.now)

pub returns-clause-exist : goal.returns-clause-exist
returns-clause-exist g c = runs_exist (g.S.Structure.meaning c.args.structure.now)
