use Rattle.std.proofs.Common.{arith}
use Rattle.survivor.specs.Sealing.{none_shared, and_threes}
use Rattle.survivor.proofs.tables.Draft.none_shared.Goals as goal

pub returns-then-a-b-eq0 : goal.returns-then-a-b-eq0
returns-then-a-b-eq0 c =
    none_shared c.args.self.now c.sets-sets.result.now c.sets-sets.ensures c.loop-i.i c.loop-j.j c.loop-k.k
    c.loop-i-test.true c.loop-j-test.true c.loop-k-test.true c.if-a-b-eq0.true

pub returns : goal.returns
returns c =
    let d = c.args.self.now in
    and_threes d c.sets-sets.result.now c.sets-sets.ensures (λ a b k p. c.loop-i.invariant a (omega arith) b k)
