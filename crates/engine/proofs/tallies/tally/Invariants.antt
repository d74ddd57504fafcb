use Rattle.std.proofs.Common.{◌≡◌, ◌+◌, ◌*◌, ◌^◌, ◌<◌, ◌≤◌, length, drop}
use Rattle.rounds.specs.Rows.{group}
use Rattle.engine.specs.Words.{codes}
use Rattle.engine.proofs.tallies.tally.Given as goal

-- the bits so far are those of the words before i, and the rest of the group stands at i and above
abbrev pub invariant-loop-i : goal.invariant-loop-i
invariant-loop-i g l =
    let v = g.V.Same.code l.value in
    (l.i ≤ length l.counted)
    × (l.group < 2 ^ l.i)
    × (l.group + 2 ^ l.i * group v (codes g.V.Same (drop l.i l.counted)) ≡ group v (codes g.V.Same l.counted))
