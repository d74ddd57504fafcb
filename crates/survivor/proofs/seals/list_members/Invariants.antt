use Rattle.std.proofs.Common.{◌≡◌, ◌≤◌, length, take}
use Rattle.structure.specs.Groups.{members}
use Rattle.survivor.proofs.seals.list_members.Given as goal

abbrev pub invariant-loop-i : goal.invariant-loop-i
invariant-loop-i l = (take l.count l.list ≡ members l.i l.group) × (l.count ≤ l.i) × (length l.list ≡ 16)
