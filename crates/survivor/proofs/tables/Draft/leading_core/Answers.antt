use Rattle.std.proofs.Common.{◌<◌, sym, arith}
use Rattle.std.proofs.lemmas.Bool.{both_ways}
use Rattle.structure.specs.Groups.{everyone}
use Rattle.cores.specs.Leads.{meets_all}
use Rattle.survivor.specs.Drafts.{sets_of}
use Rattle.survivor.specs.Sealing.{wiring, found_none, found_takes, found_keeps, found_done}
use Rattle.survivor.proofs.tables.Draft.leading_core.Goals as goal
use Rattle.survivor.proofs.tables.Draft.leading_core.Goals.{then-ones-fewest+then-meets_all, else-ones-fewest, else-ones-fewest-via-then-ones-fewest+else-meets_all, else-ones-fewest-via-else-ones-fewest}

pub loop-group-init : goal.loop-group-init
loop-group-init c = let d = c.args.self.now in found_none d.size (sets_of d) (wiring d c.requires) c.everyone-all.result (c.everyone-all.ensures.yard d.high)

pub loop-group-preserved : goal.loop-group-preserved
loop-group-preserved c =
    let d = c.args.self.now in
    let k = c.loop-group.group in
    let within : k < everyone d.size = omega (arith, c.everyone-all.ensures.yard d.high) in
    elim c.if-ones-fewest.branch [
      | then-ones-fewest+then-meets_all w ↦
          rw (w.best-is, w.fewest-is) (found_takes d.size (sets_of d) (wiring d c.requires) k c.loop-group.best c.loop-group.fewest within c.loop-group.invariant w.if-ones-fewest.true (sym w.if-meets_all.ensures))
      | else-ones-fewest w ↦
          rw (w.best-is, w.fewest-is) (found_keeps d.size (sets_of d) (wiring d c.requires) k c.loop-group.best c.loop-group.fewest within c.loop-group.invariant
          (elim w.else-ones-fewest.branch [
            | else-ones-fewest-via-then-ones-fewest+else-meets_all w' ↦ λ m. absurd (both_ways (meets_all d.size (sets_of d) k) (sym w'.if-meets_all.ensures) m)
            | else-ones-fewest-via-else-ones-fewest w' ↦ λ m. w'.if-ones-fewest.false
          ]))
    ]

pub returns : goal.returns
returns c =
    let d = c.args.self.now in
    found_done d.size (sets_of d) (wiring d c.requires) c.loop-group.group c.loop-group.best c.loop-group.fewest (omega (arith, c.everyone-all.ensures.yard d.high)) c.loop-group.invariant
