use Rattle.std.proofs.Common.{◌<◌, length, List, get_or, ap, arith}
use Rattle.std.proofs.lemmas.Bool.Decides.{nat_tests}
use Rattle.depot.specs.declared.bays.Bay.{Bay}
use Rattle.depot.proofs.BayLists.{amps_le_sum, sum_set}
use Rattle.depot.proofs.boards.Board.others.Goals as goal

pub overflow_sub-result : goal.overflow_sub-result
overflow_sub-result c =
    let board = c.args.self.now in
    let grant = c.args.grant.now in
    let inside : grant.bay < length board.bays.records.items = grind (arith, nat_tests) in
    let read = ap (λ (bays : List Bay). (get_or bays grant.bay (record { amps = 0 })).amps) c.deref.ensures.0 in
    let part = amps_le_sum board.bays.records.items grant.bay (record { amps = 0 }) inside in
    omega arith

pub returns-clause-value : goal.returns-clause-value
returns-clause-value c =
    let board = c.args.self.now in
    let grant = c.args.grant.now in
    let inside : grant.bay < length board.bays.records.items = grind (arith, nat_tests) in
    let read = ap (λ (bays : List Bay). (get_or bays grant.bay (record { amps = 0 })).amps) c.deref.ensures.0 in
    let part = amps_le_sum board.bays.records.items grant.bay (record { amps = 0 }) inside in
    let whole = sum_set board.bays.records.items grant.bay (record { amps = 0 }) inside grant.amps in
    omega arith
