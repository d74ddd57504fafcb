use Rattle.std.proofs.Common.{length, take, replicate, sum, sym, ap, ◌∙◌, arith}
use Rattle.std.proofs.lemmas.Bool.Decides.{nat_tests}
use Rattle.duty.proofs.Takings.{always}
use Rattle.depot.specs.Boards.{Settings, fitting, step}
use Rattle.depot.specs.BoardCalls.{settings_of, content_of}
use Rattle.depot.specs.BoardLaws.{Kept}
use Rattle.depot.proofs.BoardRuns.{new_keeps}
use Rattle.depot.proofs.BayLists.{amps_new, sum_zeros}
use Rattle.depot.proofs.boards.Board.new.Goals as goal

pub invariant_of-result : goal.invariant_of-result
invariant_of-result c =
    let (n, zeros) = amps_new c.args.bays c.truncate.new.self.items (omega arith) (c.truncate.ensures.items ∙ ap (take c.args.bays) c.from-records.ensures.0) in
    let zero_sum = ap sum zeros ∙ sum_zeros c.args.bays in
    record { some = omega arith; few = omega arith; rated = omega arith; within = omega arith }

pub returns : goal.returns
returns c =
    let (n, zeros) = amps_new c.args.bays c.truncate.new.self.items (omega arith) (c.truncate.ensures.items ∙ ap (take c.args.bays) c.from-records.ensures.0) in
    let s : Settings = record { bays = length c.truncate.new.self.items; feed = c.args.feed } in
    record {
      made = (grind (arith, nat_tests), ap (λ k. record { bays = k; feed = c.args.feed }) n, zeros);
      lasting = always settings_of content_of fitting step _ (Kept s) (new_keeps s _ (zeros ∙ ap (λ k. replicate k 0) (sym n)));
    }
