use Rattle.std.proofs.Common.{◌≡◌, ℕ, true, List, Ok, sum, sym, ap, ◌∙◌, arith, rules}
use Rattle.std.proofs.lemmas.Bool.{both_ways}
use Rattle.duty.specs.declared.outcomes.Outcome.{Outcome}
use Rattle.depot.specs.Boards.{fitting}
use Rattle.depot.specs.BoardCalls.{settings_of, content_of}
use Rattle.depot.specs.Values.{grant_code}
use Rattle.depot.proofs.BayLists.{amps_set}
use Rattle.depot.proofs.Steps.{step_within}
use Rattle.depot.proofs.board_duty.BoardDuty.take.Goals as goal

pub invariant_of-self : goal.invariant_of-self
invariant_of-self c =
    let board = c.args.self.now in
    let grant = c.args.grant.now in
    let (same, changed) = amps_set board.bays.records.items _ grant.bay grant.amps c.set_amps.ensures.this_bay in
    let total = ap sum changed in
    record { some = omega arith; few = omega arith; rated = board.rated; within = omega arith }

pub returns-clause-takes : goal.returns-clause-takes
returns-clause-takes c =
    let board = c.args.self.now in
    let grant = c.args.grant.now in
    let s = settings_of board in
    let (same, changed) = amps_set board.bays.records.items _ grant.bay grant.amps c.set_amps.ensures.this_bay in
    let fits : fitting s (grant_code grant) ≡ true = search rules in
    let stepped = step_within s (content_of board) (grant_code grant) (omega arith) in
    record {
      same_settings = ap (λ k. record { bays = k; feed = board.feed }) same;
      fit_content = λ _. changed ∙ sym (ap (λ (p : List ℕ × Outcome). p.0) stepped);
      fit_outcome = λ _. sym (ap (λ (p : List ℕ × Outcome). Ok p.1) stepped);
      unfit_refused = λ unfit. absurd (both_ways (fitting s (grant_code grant)) unfit fits);
      unfit_unchanged = λ unfit. absurd (both_ways (fitting s (grant_code grant)) unfit fits);
    }
