use Rattle.std.proofs.Common.{rules}
use Rattle.std.proofs.lemmas.Bool.Decides.{same_from_decides}
use Rattle.rounds.specs.Rows.{same_code}
use Rattle.engine.proofs.Groups.{same_decides}
use Rattle.engine.proofs.Words.{when_said}
use Rattle.engine.proofs.tallies.says.Goals as goal

pub returns : goal.returns
returns g c =
    let code = g.V.Same.code in
    let value = c.args.value.now in
    when_said g.V.Same value c.args.word.now _ _ c.as_ref.ensures.value c.is_some_and.ensures
    (λ x h. same_from_decides c.is_some_and.result (same_code (code value) (code x.now)) (search rules) (same_decides (code value) (code x.now)))
