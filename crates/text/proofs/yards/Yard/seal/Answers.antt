use Rattle.std.proofs.Common.{Ok, refl}
use Rattle.text.proofs.DraftLines.{seals, was_there}
use Rattle.text.proofs.yards.Yard.seal.Goals as goal

pub returns : goal.returns
returns c =
    let e = c.in_ok-seal.ensures in
    seals _ _ _ _ _ (Ok tt) _ (was_there _ _ _ _ c.ok_or.ensures.value c.in_ok-draft.was) c.in_ok-read_seal.ensures (record { answer = e.answer; reason = e.reason; written = λ _. e.after }) (refl, refl)
