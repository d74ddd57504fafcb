use Rattle.std.proofs.Common.{arith}
use Rattle.answers.proofs.Texts.{adds_sealed, adds_round}
use Rattle.answers.proofs.answers.Answer.push_reply.Goals as goal

pub returns-in-Sealed : goal.returns-in-Sealed
returns-in-Sealed c =
    let h = adds_sealed _ _ _ _ c.in-Sealed.table c.in-Sealed.is c.push-in-Sealed.ensures c.push_leads.ensures in
    record { after = h.0; short = h.1 }

pub returns-in-Round : goal.returns-in-Round
returns-in-Round c =
    let h = adds_round _ _ _ _ c.in-Round.round _ c.in-Round.is (omega arith) c.from.ensures c.push-in-Round.ensures c.push_after_tab.ensures in
    record { after = h.0; short = h.1 }
