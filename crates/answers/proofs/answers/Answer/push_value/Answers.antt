use Rattle.std.proofs.Common.{arith}
use Rattle.answers.proofs.Texts.{adds_plan, adds_grant}
use Rattle.answers.proofs.answers.Answer.push_value.Goals as goal

pub returns-in-Plan : goal.returns-in-Plan
returns-in-Plan c =
    let h = adds_plan _ _ _ c.in-Plan.plan c.in-Plan.is (omega arith) c.push_number.ensures in
    record { after = h.0; short = h.1 }

pub returns-in-Grant : goal.returns-in-Grant
returns-in-Grant c =
    let h = adds_grant _ _ _ _ _ c.in-Grant.grant c.in-Grant.is (omega arith) (omega arith) c.push_number-in-Grant.ensures c.push.ensures c.push_number-in-Grant-2.ensures in
    record { after = h.0; short = h.1 }
