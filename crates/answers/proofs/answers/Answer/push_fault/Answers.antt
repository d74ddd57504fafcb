use Rattle.std.proofs.Common.{◌∙◌, arith}
use Rattle.answers.proofs.Texts.{adds_fault}
use Rattle.answers.proofs.answers.Answer.push_fault.Goals as goal

pub returns : goal.returns
returns c =
    let h = adds_fault _ _ _ _ c.args.fault _ _ (omega arith) (omega arith) (c.from.ensures ∙ c.number.ensures) c.detail.ensures c.push.ensures c.push_after_tab.ensures c.push_after_tab-2.ensures in
    record { after = h.0; short = h.1 }
