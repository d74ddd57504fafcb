use Rattle.std.proofs.Common.{arith}
use Rattle.answers.proofs.Texts.{whole}
use Rattle.answers.proofs.answers.Answer.to_line.Goals as goal

pub returns : goal.returns
returns c = whole c.args.line c.args.came.now _ _ _ _ _ (omega arith) c.none-answer.ensures c.push_number.ensures c.push.ensures (c.push_came.ensures.after, c.push_came.ensures.short) c.push-2.ensures
