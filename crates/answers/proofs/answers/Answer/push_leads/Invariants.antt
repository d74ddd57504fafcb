use Rattle.std.proofs.Common.{take}
use Rattle.answers.specs.Answers.{shown, Adds, leads_text}
use Rattle.answers.proofs.answers.Answer.push_leads.Given as goal

abbrev pub invariant-loop-lead : goal.invariant-loop-lead
invariant-loop-lead l = Adds (shown l.initial.self) (leads_text (take l.lead-index l.lead-items)) (shown l.self)
