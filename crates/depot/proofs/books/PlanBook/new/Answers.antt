use Rattle.std.proofs.Common.{refl}
use Rattle.duty.proofs.Takings.{always}
use Rattle.depot.specs.Plans.{fitting, step}
use Rattle.depot.specs.PlanCalls.{settings_of, content_of}
use Rattle.depot.specs.PlanLaws.{Kept}
use Rattle.depot.proofs.PlanRuns.{new_keeps}
use Rattle.depot.proofs.books.PlanBook.new.Goals as goal

pub returns-clause-lasting : goal.returns-clause-lasting
returns-clause-lasting c = always settings_of content_of fitting step _ Kept (new_keeps c.args.highest 0 refl)
