use Rattle.cores.proofs.Leads.{leading_leads}
use Rattle.survivor.specs.Drafts.{size_of, sets_of}
use Rattle.survivor.specs.Sealing.{wiring}
use Rattle.survivor.proofs.tables.Table.leads.Goals as goal

pub returns-clause-least : goal.returns-clause-least
returns-clause-least c = let d = c.args.self.now.draft in leading_leads (size_of d) (sets_of d) (wiring d c.args.self.now.some)
