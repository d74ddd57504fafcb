use Rattle.std.proofs.Common.{unwrap_or, ap, ◌∙◌}
use Rattle.std.proofs.lemmas.Option.{unwrap_or-slice_get}
use Rattle.engine.proofs.phases.Phase.lead.Goals as goal

pub returns : goal.returns
returns g c =
    c.unwrap_or.ensures ∙ ap (λ o. unwrap_or o 0) c.lead.ensures
    ∙ unwrap_or-slice_get (g.S.Structure.meaning c.args.structure.now).leads c.args.self.number 0
