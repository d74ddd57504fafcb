use Rattle.std.proofs.Common.{◌/◌, ◌^◌, not, eqb, ap, ◌∙◌}
use Rattle.survivor.proofs.Adding.{misplaced_shifted}
use Rattle.survivor.proofs.tables.Draft.misplaced.Goals as goal

pub returns-else-set-eq0 : goal.returns-else-set-eq0
returns-else-set-eq0 c =
    let n = c.args.self.now.size in
    ap (λ s. not (eqb (s / 2 ^ n) 0)) c.from.ensures ∙ misplaced_shifted n c.args.set c.if-set-eq0.false
