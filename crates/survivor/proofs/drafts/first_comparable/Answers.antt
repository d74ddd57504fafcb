use Rattle.std.proofs.Common.{true, false, rules}
use Rattle.std.proofs.lemmas.Iterator.{YieldsList-from_slice, IsFirst-from_position}
use Rattle.survivor.proofs.Adding.{Compared, first_so}
use Rattle.survivor.proofs.drafts.first_comparable.Goals as goal

pub returns : goal.returns
returns c n inside below =
    let s = c.args.set in
    first_so n c.args.sets.now s inside below c.position.result c.map.result
    (IsFirst-from_position _ _ c.position.result (Compared s true) (Compared s false) c.position.ensures.ran (YieldsList-from_slice c.args.sets.now cc) (λ x q k. search rules) (λ x q k. search rules))
    (search rules)
