use Rattle.std.proofs.Common.{true, false, rules}
use Rattle.std.proofs.lemmas.Iterator.{YieldsList-from_slice, cases_from_any}
use Rattle.survivor.specs.Sealing.{Contained, enough_so}
use Rattle.survivor.proofs.seals.TableStructure.enough.Goals as goal

pub returns : goal.returns
returns c =
    let g = c.args.group in
    enough_so c.args.self.now.draft c.sets.result.now g c.any.result c.sets.ensures
    (cases_from_any _ _ c.any.result (Contained g true) (Contained g false) c.any.ensures.ran (YieldsList-from_slice c.sets.result.now cc) (λ x q k. search rules) (λ x q k. search rules))
