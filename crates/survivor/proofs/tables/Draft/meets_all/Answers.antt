use Rattle.std.proofs.Common.{◌≡◌, ◌<◌, rules}
use Rattle.std.proofs.lemmas.Iterator.{YieldsList-from_slice, cases_from_all}
use lib.Bits.{bit_and}
use Rattle.survivor.specs.Sealing.{meets_all_so}
use Rattle.survivor.proofs.tables.Draft.meets_all.Goals as goal

pub returns : goal.returns
returns c =
    let g = c.args.group in
    meets_all_so c.args.self.now c.sets.result.now g c.all.result c.sets.ensures
    (cases_from_all _ _ c.all.result (λ s. 0 < bit_and s g) (λ s. bit_and s g ≡ 0) c.all.ensures.ran (YieldsList-from_slice c.sets.result.now cc) (λ x q k. search rules) (λ x q k. search rules))
