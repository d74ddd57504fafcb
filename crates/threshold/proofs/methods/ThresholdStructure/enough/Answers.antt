use Rattle.std.proofs.Common.{◌-◌, leb, ap, ◌∙◌}
use lib.Bits.{bit_and}
use lib.Count.{ones}
use Rattle.structure.proofs.Members.{ones_cut}
use Rattle.threshold.proofs.methods.ThresholdStructure.enough.Goals as goal

pub returns : goal.returns
returns c =
    let s = c.args.self.now in
    let g = c.args.group in
    ap (λ k. leb k (ones (bit_and g c.everyone.result))) c.from.ensures
    ∙ ap (λ k. leb (s.size - s.faults) k) (ap (λ v. ones (bit_and g v)) (c.everyone.ensures.yard s.high) ∙ ones_cut s.size g)
