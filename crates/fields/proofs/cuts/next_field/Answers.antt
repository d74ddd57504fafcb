use Rattle.fields.specs.Parting.{fields_cut, parts}
use Rattle.fields.proofs.cuts.next_field.Goals as goal

pub returns : goal.returns
returns c = record { first = fields_cut _ _ _ c.cut.ensures; cut = c.cut.ensures; part = parts }
