use Rattle.fields.specs.Numerals.{facts, first, zero, from_nothing, one_number}
use Rattle.fields.proofs.numbers.number.Goals as goal

pub returns-in-48 : goal.returns-in-48
returns-in-48 c = record { reads = zero c.args.field.now (omega facts) (omega facts); one = one_number }

pub returns-in-49-to-57 : goal.returns-in-49-to-57
returns-in-49-to-57 c = record { reads = from_nothing c.args.field.now _ (omega facts) (omega facts) c.read_on.ensures; one = one_number }

pub returns-in_default : goal.returns-in_default
returns-in_default c = record { reads = λ n h. let f = first c.args.field.now n h in omega facts; one = one_number }

pub returns-in_default-2 : goal.returns-in_default-2
returns-in_default-2 c = record { reads = λ n h. let f = first c.args.field.now n h in omega facts; one = one_number }

pub returns-in_default-3 : goal.returns-in_default-3
returns-in_default-3 c = record { reads = λ n h. let f = first c.args.field.now n h in omega facts; one = one_number }

pub returns-in_default-4 : goal.returns-in_default-4
returns-in_default-4 c = record { reads = λ n h. let f = first c.args.field.now n h in omega facts; one = one_number }
