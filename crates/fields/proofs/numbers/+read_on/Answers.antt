use Rattle.fields.specs.Numerals.{facts, stops}
use Rattle.fields.proofs.numbers.+read_on.Goals as goal

pub returns-in_default-2 : goal.returns-in_default-2
returns-in_default-2 t c = stops _ c.args.bytes.now (omega facts) (λ i. omega facts)
