use Rattle.std.proofs.Common.{rules, sym, ◌∙◌}
use Rattle.rounds.specs.Rounds.{has_enough}
use Rattle.engine.specs.Words.{codes}
use Rattle.engine.specs.Rows.{meaning_of, fits_in, heard_row}
use Rattle.engine.proofs.Fits.{unfit_enough}
use Rattle.engine.proofs.Firsts.{first_heard}
use Rattle.engine.proofs.rows.Row.first_enough.Goals as goal

pub returns : goal.returns
returns g c =
    let K = g.D.Value.Same in
    let row = c.args.self.now in
    let m = meaning_of row in
    let fits = fits_in g.D.Duty row.duty.now in
    let words = codes K row.words.now in
    let test = has_enough m (heard_row row) in
    c.first.ensures test (search rules)
    ∙ sym (first_heard fits test (unfit_enough m (g.met.S.Structure.lawful row.structure.now) fits words) words)
