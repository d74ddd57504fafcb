use Rattle.std.proofs.Common.{sym, ap, ◌∙◌}
use Rattle.engine.specs.Rows.{meaning_of, fits_in}
use Rattle.engine.specs.Words.{codes}
use Rattle.engine.proofs.Fits.{fit_group, unfit_enough}
use Rattle.engine.proofs.rows.Row.has_enough.Goals as goal

pub returns-then-fits : goal.returns-then-fits
returns-then-fits g c =
    let row = c.args.self.now in
    let fits = fits_in g.D.Duty row.duty.now in
    let v = g.D.Value.Same.code c.args.value.now in
    c.enough.ensures
    ∙ ap (meaning_of row).enough (c.tally.ensures ∙ fit_group g.D.Value.Same fits row.words.now v row.short (sym c.fits.ensures ∙ c.if-fits.true))

pub returns-else-fits : goal.returns-else-fits
returns-else-fits g c =
    let row = c.args.self.now in
    let fits = fits_in g.D.Duty row.duty.now in
    let v = g.D.Value.Same.code c.args.value.now in
    c.if-fits.false
    ∙ sym (unfit_enough (meaning_of row) (g.met.S.Structure.lawful row.structure.now) fits (codes g.D.Value.Same row.words.now) v (sym c.fits.ensures ∙ c.if-fits.false))
