use Rattle.std.proofs.Common.{◌≡◌, ◌-◌, ◌≤◌, not, sym, ap, ◌∙◌, arith}
use Rattle.structure.specs.Groups.{everyone}
use Rattle.engine.specs.Rows.{meaning_of, fits_in}
use Rattle.engine.specs.Words.{codes}
use Rattle.engine.proofs.Fits.{fit_group, unfit_weighty}
use Rattle.engine.proofs.rows.Row.is_weighty.Goals as goal

pub returns-then-fits : goal.returns-then-fits
returns-then-fits g c =
    let row = c.args.self.now in
    let m = meaning_of row in
    let fits = fits_in g.D.Duty row.duty.now in
    let v = g.D.Value.Same.code c.args.value.now in
    let said = c.tally.ensures ∙ fit_group g.D.Value.Same fits row.words.now v row.short (sym c.fits.ensures ∙ c.if-fits.true) in
    let high = (g.met.S.Structure.lawful row.structure.now).size_high in
    let few : c.size.result ≤ 16 = omega (arith, c.size.ensures) in
    let all : c.everyone-all.result ≡ everyone m.size = c.everyone-all.ensures.yard few ∙ ap everyone c.size.ensures in
    let outside = c.saturating_sub.ensures ∙ ap (λ a. a - c.tally.result) all ∙ ap (λ s. everyone m.size - s) said in
    ap not (c.enough.ensures ∙ ap m.enough outside)

pub returns-else-fits : goal.returns-else-fits
returns-else-fits g c =
    let row = c.args.self.now in
    let fits = fits_in g.D.Duty row.duty.now in
    let v = g.D.Value.Same.code c.args.value.now in
    c.if-fits.false ∙ sym (unfit_weighty (meaning_of row) (g.met.S.Structure.lawful row.structure.now) fits (codes g.D.Value.Same row.words.now) v (sym c.fits.ensures ∙ c.if-fits.false))
