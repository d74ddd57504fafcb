use Rattle.std.proofs.Common.{sym, ap, ◌∙◌, arith, rules}
use Rattle.rounds.specs.Rows.{heard_word}
use Rattle.rounds.proofs.Words.{heard_at}
use Rattle.engine.specs.Rows.{fits_in}
use Rattle.engine.specs.Words.{word_code, codes}
use Rattle.engine.proofs.Words.{word_past, length_codes, code_at, when_heard}
use Rattle.engine.proofs.rows.Row.word_of.Goals as goal

pub returns-in_err-get : goal.returns-in_err-get
returns-in_err-get g c =
    let row = c.args.self.now in
    let fits = fits_in g.D.Duty row.duty.now in
    let words = codes g.D.Value.Same row.words.now in
    let past = word_past words c.args.controller (omega (arith, length_codes g.D.Value.Same row.words.now, c.in_err-get.ensures.lookup.3)) in
    ap (word_code g.D.Value.Same) c.from_residual.ensures ∙ sym (heard_at fits words c.args.controller ∙ ap (heard_word fits) past)

pub returns : goal.returns
returns g c =
    let K = g.D.Value.Same in
    let row = c.args.self.now in
    let fits = fits_in g.D.Duty row.duty.now in
    let e = c.in_ok-get.ensures.lookup in
    when_heard K fits c.in_ok-get.field-0.now c.filter.result c.filter.ensures (λ x h. search rules)
    ∙ ap (heard_word fits) (sym (code_at K row.words.now c.args.controller c.in_ok-get.field-0.now e.3.0 e.1))
    ∙ sym (heard_at fits (codes K row.words.now) c.args.controller)
