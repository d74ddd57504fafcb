use Rattle.std.proofs.Common.{◌≡◌, length, ap, ◌∙◌}
use Rattle.rounds.specs.Rounds.{or_else, has_enough, confirmed}
use Rattle.rounds.proofs.Laws as laws
use Rattle.rounds.proofs.Words.{length_heard}
use Rattle.engine.specs.Words.{codes}
use Rattle.engine.specs.Rows.{fits_in, meaning_of, heard_row}
use Rattle.engine.proofs.Words.{length_codes, code_or}
use Rattle.engine.proofs.stages.Confirm.hear.Goals as goal

pub returns-clause-confirms : goal.returns-clause-confirms
returns-clause-confirms g c whole =
    let K = g.V.Same in
    let row = c.args.row.now in
    let m = meaning_of row in
    let heard = heard_row row in
    let x = K.code c.args.self.x in
    let words = row.words.now in
    let size : length heard ≡ length words = length_heard (fits_in g.D.Duty row.duty.now) (codes K words) ∙ length_codes K words in
    let z : K.code c.unwrap_or-z.result ≡ confirmed m x heard = ap K.code c.unwrap_or-z.ensures ∙ code_or K c.first_weighty.result c.args.self.x ∙ ap (λ y. or_else y x) c.first_weighty.ensures in
    let sure : c.has_enough.result ≡ has_enough m heard (confirmed m x heard) = c.has_enough.ensures ∙ ap (has_enough m heard) z in
    rw (z, sure) (laws.confirms m (g.met.S.Structure.lawful row.structure.now) heard (size ∙ whole) x)
