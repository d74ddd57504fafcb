use Rattle.std.proofs.Common.{rules, ◌∙◌}
use Rattle.std.proofs.lemmas.Iterator.{YieldsList-from_slice}
use Rattle.std.proofs.lemmas.Iterator.Adapters.{YieldsList-from_flatten}
use Rattle.std.proofs.lemmas.Iterator.Search.{find_from_yields_List}
use Rattle.engine.proofs.Firsts.{said, option_gives, copied_code, find_said}
use Rattle.engine.proofs.rows.Row.first.Goals as goal

pub returns : goal.returns
returns g c test says =
    let K = g.D.Value.Same in
    let words = c.args.self.now.words.now in
    copied_code K _ _ c.copied.ensures
    ∙ find_from_yields_List test _ _ c.find.result c.find.ensures.ran
    (YieldsList-from_flatten _ _ (λ b. K.code b.now) (said K) (λ x j b. option_gives K x.now j b.0 b.1) (YieldsList-from_slice words (cc)) c.flatten.ensures.front c.flatten.ensures.back c.flatten.ensures.done)
    (λ x b q k. search (rules, says))
    ∙ find_said K test words
