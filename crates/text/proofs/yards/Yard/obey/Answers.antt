use Rattle.std.proofs.Common.{◌∷◌, ap, ◌∙◌}
use Rattle.fields.specs.Numerals.{facts}
use Rattle.lines.specs.Verbs.{verb_text}
use Rattle.lines.specs.declared.verbs.Verb.TheVariants.{Set, Seal, Plans, Board}
use Rattle.text.proofs.AnyLine.{comes}
use Rattle.text.proofs.yards.Yard.obey.Goals as goal

pub returns-in-Set : goal.returns-in-Set
returns-in-Set c = comes _ _ _ _ Set _ (omega facts) (c.in_ok-verb.ensures ∙ ap (λ v. verb_text v ∷ c.in_ok-verb.rest) c.in-Set.is) c.add.ensures

pub returns-in-Seal : goal.returns-in-Seal
returns-in-Seal c = comes _ _ _ _ Seal _ (omega facts) (c.in_ok-verb.ensures ∙ ap (λ v. verb_text v ∷ c.in_ok-verb.rest) c.in-Seal.is) c.seal.ensures

pub returns-in-Plans : goal.returns-in-Plans
returns-in-Plans c = comes _ _ _ _ Plans _ (omega facts) (c.in_ok-verb.ensures ∙ ap (λ v. verb_text v ∷ c.in_ok-verb.rest) c.in-Plans.is) c.open_plans.ensures

pub returns-in-Board : goal.returns-in-Board
returns-in-Board c = comes _ _ _ _ Board _ (omega facts) (c.in_ok-verb.ensures ∙ ap (λ v. verb_text v ∷ c.in_ok-verb.rest) c.in-Board.is) c.open_board.ensures
