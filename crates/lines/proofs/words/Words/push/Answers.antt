use Rattle.lines.proofs.WordRuns.{pushed}
use Rattle.lines.proofs.words.Words.push.Goals as goal

pub returns : goal.returns
returns g c = rw (← c.self.view_is) (pushed _ _ _ _ (λ ok. c.try_push.ensures.variant.0 ok) c.try_push.ensures.ok c.try_push.ensures.full c.try_push.ensures.err)
