-- What the three rounds of a phase make of a row, in which unfit values count as nothing already.
use Rattle.std.specs.Prelude.{ℕ, ◌-◌, Bool, cond, not, [], ◌∷◌, Some, None}
use Rattle.structure.specs.Groups.{everyone}
use Rattle.structure.specs.Meanings.{Meaning}
use Rattle.duty.specs.Codes.{Code}
use Rattle.rounds.specs.Rows.{Word, Row, word_at, group}

-- the value at the lowest place that passes a test, or nothing
abbrev pub first : (Code → Bool) → Row → Word
first test [] = None
first test (None ∷ ws) = first test ws
first test (Some v ∷ ws) = cond (test v) (Some v) (first test ws)

-- the value of a word, or another where the word is nothing
abbrev pub or_else : Word → Code → Code
or_else None v = v
or_else (Some w) v = w

module _ (m : Meaning) where
  -- the group of v is enough
  abbrev pub has_enough : Row → Code → Bool
  has_enough row v = m.enough (group v row)

  -- v is weighty: the controllers outside its group are not enough
  abbrev pub weighty : Row → Code → Bool
  weighty row v = not (m.enough (everyone m.size - group v row))

  -- poll: y is the value whose group is enough, or nothing
  abbrev pub polled : Row → Word
  polled row = first (has_enough row) row

  -- confirm: z is the weighty value at the lowest place, or x without one
  abbrev pub confirmed : Code → Row → Code
  confirmed x row = or_else (first (weighty row) row) x

  -- lead: a controller that is sure keeps z; another takes the word of the phase's lead, or z where that is nothing
  abbrev pub led : Code → Bool → ℕ → Row → Code
  led z sure k row = cond sure z (or_else (word_at row k) z)
