-- A slot: one phase for each lead, in list order, and three rounds a phase.
use Rattle.std.specs.Prelude.{ℕ, zero, suc, ◌+◌, ◌*◌, Bool, cond, length, Some, None, nat_lt, slice_index}
use Rattle.structure.specs.Meanings.{Meaning}
use Rattle.duty.specs.Codes.{Code}
use Rattle.rounds.specs.Rows.{Word, Row, heard}
use Rattle.rounds.specs.Rounds.{has_enough, polled, confirmed, led}

-- the round that is due, with the number of its phase, from 0, and the values held
pub data Stage : Type 0 where
  poll : ℕ → Code → Stage
  confirm : ℕ → Code → Word → Stage
  lead : ℕ → Code → Bool → Stage
  closed : Code → Stage

-- the word that is spoken: x, y and z
abbrev pub speaks : Stage → Word
speaks (poll k x) = Some x
speaks (confirm k x y) = y
speaks (lead k z sure) = Some z
speaks (closed x) = None

module _ (m : Meaning) where
  -- the lead of a phase; past the last phase 0, which nobody asks for
  abbrev pub lead_of : ℕ → ℕ
  lead_of k = slice_index m.leads k

  -- how many rounds a slot has
  abbrev pub rounds : ℕ
  rounds = 3 * length m.leads

  -- phase k ends with x: the next one begins with it, or the slot closes with it
  abbrev pub ended : ℕ → Code → Stage
  ended k x = cond (nat_lt (k + 1) (length m.leads)) (poll (k + 1) x) (closed x)

  -- the stage that a row gives
  abbrev pub next : Stage → Row → Stage
  next (poll k x) row = confirm k x (polled m row)
  next (confirm k x y) row = lead k (confirmed m x row) (has_enough m row (confirmed m x row))
  next (lead k z sure) row = ended k (led m z sure (lead_of k) row)
  next (closed x) row = closed x

  -- the stage after t rows of a slot that began with x; rows are numbered from 0, and an unfit value counts as nothing
  abbrev pub after : (Code → Bool) → Code → (ℕ → Row) → ℕ → Stage
  after fits x rows zero = poll 0 x
  after fits x rows (suc t) = next (after fits x rows t) (heard fits (rows t))
