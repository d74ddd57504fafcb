-- The history of a controller: the calls made on it since it was opened, with their answers, the latest first.
use Rattle.std.specs.Prelude.{ℕ, suc, cond, List, [], ◌∷◌, Some, None, Ok, Err, Option, Result, ◌==◌}
use Rattle.duty.specs.Codes.{Code}
use Rattle.duty.specs.declared.values.Same.{Ghosts as Same}
use Rattle.duty.specs.declared.outcomes.Outcome.{Outcome}
use Rattle.duty.specs.declared.refusals.DutyRefusal.{DutyRefusal}
use Rattle.engine.specs.declared.controllers.Heard.{Heard}
use Rattle.engine.specs.declared.controllers.Heard.TheVariants.{Round, Closed}
use Rattle.engine.specs.declared.refusals.RowRefusal.{RowRefusal}

-- a call and its answer
pub data Event (V : Type 0) : Type 0 where
  offered : V → Result (Unit {0}) DutyRefusal → Event V
  spoke : Option V → Event V
  heard : List (Option V) → Result (Heard V) RowRefusal → Event V

abbrev pub History : Type 0 → Type 0
History V = List (Event V)

module _ {V : Type 0} where
  -- how many rows were accepted: those whose hearing was not refused
  abbrev pub accepted : History V → ℕ
  accepted [] = 0
  accepted (offered v r ∷ es) = accepted es
  accepted (spoke w ∷ es) = accepted es
  accepted (heard ws (Ok a) ∷ es) = suc (accepted es)
  accepted (heard ws (Err e) ∷ es) = accepted es

  -- the words of accepted row t, from 0
  abbrev pub row : History V → ℕ → List (Option V)
  row [] t = []
  row (offered v r ∷ es) t = row es t
  row (spoke w ∷ es) t = row es t
  row (heard ws (Ok a) ∷ es) t = cond (t == accepted es) ws (row es t)
  row (heard ws (Err e) ∷ es) t = row es t

  -- the answer to it
  abbrev pub answer : History V → ℕ → Option (Heard V)
  answer [] t = None
  answer (offered v r ∷ es) t = answer es t
  answer (spoke w ∷ es) t = answer es t
  answer (heard ws (Ok a) ∷ es) t = cond (t == accepted es) (Some a) (answer es t)
  answer (heard ws (Err e) ∷ es) t = answer es t

  -- the pending proposal: the last one that was offered and not refused, or the first proposal v
  abbrev pub pending : V → History V → V
  pending v [] = v
  pending v (offered w (Ok u) ∷ es) = w
  pending v (offered w (Err e) ∷ es) = pending v es
  pending v (spoke w ∷ es) = pending v es
  pending v (heard ws r ∷ es) = pending v es

  -- the proposal that was pending when t rows had just been accepted; at 0 the first proposal, and also past the accepted rows, where nothing
  -- turns on it
  abbrev pub pending_at : V → History V → ℕ → V
  pending_at v [] t = v
  pending_at v (offered w r ∷ es) t = pending_at v es t
  pending_at v (spoke w ∷ es) t = pending_at v es t
  pending_at v (heard ws (Ok a) ∷ es) t = cond (t == suc (accepted es)) (pending v es) (pending_at v es t)
  pending_at v (heard ws (Err e) ∷ es) t = pending_at v es t

  -- the closed values, by their codes, with their outcomes, the latest first
  abbrev pub closings : Same V → History V → List (Code × Outcome)
  closings K [] = []
  closings K (offered v r ∷ es) = closings K es
  closings K (spoke w ∷ es) = closings K es
  closings K (heard ws (Ok (Round k)) ∷ es) = closings K es
  closings K (heard ws (Ok (Closed v o)) ∷ es) = (K.code v, o) ∷ closings K es
  closings K (heard ws (Err e) ∷ es) = closings K es
