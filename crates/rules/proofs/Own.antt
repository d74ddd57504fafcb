-- Our own rounds serve every wiring whose sets share controllers by threes.
use Rattle.std.proofs.Common.{◌≡◌, ℕ, zero, suc, ◌<◌, ◌≤◌, Bool, true, [], ◌∷◌, Some, None, sym, refl, ap, ◌∙◌, add-one, arith}
use Rattle.std.specs.List.{slice_get}
use Rattle.structure.specs.Groups.{◌∈◌}
use Rattle.structure.specs.Meanings.{Meaning, Laws}
use Rattle.duty.specs.Codes.{Code}
use Rattle.rounds.specs.Rows.{Word, Row, word_at, heard}
use Rattle.rounds.specs.Slots.{Stage, speaks, rounds, next, after}
use Rattle.rounds.specs.Slots.Stage.{closed}
use Rattle.rounds.specs.Agreement.{HeardTruly, Agree}
use Rattle.rounds.proofs.Slots.{slot_agrees}
use Rattle.cores.specs.Leads.{table}
use Rattle.cores.proofs.Tests.{contains_decides}
use Rattle.cores.proofs.Tables.{table_lawful}
use Rattle.rules.specs.Rules.{Follows, Decides}
use Rattle.rules.specs.Own.{held, own_rule, OwnServes}

-- where every value fits, a row is heard as it is
abbrev any_value : Code → Bool
any_value v = true

heard_all : (row : Row) → heard any_value row ≡ row
heard_all [] = refl
heard_all (None ∷ ws) = ap (λ r. None ∷ r) (heard_all ws)
heard_all (Some v ∷ ws) = ap (λ r. Some v ∷ r) (heard_all ws)

-- a word that stands at a place of the row
nth_word : (row : Row) (i : ℕ) (w : Word) → slice_get row i ≡ Some w → word_at row i ≡ w
nth_word [] i w e = cc
nth_word (x ∷ xs) zero w e = cc
nth_word (x ∷ xs) (suc i) w e = nth_word xs i w e

module _ (m : Meaning) (laws : Laws m) (S : ℕ) (enough : m.enough S ≡ true) (inputs : ℕ → Code) (state : ℕ → ℕ → Stage) (row : ℕ → ℕ → Row) (run : Follows (own_rule m) m.size S inputs state row) where
  abbrev rows : ℕ → ℕ → Row
  rows p t = row t p

  -- the members' states are those of a slot
  states : (p : ℕ) → p < m.size → p ∈ S → (t : ℕ) → t ≤ rounds m → state t p ≡ after m any_value (inputs p) (rows p) t
  states p h i zero l = run.begins p h i
  states p h i (suc t) l =
      ap (λ u. state u p) (sym (add-one t)) ∙ run.goes_on t p l h i
      ∙ ap (λ s. next m s (row t p)) (states p h i t (omega arith))
      ∙ ap (next m (after m any_value (inputs p) (rows p) t)) (sym (heard_all (row t p)))

  truly : HeardTruly m any_value S inputs rows
  truly = record {
    fit = λ p h i. refl;
    whole = λ p t h i l. run.whole t p l h i;
    truly = λ p q t hp hq ip iq l.
        nth_word (row t p) q (speaks (state t q)) (run.truly t p q l hp hq ip iq) ∙ ap speaks (states q hq iq t (omega arith));
  }

  agree : Agree m any_value S inputs rows
  agree = slot_agrees m laws any_value S inputs rows enough truly

  -- what a member decides is the value with which it closes
  decides : (p : ℕ) → p < m.size → p ∈ S → (v : Code) → after m any_value (inputs p) (rows p) (rounds m) ≡ closed v → held (state (rounds m) p) ≡ v
  decides p h i v e = ap held (states p h i (rounds m) (omega arith) ∙ e)

  pub own_decides : Decides (own_rule m) m.size S inputs state
  own_decides = record {
    agrees = λ p q hp hq ip iq.
        decides p hp ip agree.close.0 (agree.close.1 p hp ip) ∙ sym (decides q hq iq agree.close.0 (agree.close.1 q hq iq));
    valid = λ v same p h i. decides p h i v (agree.valid v same p h i);
  }

pub own_serves : OwnServes
own_serves n sets wiring threes S contains inputs state row run =
    own_decides (table n sets) (table_lawful n sets wiring threes) S ((contains_decides n sets S).1 contains) inputs state row run
