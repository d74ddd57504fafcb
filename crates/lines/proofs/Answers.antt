-- What a reader's answer says, once a fault stands for nothing.
use Rattle.std.proofs.Common.{◌≡◌, ℕ, List, Ok, Err, Some, None, Option, Result, subst, arith}
use Rattle.std.specs.Option.{ok_or}
use Rattle.fields.specs.Reading.{Reads}

module _ {V E : Type 0} (Says : List ℕ → V → Type 0) (field : List ℕ) where
  -- the value
  pub value_said : (o : Option V) (e : E) (r : Result V E) (v : V) → Reads Says field o → r ≡ ok_or o e → r ≡ Ok v → Says field v
  value_said None e r v h is ok = absurd (let z : ◌≡◌ {A = ℕ} 0 1 = cc in omega arith)
  value_said (Some w) e r v h is ok = let same : w ≡ v = cc in subst (Says field) same h

  -- no value, and the fault is the one named
  pub none_said : (o : Option V) (e x : E) (r : Result V E) → Reads Says field o → r ≡ ok_or o e → r ≡ Err x → (x ≡ e) × ((v : V) → Says field v → ⊥)
  none_said None e x r h is err = (cc, h)
  none_said (Some w) e x r h is err = absurd (let z : ◌≡◌ {A = ℕ} 0 1 = cc in omega arith)
