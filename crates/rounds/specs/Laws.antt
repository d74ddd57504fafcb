-- What the three rounds give, in words. `row` is a row of n words in which unfit values count as nothing already.
use Rattle.std.specs.Prelude.{◌≡◌, ℕ, ◌<◌, Bool, true, false, ◌⊎◌, ◌↔◌, Some, None}
use Rattle.structure.specs.Groups.{Meets}
use Rattle.structure.specs.Meanings.{Meaning}
use Rattle.duty.specs.Codes.{Code}
use Rattle.rounds.specs.Rows.{Word, Row, word_at, group}

module _ (m : Meaning) (row : Row) where
  -- the group of v is enough
  abbrev pub Enough : Code → Type 0
  Enough v = m.enough (group v row) ≡ true

  -- v is weighty: every enough group has a controller that says v
  abbrev pub Weighty : Code → Type 0
  Weighty v = (g : ℕ) → m.enough g ≡ true → Meets m.size g (group v row)

  -- v is weighty and stands at place i, and no weighty value stands at a lower place
  pub record LowestWeighty (i : ℕ) (v : Code) : Type 0 where
    pub stands : word_at row i ≡ Some v
    pub is_weighty : Weighty v
    pub lowest : (j : ℕ) (w : Code) → j < i → word_at row j ≡ Some w → Weighty w → ⊥

  -- poll
  pub record Polls (y : Word) : Type 0 where
    -- y is nothing exactly when no value's group is enough
    pub nothing : (y ≡ None) ↔ ((v : Code) → Enough v → ⊥)
    -- and is otherwise the only such value
    pub value : (v : Code) → (y ≡ Some v) ↔ Enough v

  -- confirm, from x
  pub record Confirms (x z : Code) (sure : Bool) : Type 0 where
    -- z is the weighty value that stands at the lowest place, or x without one
    pub value : ((i : ℕ) × LowestWeighty i z) ⊎ (((v : Code) → Weighty v → ⊥) × (z ≡ x))
    -- the controller is sure exactly when the group of z is enough
    pub sure_when : (sure ≡ true) ↔ Enough z
    -- a value whose group is enough is weighty
    pub enough_weighty : (v : Code) → Enough v → Weighty v

  -- lead, from z, where controller k leads
  pub record Leads (z : Code) (sure : Bool) (k : ℕ) (x : Code) : Type 0 where
    -- a controller that is sure keeps z
    pub sure_keeps : sure ≡ true → x ≡ z
    -- one that is not takes the lead's value, or keeps z where the lead's word is nothing
    pub unsure_takes : sure ≡ false → (v : Code) → word_at row k ≡ Some v → x ≡ v
    pub unsure_keeps : sure ≡ false → word_at row k ≡ None → x ≡ z
