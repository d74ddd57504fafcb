-- What one slot promises to the members of an enough group that hear each other truly.
use Rattle.std.specs.Prelude.{◌≡◌, ℕ, ◌+◌, ◌*◌, ◌<◌, ◌≤◌, Bool, true, length, Some}
use Rattle.structure.specs.Groups.{◌∈◌}
use Rattle.structure.specs.Meanings.{Meaning}
use Rattle.duty.specs.Codes.{Code}
use Rattle.rounds.specs.Rows.{Word, Row, word_at}
use Rattle.rounds.specs.Slots.{Stage, speaks, lead_of, rounds, after}
use Rattle.rounds.specs.Slots.Stage.{poll, confirm, lead, closed}

-- every value that the stage holds is v, and in the lead round the controller is sure of it
abbrev pub Holds : Code → Stage → Type 0
Holds v (poll k x) = x ≡ v
Holds v (confirm k x y) = (x ≡ v) × (y ≡ Some v)
Holds v (lead k z sure) = (z ≡ v) × (sure ≡ true)
Holds v (closed x) = x ≡ v

module _ (m : Meaning) (fits : Code → Bool) (S : ℕ) (x : ℕ → Code) (rows : ℕ → ℕ → Row) where
  -- controller p, which began with x p, after t rows
  abbrev pub stage : ℕ → ℕ → Stage
  stage p t = after m fits (x p) (rows p) t

  -- The members of S begin with fitting values, and in every round each of them hears a row of n words that holds at the place of
  -- each member what that member speaks. All other words are free, and may differ between listeners.
  pub record HeardTruly : Type 0 where
    pub fit : (p : ℕ) → p < m.size → p ∈ S → fits (x p) ≡ true
    pub whole : (p t : ℕ) → p < m.size → p ∈ S → t < rounds m → length (rows p t) ≡ m.size
    pub truly : (p q t : ℕ) → p < m.size → q < m.size → p ∈ S → q ∈ S → t < rounds m → word_at (rows p t) q ≡ speaks (stage q t)

  pub record Agree : Type 0 where
    -- after a phase whose lead belongs to S all of S hold one value, and keep it to the close
    pub settle : (k : ℕ) → k < length m.leads → lead_of m k ∈ S → (v : Code) × ((p t : ℕ) → p < m.size → p ∈ S → 3 * (k + 1) ≤ t → t ≤ rounds m → Holds v (stage p t))
    -- all of S close the slot with one value
    pub close : (v : Code) × ((p : ℕ) → p < m.size → p ∈ S → stage p (rounds m) ≡ closed v)
    -- a value that all of S began with is held throughout, and is the value of the slot
    pub keep : (v : Code) → ((p : ℕ) → p < m.size → p ∈ S → x p ≡ v) → (p t : ℕ) → p < m.size → p ∈ S → t ≤ rounds m → Holds v (stage p t)
    pub valid : (v : Code) → ((p : ℕ) → p < m.size → p ∈ S → x p ≡ v) → (p : ℕ) → p < m.size → p ∈ S → stage p (rounds m) ≡ closed v

-- what a slot over a structure of this meaning promises, whatever fits
abbrev pub SlotAgrees : Meaning → Type 0
SlotAgrees m = (fits : Code → Bool) (S : ℕ) (x : ℕ → Code) (rows : ℕ → ℕ → Row) → m.enough S ≡ true → HeardTruly m fits S x rows → Agree m fits S x rows

-- Such runs exist: whatever fitting values the members begin with, and whatever word, `free p q t`, controller q outside S says to p in
-- round t, there are rows in which S hears truly and the others say just that.
abbrev pub RunsExist : Meaning → Type 0
RunsExist m =
    (fits : Code → Bool) (S : ℕ) (x : ℕ → Code) (free : ℕ → ℕ → ℕ → Word) →
    ((p : ℕ) → p < m.size → p ∈ S → fits (x p) ≡ true) →
    (rows : ℕ → ℕ → Row) × HeardTruly m fits S x rows × ((p q t : ℕ) → q < m.size → (q ∈ S → ⊥) → word_at (rows p t) q ≡ free p q t)
