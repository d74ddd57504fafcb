-- Round rules of any kind, and what it is for one to serve a draft.
--
-- `n` is the number of controllers of the yard, and `sets` the list of its survivor sets.
use Rattle.std.specs.Prelude.{◌≡◌, ℕ, ◌+◌, ◌<◌, List, length, Some, slice_index}
use Rattle.std.specs.List.{slice_get}
use Rattle.structure.specs.Groups.{◌∈◌, Within}
use Rattle.cores.specs.Sharing.{NoneEmpty, Inside, ThreesShare}

-- A deterministic round rule: states and words of any type, inputs of any type with at least two values; a number of rounds; a first state from controller
-- number and input; a word from state and listener; a next state from state and row; and a decision from the state.
pub record Rule : Type 1 where
  pub State : Type 0
  pub Word : Type 0
  pub Input : Type 0
  pub one : Input
  pub other : Input
  pub differ : one ≡ other → ⊥
  pub rounds : ℕ
  pub first : ℕ → Input → State
  pub word : State → ℕ → Word
  pub next : State → List Word → State
  pub decision : State → Input

module _ (r : Rule) (n S : ℕ) (inputs : ℕ → r.Input) (state : ℕ → ℕ → r.State) where
  -- A run in which the members of S follow the rule: `state t p` is that of controller p after t rounds, and `row t p` what it hears in round
  -- t, from 0. The words of all other controllers are free.
  pub record Follows (row : ℕ → ℕ → List r.Word) : Type 0 where
    pub begins : (p : ℕ) → p < n → p ∈ S → state 0 p ≡ r.first p (inputs p)
    pub goes_on : (t p : ℕ) → t < r.rounds → p < n → p ∈ S → state (t + 1) p ≡ r.next (state t p) (row t p)
    pub whole : (t p : ℕ) → t < r.rounds → p < n → p ∈ S → length (row t p) ≡ n
    pub truly : (t p q : ℕ) → t < r.rounds → p < n → q < n → p ∈ S → q ∈ S → slice_get (row t p) q ≡ Some (r.word (state t q) p)

  -- all of S decide one value, and their input if they share one
  pub record Decides : Type 0 where
    pub agrees : (p q : ℕ) → p < n → q < n → p ∈ S → q ∈ S → r.decision (state r.rounds p) ≡ r.decision (state r.rounds q)
    pub valid : (v : r.Input) → ((p : ℕ) → p < n → p ∈ S → inputs p ≡ v) → (p : ℕ) → p < n → p ∈ S → r.decision (state r.rounds p) ≡ v

-- the group contains one of the sets
abbrev pub Contains : ℕ → List ℕ → ℕ → Type 0
Contains n sets S = (j : ℕ) × (j < length sets) × Within n (slice_index sets j) S

-- The rule serves the draft: in every run in which the members of a group that contains one of its sets follow the rule, they so decide,
-- whatever their inputs and whatever the others say.
abbrev pub Serves : Rule → ℕ → List ℕ → Type 0
Serves r n sets =
    (S : ℕ) → Contains n sets S →
    (inputs : ℕ → r.Input) (state : ℕ → ℕ → r.State) (row : ℕ → ℕ → List r.Word) → Follows r n S inputs state row → Decides r n S inputs state

-- what a rule serves shares controllers by threes
abbrev pub NeedsThrees : Rule → Type 0
NeedsThrees r = (n : ℕ) (sets : List ℕ) → NoneEmpty sets → Inside n sets → Serves r n sets → ThreesShare n sets
