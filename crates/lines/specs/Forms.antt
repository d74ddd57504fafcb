-- Forms: which lists of fields are in form, what they say, and where others depart from the form.
use Rattle.std.specs.Prelude.{◌≡◌, ℕ, suc, ◌+◌, ◌<◌, ◌≤◌, min, List, [], ◌∷◌, ◌++◌, length, take, Some, None, Ok, Err, Option, Result, ◌≢◌}
use Rattle.std.specs.Borrow.{Bor}
use Rattle.std.specs.Result as results
use Rattle.fields.specs.declared.faults.FieldFault.{FieldFault}
use Rattle.lines.specs.declared.numbered.Numbered.{Numbered}

-- The first faulty, missing or surplus field is the j-th, from 0: the fields before it begin a list that is in form; with it they begin none, or where
-- it is missing the list is not whole.
pub record Departs (InForm : List (List ℕ) → Type 0) (fs : List (List ℕ)) (j : ℕ) : Type 0 where
  pub before : (more : List (List ℕ)) × InForm (take j fs ++ more)
  pub within : j ≤ length fs
  pub faulty : (more : List (List ℕ)) → j < length fs → InForm (take (suc j) fs ++ more) → ⊥
  pub missing : length fs ≤ j → InForm fs → ⊥

-- the number of the j-th field after the first, from 0, as far as 32 bits go; in a line of at most 256 bytes it is j + 2
abbrev pub field_number : ℕ → ℕ
field_number j = min (j + 2) 4294967295

-- What a reader of the fields after the first answers. `Form fs a` says that the fields are in form and say a.
abbrev pub Read : {A : Type 0} → (List (List ℕ) → A → Type 0) → List (List ℕ) → Result A FieldFault → Type 0
Read Form fs (Ok a) = Form fs a
Read Form fs (Err e) = (j : ℕ) × (e.field ≡ field_number j) × Departs (λ gs. (a : _) × Form gs a) fs j

-- ---- steps of a reader
-- the first field is given with its number, and the next one has the number after it; without a field nothing is given
abbrev pub GivesNumbered : Numbered → Option (ℕ × Bor (List ℕ)) → Numbered → Type 0
GivesNumbered s None t = (s.fields ≡ []) × (t.fields ≡ [])
GivesNumbered s (Some p) t = (p.0 ≡ s.at) × (s.fields ≡ p.1.now ∷ t.fields) × (t.at ≡ min (s.at + 1) 4294967295)

-- no field is left, or the fault is at the next one
abbrev pub Ends : {U : Type 0} → List (List ℕ) → ℕ → Result U FieldFault → Type 0
Ends fs at r = results.MatchResult r (λ _. fs ≡ []) (λ e. (e.field ≡ at) × (fs ≢ []))

-- the next field says a value, or the fault is there
abbrev pub NextSays : {V : Type 0} → (List ℕ → V → Type 0) → Numbered → Result V FieldFault → Numbered → Type 0
NextSays Says s r t =
    results.MatchResult r
    (λ v. (field : List ℕ) × Says field v × (s.fields ≡ field ∷ t.fields) × (t.at ≡ min (s.at + 1) 4294967295))
    (λ e. (e.field ≡ s.at) × ((field : List ℕ) (more : List (List ℕ)) → s.fields ≡ field ∷ more → (v : _) → Says field v → ⊥))
