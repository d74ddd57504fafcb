-- A line and the fields that tabs part it into. A tab is byte 9.
use Rattle.std.specs.Prelude.{◌≡◌, ℕ, ◌<◌, Bool, true, false, List, [], ◌∷◌, ◌++◌, length, Some, None, Option, ◌==◌, ◌≢◌, slice_index}
use Rattle.std.specs.Borrow.{Bor}
use Rattle.std.specs.Option as options
use Rattle.std.specs.List.{AllByRecursion}

-- ---- the fields, worked out
-- a byte in front of a line: a tab begins a field, and any other byte is the first of the first field
abbrev pub in_front : Bool → ℕ → List (List ℕ) → List (List ℕ)
in_front true b fs = [] ∷ fs
in_front false b [] = (b ∷ []) ∷ []
in_front false b (f ∷ fs) = (b ∷ f) ∷ fs

unfoldable pub fields : List ℕ → List (List ℕ)
fields [] = [] ∷ []
fields (b ∷ bs) = in_front (b == 9) b (fields bs)

-- the fields of what is left of a line, if anything is
abbrev pub left : Option (Bor (List ℕ)) → List (List ℕ)
left None = []
left (Some r) = fields r.now

-- the first of some fields is given, and the others are left; without one nothing is given
abbrev pub GivesFirst : List (List ℕ) → Option (Bor (List ℕ)) → List (List ℕ) → Type 0
GivesFirst fs None rest = (fs ≡ []) × (rest ≡ [])
GivesFirst fs (Some f) rest = fs ≡ f.now ∷ rest

-- ---- in words
-- no byte is the mark
abbrev pub Lacks : ℕ → List ℕ → Type 0
Lacks mark bytes = (k : ℕ) → k < length bytes → slice_index bytes k ≢ mark

-- a line of a first field and the fields after it, parted by tabs
abbrev pub line_of : List ℕ → List (List ℕ) → List ℕ
line_of first [] = first
line_of first (f ∷ fs) = first ++ (9 ∷ line_of f fs)

-- the line is these fields, none of which has a tab, parted by tabs
pub record Parted (line : List ℕ) (fs : List (List ℕ)) : Type 0 where
  pub first : List ℕ
  pub after : List (List ℕ)
  pub whole : fs ≡ first ∷ after
  pub joined : line ≡ line_of first after
  pub bare : Lacks 9 first × AllByRecursion (Lacks 9) after

-- every line is parted into its fields, and in no other way
abbrev pub FieldsPart : Type 0
FieldsPart = ((line : List ℕ) → Parted line (fields line)) × ((line : List ℕ) (fs : List (List ℕ)) → Parted line fs → fs ≡ fields line)

-- ---- a cut
-- the bytes are a front with no mark in it, and then a mark and the rest, or nothing
abbrev pub Cut : ℕ → List ℕ → List ℕ → Option (Bor (List ℕ)) → Type 0
Cut mark bytes front rest = Lacks mark front × options.MatchOption rest (bytes ≡ front) (λ r. bytes ≡ front ++ (mark ∷ r.now))
