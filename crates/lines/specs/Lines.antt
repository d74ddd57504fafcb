-- The forms of the seven lines: what the fields after the first may be, and what they say.
use Rattle.std.specs.Prelude.{◌≡◌, ℕ, suc, ◌^◌, ◌<◌, ◌≤◌, cond, ◌⊎◌, ◌↔◌, List, [], ◌∷◌, take, Some, None, codes, Option, bit_or, nat_lt}
use Rattle.structure.specs.Groups.{◌∈◌}
use Rattle.depot.specs.declared.values.Grant.{Grant}
use Rattle.depot.specs.declared.values.Plan.{Plan}
use Rattle.fields.specs.Numbers.{Number}
use Rattle.fields.specs.Values.{PlanText, GrantText}

-- `controllers`: how many there are
abbrev pub ControllersForm : List (List ℕ) → ℕ → Type 0
ControllersForm fs n = (f : List ℕ) × (fs ≡ f ∷ []) × Number f n

-- `seal`: nothing more
abbrev pub SealForm : List (List ℕ) → Unit {0} → Type 0
SealForm fs u = fs ≡ []

-- `plans`: the highest plan and the first proposal
abbrev pub PlansForm : List (List ℕ) → ℕ × Plan → Type 0
PlansForm fs said = (f : List ℕ) × (g : List ℕ) × (fs ≡ f ∷ g ∷ []) × Number f said.0 × PlanText g said.1

-- `board`: how many bays, the feed, and the first proposal
abbrev pub BoardForm : List (List ℕ) → ℕ × ℕ × Grant → Type 0
BoardForm fs said = (f : List ℕ) × (g : List ℕ) × (h : List ℕ) × (fs ≡ f ∷ g ∷ h ∷ []) × Number f said.0 × Number g said.1 × GrantText h said.2

-- `offer`: a value
abbrev pub OfferForm : {V : Type 0} → (List ℕ → V → Type 0) → List (List ℕ) → V → Type 0
OfferForm Says fs v = (f : List ℕ) × (fs ≡ f ∷ []) × Says f v

-- ---- `set`: rising controllers
abbrev pub NumberFrom : ℕ → List ℕ → ℕ → Type 0
NumberFrom low field n = Number field n × (low ≤ n)

-- the fields say these numbers, the first of which is at least `low`, and each is above the one before
abbrev pub Rises : ℕ → List (List ℕ) → List ℕ → Type 0
Rises low [] [] = Unit {0}
Rises low [] (n ∷ ns) = ⊥
Rises low (f ∷ fs) [] = ⊥
Rises low (f ∷ fs) (n ∷ ns) = NumberFrom low f n × Rises (suc n) fs ns

-- i is one of the numbers
abbrev pub Listed : ℕ → List ℕ → Type 0
Listed i [] = ⊥
Listed i (n ∷ ns) = (i ≡ n) ⊎ Listed i ns

-- the group of the controllers with these numbers; there is none with a number from 16 on
abbrev pub Grouped : List ℕ → Option ℕ → Type 0
Grouped ns (Some g) = (g < 2 ^ 16) × ((i : ℕ) → (i ∈ g) ↔ Listed i ns)
Grouped ns None = (i : ℕ) × (16 ≤ i) × Listed i ns

abbrev pub SetForm : List (List ℕ) → Option ℕ → Type 0
SetForm fs g = (ns : List ℕ) × Rises 0 fs ns × Grouped ns g

-- how such a group is worked out: one more controller, if it is below 16
abbrev pub with_controller : Option ℕ → ℕ → Option ℕ
with_controller None n = None
with_controller (Some g) n = cond (nat_lt n 16) (Some (bit_or g (2 ^ n))) None

-- ---- `hear`: words
-- a word says a value, or nothing, which is written `-`
abbrev pub SaysWord : {V : Type 0} → (List ℕ → V → Type 0) → List ℕ → Option V → Type 0
SaysWord Says field None = field ≡ codes "-"
SaysWord Says field (Some v) = Says field v

-- fields and the words that they say, one by one
abbrev pub SayWords : {V : Type 0} → (List ℕ → V → Type 0) → List (List ℕ) → List (Option V) → Type 0
SayWords Says [] [] = Unit {0}
SayWords Says [] (w ∷ ws) = ⊥
SayWords Says (f ∷ fs) [] = ⊥
SayWords Says (f ∷ fs) (w ∷ ws) = SaysWord Says f w × SayWords Says fs ws

-- of the words said the first 17 are kept, which is more than any row may have
abbrev pub HearForm : {V : Type 0} → (List ℕ → V → Type 0) → List (List ℕ) → List (Option V) → Type 0
HearForm Says fs kept = (ws : List (Option _)) × SayWords Says fs ws × (kept ≡ take 17 ws)
