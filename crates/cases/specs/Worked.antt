-- Worked cases, as one list, and that the definitions yield them.
use Rattle.std.specs.Prelude.{◌≡◌, ℕ, Bool, true, false, List, [], ◌∷◌, map, Some, None, Option}
use Rattle.structure.specs.Meanings.{Meaning}
use Rattle.duty.specs.Codes.{Code}
use Rattle.rounds.specs.Rows.{Word, Row, heard}
use Rattle.rounds.specs.Rounds.{has_enough, polled, confirmed, led}
use Rattle.rounds.specs.Slots.{rounds, lead_of}
use Rattle.depot.specs.Plans.{fitting}
use Rattle.cores.specs.Leads.{table}
use Rattle.survivor.specs.Drafts.{adding}
use Rattle.survivor.specs.Seals.{sealing}
use Rattle.threshold.specs.Thresholds.{making, asking}

-- what sealing comes to: the leads, or the number of the refusal
pub data Sealing : Type 0 where
  leads : List ℕ → Sealing
  refused : ℕ → Sealing

-- a row of plan numbers and nothings
abbrev pub Words : Type 0
Words = List (Option ℕ)

pub data Case : Type 0 where
  -- a draft of n controllers with these sets is sealed
  seals : (n : ℕ) (sets : List ℕ) → Sealing → Case
  -- a set is added to such a draft: the number and the values of its refusal, or nothing
  adds : (n : ℕ) (sets : List ℕ) (set : ℕ) → List ℕ → Case
  -- a threshold structure of n and t is made: the number of its refusal, or nothing
  makes : (n t : ℕ) → List ℕ → Case
  -- the greatest fault number of n is asked for: the number of the refusal, or nothing
  asks : (n : ℕ) → List ℕ → Case
  -- a slot over the sealed table of n controllers with these sets has so many rounds
  lasts : (n : ℕ) (sets : List ℕ) → ℕ → Case
  -- poll, in the yard of four: what the row gives
  polls : Words → Option ℕ → Case
  -- confirm there, from x: z, and whether it is sure
  confirms : (x : ℕ) → Words → (z : ℕ) (sure : Bool) → Case
  -- lead there, unsure, from z: what the row gives where controller 0 leads
  leads_to : (z : ℕ) → Words → ℕ → Case

abbrev pub cases : List Case
cases =
    seals 4 (7 ∷ 11 ∷ 13 ∷ 14 ∷ []) (leads (0 ∷ 1 ∷ []))
    ∷ seals 1 (1 ∷ []) (leads (0 ∷ []))
    ∷ seals 6 (56 ∷ 55 ∷ 47 ∷ 31 ∷ []) (leads (0 ∷ 3 ∷ []))
    ∷ seals 3 (3 ∷ 5 ∷ 6 ∷ []) (refused 14)
    ∷ seals 2 (1 ∷ 2 ∷ []) (refused 14)
    ∷ seals 5 [] (refused 13)
    ∷ adds 4 [] 7 []
    ∷ adds 4 [] 0 (2 ∷ [])
    ∷ adds 4 [] 16 (2 ∷ [])
    ∷ adds 4 (6 ∷ 11 ∷ []) 2 (12 ∷ 1 ∷ [])
    ∷ adds 4 (6 ∷ 11 ∷ []) 11 (12 ∷ 2 ∷ [])
    ∷ makes 4 1 []
    ∷ makes 3 1 (5 ∷ [])
    ∷ makes 16 5 []
    ∷ makes 16 6 (5 ∷ [])
    ∷ makes 17 0 (1 ∷ [])
    ∷ asks 16 []
    ∷ asks 0 (1 ∷ [])
    ∷ lasts 4 (7 ∷ 11 ∷ 13 ∷ 14 ∷ []) 6
    ∷ lasts 1 (1 ∷ []) 3
    ∷ polls (Some 7 ∷ Some 7 ∷ Some 7 ∷ Some 9 ∷ []) (Some 7)
    ∷ polls (Some 7 ∷ Some 7 ∷ Some 9 ∷ Some 9 ∷ []) None
    ∷ confirms 4 (Some 7 ∷ Some 7 ∷ None ∷ None ∷ []) 7 false
    ∷ confirms 4 (Some 7 ∷ None ∷ None ∷ None ∷ []) 4 false
    ∷ confirms 4 (Some 7 ∷ Some 7 ∷ Some 7 ∷ None ∷ []) 7 true
    ∷ confirms 4 (Some 7 ∷ Some 7 ∷ Some 9 ∷ Some 9 ∷ []) 7 false
    ∷ leads_to 4 (None ∷ None ∷ None ∷ None ∷ []) 4
    ∷ leads_to 4 (Some 10 ∷ None ∷ None ∷ None ∷ []) 4
    ∷ leads_to 4 (Some 9 ∷ None ∷ None ∷ None ∷ []) 9
    ∷ []

-- the yard of four, of which any three are a set, and plans from 1 to 9
abbrev pub four : Meaning
four = table 4 (7 ∷ 11 ∷ 13 ∷ 14 ∷ [])

abbrev pub plan : ℕ → Code
plan p = p ∷ []

abbrev pub word : Option ℕ → Word
word None = None
word (Some p) = Some (plan p)

-- the row as a plan book with plans to 9 hears it
abbrev pub row : Words → Row
row ws = heard (fitting 9) (map word ws)

abbrev pub sealed_or : Option ℕ → List ℕ → Sealing
sealed_or None ks = leads ks
sealed_or (Some k) ks = refused k

-- the definitions yield what the case says
abbrev pub Yields : Case → Type 0
Yields (seals n sets gives) = sealed_or (sealing n sets) (table n sets).leads ≡ gives
Yields (adds n sets set gives) = adding n sets set ≡ gives
Yields (makes n t gives) = making n t ≡ gives
Yields (asks n gives) = asking n ≡ gives
Yields (lasts n sets gives) = rounds (table n sets) ≡ gives
Yields (polls ws gives) = polled four (row ws) ≡ word gives
Yields (confirms x ws z sure) = (confirmed four (plan x) (row ws) ≡ plan z) × (has_enough four (row ws) (plan z) ≡ sure)
Yields (leads_to z ws gives) = led four (plan z) false (lead_of four 0) (row ws) ≡ plan gives

abbrev pub YieldsAll : List Case → Type 0
YieldsAll [] = Unit
YieldsAll (c ∷ cs) = Yields c × YieldsAll cs
