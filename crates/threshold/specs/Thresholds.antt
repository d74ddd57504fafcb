-- The threshold structure: a yard of n controllers of which up to t, fewer than a third, may be faulty.
use Rattle.std.specs.Prelude.{◌≡◌, ℕ, zero, suc, ◌+◌, ◌-◌, ◌*◌, ◌/◌, ◌<◌, ◌≤◌, if◌then◌else◌, List, [], ◌∷◌, ◌++◌, Ok, Err, Result, nat_le}
use Rattle.structure.specs.Groups.{count, yard_size, NoYardSize}
use Rattle.structure.specs.Meanings.{Meaning}
use Rattle.threshold.specs.declared.thresholds.Threshold.{Threshold}
use Rattle.threshold.specs.declared.refusals.ThresholdRefusal.{ThresholdRefusal}
use Rattle.threshold.specs.declared.refusals.ThresholdRefusal.TheVariants.{YardSize, TooManyFaults}

abbrev pub size_of : Threshold → ℕ
size_of s = s.size

abbrev pub faults_of : Threshold → ℕ
faults_of s = s.faults

-- the controllers 0 to k - 1
abbrev pub first : ℕ → List ℕ
first zero = []
first (suc k) = first k ++ k ∷ []

-- a group is enough with n - t controllers or more, and the leads are 0 to t
abbrev pub threshold : ℕ → ℕ → Meaning
threshold n t = record { size = n; enough = λ g. nat_le (n - t) (count n g); leads = first (suc t) }

abbrev pub meaning_of : Threshold → Meaning
meaning_of s = threshold (size_of s) (faults_of s)

-- making one: refused with 1 where n is no yard's size, then with 5 where 3 × t is n or more
abbrev pub making : ℕ → ℕ → List ℕ
making n t = if yard_size n then (if nat_le n (3 * t) then 5 ∷ [] else []) else 1 ∷ []

-- in words: why one is not made
abbrev pub AgainstMaking : ℕ → ℕ → ThresholdRefusal → Type 0
AgainstMaking n t YardSize = NoYardSize n
AgainstMaking n t TooManyFaults = (1 ≤ n) × (n ≤ 16) × (n ≤ 3 * t)

-- the reason for the answer to making one
abbrev pub MadeBecause : ℕ → ℕ → Result Threshold ThresholdRefusal → Type 0
MadeBecause n t (Ok s) = (size_of s ≡ n) × (faults_of s ≡ t)
MadeBecause n t (Err e) = AgainstMaking n t e

-- asking for the greatest fault number: refused with 1 where n is no yard's size
abbrev pub asking : ℕ → List ℕ
asking n = if yard_size n then [] else 1 ∷ []

-- in words: why it is not answered
abbrev pub AgainstAsking : ℕ → ThresholdRefusal → Type 0
AgainstAsking n YardSize = NoYardSize n
AgainstAsking n TooManyFaults = ⊥

-- t is the greatest fault number of a yard of n: n exceeds three times it, and not three times the next
pub record Greatest (n t : ℕ) : Type 0 where
  pub stands : 3 * t < n
  pub greatest : n ≤ 3 * (t + 1)

-- the reason for the answer
abbrev pub AnsweredBecause : ℕ → Result ℕ ThresholdRefusal → Type 0
AnsweredBecause n (Ok t) = (t ≡ (n - 1) / 3) × Greatest n t
AnsweredBecause n (Err e) = AgainstAsking n e
