-- Sealing: what it answers, and what the table then holds.
--
-- `n` is the number of controllers of the yard, and `sets` the sets of the draft.
use Rattle.std.specs.Prelude.{◌≡◌, ℕ, ◌<◌, if◌then◌else◌, List, length, take, Some, None, Ok, Err, Option, Result, ◌==◌}
use Rattle.structure.specs.Groups.{◌∈◌, members}
use Rattle.structure.specs.Meanings.{Meaning}
use Rattle.cores.specs.Sharing.{ThreesShare, threes_share}
use Rattle.cores.specs.Leads.{Leading, leading_core, table}
use Rattle.survivor.specs.declared.refusals.DraftRefusal.{DraftRefusal}
use Rattle.survivor.specs.declared.refusals.DraftRefusal.TheVariants.{YardSize, EmptyOrOutside, Full, Comparable, NoSet, NoneShared}
use Rattle.survivor.specs.declared.tables.Draft.{Draft}
use Rattle.survivor.specs.declared.tables.Table.{Table}
use Rattle.survivor.specs.Drafts.{size_of, sets_of, Place, at_place}
use Rattle.survivor.specs.Refusals.{number}

-- ---- what a sealed table holds
abbrev pub draft_of : Table → Draft
draft_of t = t.draft

abbrev pub leads_of : Table → List ℕ
leads_of t = take t.phases t.leads

-- what it means as a structure
abbrev pub meaning_of : Table → Meaning
meaning_of t = table (size_of (draft_of t)) (sets_of (draft_of t))

-- ---- what sealing answers
-- the number of a refusal, if the call was refused
abbrev pub refused_with : {A : Type 0} → Result A DraftRefusal → Option ℕ
refused_with (Ok a) = None
refused_with (Err e) = Some (number e)

-- refused with 13 without a set, then with 14 where three sets share no controller
abbrev pub sealing : ℕ → List ℕ → Option ℕ
sealing n sets = if length sets == 0 then Some 13 else if threes_share n sets then None else Some 14

-- The sets at the places p, q and r, which need not differ, have no controller in common.
-- Where several triples have none, it is left free which of them a refusal shows.
pub record NothingShared (n : ℕ) (sets : List ℕ) (p q r : ℕ) : Type 0 where
  pub places : Place sets p × Place sets q × Place sets r
  pub none : (i : ℕ) → i < n → i ∈ at_place sets p → i ∈ at_place sets q → i ∈ at_place sets r → ⊥

-- in words: why a draft is sealed
pub record Sealable (n : ℕ) (sets : List ℕ) : Type 0 where
  pub some : 0 < length sets
  pub threes : ThreesShare n sets

-- why it is not
abbrev pub AgainstSealing : ℕ → List ℕ → DraftRefusal → Type 0
AgainstSealing n sets YardSize = ⊥
AgainstSealing n sets EmptyOrOutside = ⊥
AgainstSealing n sets Full = ⊥
AgainstSealing n sets (Comparable p) = ⊥
AgainstSealing n sets NoSet = length sets ≡ 0
AgainstSealing n sets (NoneShared p q r) = NothingShared n sets p q r

-- the reason for the answer
abbrev pub Reason : ℕ → List ℕ → Result (Unit {0}) DraftRefusal → Type 0
Reason n sets (Ok u) = Sealable n sets
Reason n sets (Err e) = AgainstSealing n sets e

-- ---- what the table holds after sealing: the draft, whole, and the controllers of its leading core by rising number
pub record SealedFrom (d : Draft) (t : Table) : Type 0 where
  pub copied : draft_of t ≡ d
  pub leads : leads_of t ≡ members (size_of d) (leading_core (size_of d) (sets_of d))
  pub leading : Leading (size_of d) (sets_of d) (leading_core (size_of d) (sets_of d))

-- the table held `old`, and holds `new` after the answer: a refused draft leaves it as it was
abbrev pub Writes : Draft → Table → Result (Unit {0}) DraftRefusal → Table → Type 0
Writes d old (Ok u) new = SealedFrom d new
Writes d old (Err e) new = new ≡ old
