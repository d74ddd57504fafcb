-- All that sealing a draft promises: of the draft and the table, of every round rule, and of all controllers.
use Rattle.std.specs.Prelude.{◌≡◌, ℕ, ◌<◌, length, Some, Ok, Err, Result, ◌≢◌}
use Rattle.structure.specs.Meanings.{Meaning}
use Rattle.structure.specs.declared.Structure.{Ghosts as Structure}
use Rattle.duty.specs.declared.duties.Duty.{Ghosts as Duty}
use Rattle.duty.specs.declared.values.Same.{Ghosts as Same}
use Rattle.cores.specs.Leads.{table}
use Rattle.survivor.specs.Drafts.{size_of, sets_of}
use Rattle.survivor.specs.Seals.{meaning_of, refused_with, sealing, NothingShared, Writes}
use Rattle.survivor.specs.declared.refusals.DraftRefusal.{DraftRefusal}
use Rattle.survivor.specs.declared.refusals.DraftRefusal.TheVariants.{NoneShared}
use Rattle.survivor.specs.declared.tables.Draft.{Draft}
use Rattle.survivor.specs.declared.tables.Table.{Table}
use Rattle.rules.specs.Rules.{Rule, Serves}
use Rattle.rules.specs.Own.{own_rule}
use Rattle.engine.specs.declared.controllers.Controller.{Controller}
use Rattle.agreement.specs.Histories.{History}
use Rattle.agreement.specs.Lives.{Life, Lived, Agrees, Keeps}

-- a sealed table means the table of the draft's sets
abbrev pub Written : Draft → Table → Result (Unit {0}) DraftRefusal → Table → Type 0
Written d old r new = Writes d old r new × (r ≡ Ok tt → meaning_of new ≡ table (size_of d) (sets_of d))

-- Sealing is refused with 14 exactly when no round rule at all serves the draft, which holds a set or more. `rule` is any round rule: the call is
-- generic over it. (A fact in a contract is of Type 0 and Rule is of Type 1, so the quantifier is the call's type parameter.)
pub record Served (rule : Rule) (d : Draft) (r : Result (Unit {0}) DraftRefusal) (new : Table) : Type 0 where
  -- refused: that this rule, which is any, serves the draft is absurd
  pub refused : refused_with r ≡ Some 14 → Serves rule (size_of d) (sets_of d) → ⊥
  -- the three sets shown have no controller in common
  pub shown : (p q s : ℕ) → r ≡ Err (NoneShared p q s) → NothingShared (size_of d) (sets_of d) p q s
  -- not so refused: it is sealed, and our own rounds on the sealed table are a rule that serves it
  pub own : (refused_with r ≢ Some 14) → (r ≡ Ok tt) × Serves (own_rule (meaning_of new)) (size_of d) (sets_of d)

-- Controllers on any structures with the four laws (they come with the bound of the call: a type that is a `Structure` has them), any duty and its
-- kind of value.
pub record ControllersAgree {S D V : Type 0} (M : Structure S) (G : Duty D V) (K : Same V) : Type 0 where
  -- members of an enough group that hear each other truly agree
  pub agree : (m : Meaning) → Agrees M G K m
  -- whatever it hears, a controller closes every slot on time, with the value that the rounds give, and its duty takes just these values
  pub live : (m : Meaning) (σ : G.Settings) (k : G.Content) (v : V) (es : History V) (c : Controller S D V) → Life M G K m σ k v es c → Lived M G K m σ k v es c
  -- a proposal pending in all members as a slot began is the slot's value
  pub keep : (m : Meaning) → Keeps M G K m

-- Where the draft d is sealed into a table that held `old` and then holds `new`, with the answer r.
pub record Promise {S D V : Type 0} (rule : Rule) (M : Structure S) (G : Duty D V) (K : Same V) (d : Draft) (old : Table) (r : Result (Unit {0}) DraftRefusal) (new : Table) : Type 0 where
  pub answer : refused_with r ≡ sealing (size_of d) (sets_of d)
  pub written : Written d old r new
  pub served : 0 < length (sets_of d) → Served rule d r new
  pub controllers : ControllersAgree M G K
