-- What the lines `controllers`, `set` and `seal` do: the calls on drafts are made, and do what their clauses say.
use Rattle.std.specs.Prelude.{◌≡◌, ℕ, List, Some, None, Ok, Err, Option, Result}
use Rattle.survivor.specs.declared.refusals.DraftRefusal.{DraftRefusal}
use Rattle.survivor.specs.declared.refusals.DraftRefusal.TheVariants.{EmptyOrOutside}
use Rattle.survivor.specs.declared.tables.Draft.{Draft}
use Rattle.survivor.specs.declared.tables.Table.{Table}
use Rattle.survivor.specs.Drafts.{size_of, sets_of, making, adding, MadeBecause, AddedBecause, AddedTo}
use Rattle.survivor.specs.Refusals.{said}
use Rattle.survivor.specs.Seals.{refused_with, sealing, Reason, SealedFrom}
use Rattle.lines.specs.Lines.{ControllersForm, SetForm, SealForm}
use Rattle.answers.specs.declared.faults.Fault.{Fault}
use Rattle.answers.specs.declared.faults.Fault.TheVariants as Faults
use Rattle.answers.specs.declared.replies.Reply.{Reply}
use Rattle.answers.specs.declared.replies.Reply.TheVariants.{Done, Sealed}
use Rattle.text.specs.declared.yards.Yard.{Yard}
use Rattle.text.specs.Yards.{begun, with_draft, with_table, Refused, DoneWith, Needs, ReadsThen}

-- ---- `controllers` n: a new draft of n, and nothing else stands
-- a draft of n is made with the answer b: the clauses of `Draft::new`
pub record Made (n : ℕ) (b : Result Draft DraftRefusal) : Type 0 where
  pub answer : said b ≡ making n
  pub reason : MadeBecause n b

-- the answer is told, and the yard has the draft and nothing else
abbrev pub MakingTold : Result Draft DraftRefusal → Yard → Result Reply Fault → Yard → Type 0
MakingTold (Ok d) y r y' = DoneWith Done (begun y d) r y'
MakingTold (Err e) y r y' = Refused (Faults.Draft e) y r y'

abbrev pub Begins : Yard → List (List ℕ) → Result Reply Fault → Yard → Type 0
Begins y fs r y' = ReadsThen ControllersForm fs (λ n y r y'. (b : Result Draft DraftRefusal) × Made n b × MakingTold b y r y') y r y'

-- ---- `set`: the draft takes the group of the controllers named
-- the draft d is given the set s, answers b, and is d' then: the clauses of `Draft::add`
pub record Added (d : Draft) (s : ℕ) (b : Result (Unit {0}) DraftRefusal) (d' : Draft) : Type 0 where
  pub answer : said b ≡ adding (size_of d) (sets_of d) s
  pub reason : AddedBecause d s b
  pub after : AddedTo d s b d'

-- the answer is told, and the yard has the draft d'
abbrev pub AddingTold : Result (Unit {0}) DraftRefusal → Draft → Yard → Result Reply Fault → Yard → Type 0
AddingTold (Ok u) d' y r y' = DoneWith Done (with_draft y d') r y'
AddingTold (Err e) d' y r y' = Refused (Faults.Draft e) y r y'

-- a controller from 16 on is outside every yard
abbrev pub TakesSet : Draft → Option ℕ → Yard → Result Reply Fault → Yard → Type 0
TakesSet d None y r y' = Refused (Faults.Draft EmptyOrOutside) y r y'
TakesSet d (Some s) y r y' = (b : Result (Unit {0}) DraftRefusal) × (d' : Draft) × Added d s b d' × AddingTold b d' y r y'

abbrev pub Adds : Yard → List (List ℕ) → Result Reply Fault → Yard → Type 0
Adds y fs r y' = Needs y.draft (λ d. ReadsThen SetForm fs (TakesSet d)) y r y'

-- ---- `seal`: the draft is sealed, and the table takes the place of any that stood
-- the draft d is sealed with the answer b; t is the table where it is sealed: the first clauses of `Draft::seal`, from which its others follow
pub record Sealing (d : Draft) (b : Result (Unit {0}) DraftRefusal) (t : Table) : Type 0 where
  pub answer : refused_with b ≡ sealing (size_of d) (sets_of d)
  pub reason : Reason (size_of d) (sets_of d) b
  pub written : b ≡ Ok tt → SealedFrom d t

-- the answer is told with the table, which the yard then has
abbrev pub SealingTold : Result (Unit {0}) DraftRefusal → Table → Yard → Result Reply Fault → Yard → Type 0
SealingTold (Ok u) t y r y' = DoneWith (Sealed t) (with_table y t) r y'
SealingTold (Err e) t y r y' = Refused (Faults.Draft e) y r y'

abbrev pub Seals : Yard → List (List ℕ) → Result Reply Fault → Yard → Type 0
Seals y fs r y' = Needs y.draft (λ d. ReadsThen SealForm fs (λ u y r y'. (b : Result (Unit {0}) DraftRefusal) × (t : Table) × Sealing d b t × SealingTold b t y r y')) y r y'
