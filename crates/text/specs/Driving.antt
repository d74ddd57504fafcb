-- What the lines `plans`, `board`, `offer` and `hear` do. A controller does exactly what its calls promise: see the crate of controllers.
use Rattle.std.specs.Prelude.{◌≡◌, ℕ, List, Ok, Err, Option, Result}
use Rattle.structure.specs.declared.Structure.{Ghosts as Structure}
use Rattle.duty.specs.declared.duties.Duty.{Ghosts as Duty}
use Rattle.duty.specs.declared.values.Same.{Ghosts as Same}
use Rattle.duty.specs.declared.refusals.DutyRefusal.{DutyRefusal}
use Rattle.depot.specs.declared.boards.Board.{Board}
use Rattle.depot.specs.declared.books.PlanBook.{PlanBook}
use Rattle.depot.specs.declared.refusals.SettingsRefusal.{SettingsRefusal}
use Rattle.depot.specs.declared.values.Grant.{Grant}
use Rattle.depot.specs.declared.values.Plan.{Plan}
use Rattle.depot.specs.BoardCalls as boards
use Rattle.depot.specs.PlanCalls as books
use Rattle.depot.specs.contracts.board_duty.BoardDuty.TheImpl as BoardImpl
use Rattle.depot.specs.contracts.plan_duty.PlanBookDuty.TheImpl as BookImpl
use Rattle.depot.specs.contracts.values.GrantSame.TheImpl as GrantImpl
use Rattle.depot.specs.contracts.values.PlanSame.TheImpl as PlanImpl
use Rattle.survivor.specs.declared.tables.Table.{Table}
use Rattle.survivor.specs.contracts.seals.TableStructure.TheImpl as TableImpl
use Rattle.engine.specs.declared.controllers.Controller.{Controller}
use Rattle.engine.specs.declared.controllers.Heard.{Heard}
use Rattle.engine.specs.declared.controllers.Heard.TheVariants as Heards
use Rattle.engine.specs.declared.controllers.Unopened.{Unopened}
use Rattle.engine.specs.declared.refusals.RowRefusal.{RowRefusal}
use Rattle.engine.specs.Promises.{Opens, Offers, Hears}
use Rattle.fields.specs.Values.{PlanText, GrantText}
use Rattle.fields.specs.declared.faults.FieldFault.{FieldFault}
use Rattle.lines.specs.Forms.{Read}
use Rattle.lines.specs.Lines.{PlansForm, BoardForm, OfferForm, SayWords}
use Rattle.answers.specs.declared.faults.Fault.{Fault}
use Rattle.answers.specs.declared.faults.Fault.TheVariants as Faults
use Rattle.answers.specs.declared.replies.Agreed.{Agreed}
use Rattle.answers.specs.declared.replies.Agreed.TheVariants as Agreeds
use Rattle.answers.specs.declared.replies.Reply.{Reply}
use Rattle.answers.specs.declared.replies.Reply.TheVariants.{Done, Round, Closed}
use Rattle.text.specs.declared.yards.Running.{Running}
use Rattle.text.specs.declared.yards.Running.TheVariants as Runnings
use Rattle.text.specs.declared.yards.Yard.{Yard}
use Rattle.text.specs.Yards.{with_running, Refused, DoneWith, Needs, ReadsThen}

-- ---- what a sealed table, a plan book and a board mean as structure and duties
abbrev pub table_structure : Structure Table
table_structure = TableImpl.ghosts

abbrev pub book_duty : Duty PlanBook Plan
book_duty = BookImpl.ghosts

abbrev pub plan_kind : Same Plan
plan_kind = PlanImpl.ghosts

abbrev pub board_duty : Duty Board Grant
board_duty = BoardImpl.ghosts

abbrev pub grant_kind : Same Grant
grant_kind = GrantImpl.ghosts

-- ---- for either duty: `agreed` and `running` name its values and its controllers among those of both
module _ {D V : Type 0} (G : Duty D V) (K : Same V) (agreed : V → Agreed) (running : Controller Table D V → Running) where
  -- the answer of an opening is told, and the controller takes the place of any that stood
  abbrev pub OpeningTold : Result (Controller Table D V) (Unopened Table D) → Yard → Result Reply Fault → Yard → Type 0
  OpeningTold (Ok c) y r y' = DoneWith Done (with_running y (running c)) r y'
  OpeningTold (Err u) y r y' = Refused (Faults.Duty u.refusal) y r y'

  -- the controller is opened on the table t with the duty d and the first proposal v, and the answer is told
  abbrev pub Opened : Table → D → V → Yard → Result Reply Fault → Yard → Type 0
  Opened t d v y r y' = (o : Result (Controller Table D V) (Unopened Table D)) × Opens table_structure G K t d v o × OpeningTold o y r y'

  -- opening on the table t with the first proposal v, once the duty is made: settings out of range are told of before the proposal is looked at
  abbrev pub OpensOn : Table → V → Result D SettingsRefusal → Yard → Result Reply Fault → Yard → Type 0
  OpensOn t v (Err e) y r y' = Refused (Faults.Settings e) y r y'
  OpensOn t v (Ok d) y r y' = Opened t d v y r y'

  -- what comes of a line that drives the controller c: it is c' then, and a refused line leaves the yard as it was
  abbrev pub Driven : Controller Table D V → Yard → Result Reply Fault → Yard → Type 0
  Driven c' y (Ok a) y' = y' ≡ with_running y (running c')
  Driven c' y (Err f) y' = y' ≡ y

  -- ---- the controller c is offered a value
  abbrev pub offer_told : Result (Unit {0}) DutyRefusal → Result Reply Fault
  offer_told (Ok u) = Ok Done
  offer_told (Err e) = Err (Faults.Duty e)

  -- once the field is read
  abbrev pub OfferRead : Result V FieldFault → Controller Table D V → Result Reply Fault → Controller Table D V → Type 0
  OfferRead (Err e) c r c' = (r ≡ Err (Faults.Field e)) × (c' ≡ c)
  OfferRead (Ok v) c r c' = (b : Result (Unit {0}) DutyRefusal) × Offers table_structure G K c v b c' × (r ≡ offer_told b)

  -- ---- the controller c hears words
  abbrev pub reply_of : Heard V → Reply
  reply_of (Heards.Round k) = Round k
  reply_of (Heards.Closed v o) = Closed (agreed v) o

  abbrev pub row_told : Result (Heard V) RowRefusal → Result Reply Fault
  row_told (Ok h) = Ok (reply_of h)
  row_told (Err e) = Err (Faults.Row e)

  -- once the words are read
  abbrev pub RowRead : Result (List (Option V)) FieldFault → Controller Table D V → Result Reply Fault → Controller Table D V → Type 0
  RowRead (Err e) c r c' = (r ≡ Err (Faults.Field e)) × (c' ≡ c)
  RowRead (Ok ws) c r c' = (b : Result (Heard V) RowRefusal) × Hears table_structure G K c ws b c' × (r ≡ row_told b)

-- ---- and by a line: `Says` is the text of the duty's values
module _ {D V : Type 0} (G : Duty D V) (K : Same V) (Says : List ℕ → V → Type 0) (agreed : V → Agreed) (running : Controller Table D V → Running) where
  -- the controller c is offered the value that the fields say
  abbrev pub Offered : Controller Table D V → List (List ℕ) → Result Reply Fault → Controller Table D V → Type 0
  Offered c fs r c' = (a : Result V FieldFault) × Read (OfferForm Says) fs a × OfferRead G K agreed running a c r c'

  abbrev pub OffersTo : Controller Table D V → List (List ℕ) → Yard → Result Reply Fault → Yard → Type 0
  OffersTo c fs y r y' = (c' : Controller Table D V) × Offered c fs r c' × Driven G K agreed running c' y r y'

  -- the controller c hears the words that the fields say
  abbrev pub RowHeard : Controller Table D V → List (List ℕ) → Result Reply Fault → Controller Table D V → Type 0
  RowHeard c fs r c' = (a : Result (List (Option V)) FieldFault) × Read (SayWords Says) fs a × RowRead G K agreed running a c r c'

  abbrev pub HearsBy : Controller Table D V → List (List ℕ) → Yard → Result Reply Fault → Yard → Type 0
  HearsBy c fs y r y' = (c' : Controller Table D V) × RowHeard c fs r c' × Driven G K agreed running c' y r y'

-- ---- `plans` and `board`: a controller on the sealed table, in place of any that stood
abbrev pub OpensPlans : Yard → List (List ℕ) → Result Reply Fault → Yard → Type 0
OpensPlans y fs r y' =
    Needs y.table (λ t. ReadsThen PlansForm fs (λ said y r y'.
    (m : Result PlanBook SettingsRefusal) × books.Made said.0 m × OpensOn book_duty plan_kind Agreeds.Plan Runnings.Plans t said.1 m y r y')) y r y'

abbrev pub OpensBoard : Yard → List (List ℕ) → Result Reply Fault → Yard → Type 0
OpensBoard y fs r y' =
    Needs y.table (λ t. ReadsThen BoardForm fs (λ said y r y'.
    (m : Result Board SettingsRefusal) × boards.Made (record { bays = said.0; feed = said.1 }) m × OpensOn board_duty grant_kind Agreeds.Grant Runnings.Board t said.2 m y r y')) y r y'

-- ---- `offer` and `hear`, by the controller that stands
abbrev pub OffersWith : List (List ℕ) → Running → Yard → Result Reply Fault → Yard → Type 0
OffersWith fs (Runnings.Plans c) = OffersTo book_duty plan_kind PlanText Agreeds.Plan Runnings.Plans c fs
OffersWith fs (Runnings.Board c) = OffersTo board_duty grant_kind GrantText Agreeds.Grant Runnings.Board c fs

abbrev pub OffersLine : Yard → List (List ℕ) → Result Reply Fault → Yard → Type 0
OffersLine y fs r y' = Needs y.running (OffersWith fs) y r y'

abbrev pub HearsWith : List (List ℕ) → Running → Yard → Result Reply Fault → Yard → Type 0
HearsWith fs (Runnings.Plans c) = HearsBy book_duty plan_kind PlanText Agreeds.Plan Runnings.Plans c fs
HearsWith fs (Runnings.Board c) = HearsBy board_duty grant_kind GrantText Agreeds.Grant Runnings.Board c fs

abbrev pub HearsLine : Yard → List (List ℕ) → Result Reply Fault → Yard → Type 0
HearsLine y fs r y' = Needs y.running (HearsWith fs) y r y'
