-- A refused line leaves the yard as it was.
use Rattle.std.proofs.Common.{◌≡◌, ℕ, List, Some, None, Ok, Err, Option, Result, sym, ◌∙◌, subst, arith}
use Rattle.duty.specs.declared.duties.Duty.{Ghosts as Duty}
use Rattle.duty.specs.declared.values.Same.{Ghosts as Same}
use Rattle.depot.specs.declared.refusals.SettingsRefusal.{SettingsRefusal}
use Rattle.survivor.specs.declared.refusals.DraftRefusal.{DraftRefusal}
use Rattle.survivor.specs.declared.tables.Draft.{Draft}
use Rattle.survivor.specs.declared.tables.Table.{Table}
use Rattle.engine.specs.declared.controllers.Controller.{Controller}
use Rattle.engine.specs.declared.controllers.Unopened.{Unopened}
use Rattle.fields.specs.declared.faults.FieldFault.{FieldFault}
use Rattle.lines.specs.declared.verbs.Verb.{Verb}
use Rattle.lines.specs.declared.verbs.Verb.TheVariants as Verbs
use Rattle.answers.specs.declared.faults.Fault.{Fault}
use Rattle.answers.specs.declared.replies.Agreed.{Agreed}
use Rattle.answers.specs.declared.replies.Agreed.TheVariants as Agreeds
use Rattle.answers.specs.declared.replies.Reply.{Reply}
use Rattle.text.specs.declared.yards.Running.{Running}
use Rattle.text.specs.declared.yards.Running.TheVariants as Runnings
use Rattle.text.specs.declared.yards.Yard.{Yard}
use Rattle.text.specs.Yards.{DoneWith, Needs, AfterReading}
use Rattle.text.specs.Drafting.{MakingTold, AddingTold, TakesSet, SealingTold}
use Rattle.text.specs.Driving.{book_duty, plan_kind, board_duty, grant_kind, OpeningTold, OpensOn, Driven, OffersWith, HearsWith}
use Rattle.text.specs.Answering.{Obeys}

module _ (y y' : Yard) (r : Result Reply Fault) (f : Fault) (refused : r ≡ Err f) where
  -- a line that is done is not refused
  done : (a : Reply) (new : Yard) → DoneWith a new r y' → y' ≡ y
  done a new d = let z : ◌≡◌ {A = ℕ} 0 1 = let e = sym refused ∙ d.0 in cc in absurd (omega arith)

  needs : {X : Type 0} (then : X → Yard → Result Reply Fault → Yard → Type 0) (o : Option X) → Needs o then y r y' → ((x : X) → then x y r y' → y' ≡ y) → y' ≡ y
  needs then None n go = n.1
  needs then (Some x) n go = go x n

  reads : {A : Type 0} (then : A → Yard → Result Reply Fault → Yard → Type 0) (a : Result A FieldFault) → AfterReading a then y r y' → ((a : A) → then a y r y' → y' ≡ y) → y' ≡ y
  reads then (Err e) n go = n.1
  reads then (Ok a) n go = go a n

  making : (b : Result Draft DraftRefusal) → MakingTold b y r y' → y' ≡ y
  making (Ok d) t = done _ _ t
  making (Err e) t = t.1

  adding : (b : Result (Unit {0}) DraftRefusal) (d : Draft) → AddingTold b d y r y' → y' ≡ y
  adding (Ok u) d t = done _ _ t
  adding (Err e) d t = t.1

  taking : (d : Draft) (g : Option ℕ) → TakesSet d g y r y' → y' ≡ y
  taking d None t = t.1
  taking d (Some s) t = adding t.0 t.1 t.3

  sealing : (b : Result (Unit {0}) DraftRefusal) (t : Table) → SealingTold b t y r y' → y' ≡ y
  sealing (Ok u) t s = done _ _ s
  sealing (Err e) t s = s.1

  module _ {D V : Type 0} (G : Duty D V) (K : Same V) (agreed : V → Agreed) (running : Controller Table D V → Running) where
    opening : (o : Result (Controller Table D V) (Unopened Table D)) → OpeningTold G K agreed running o y r y' → y' ≡ y
    opening (Ok c) t = done _ _ t
    opening (Err u) t = t.1

    opens : (t : Table) (v : V) (m : Result D SettingsRefusal) → OpensOn G K agreed running t v m y r y' → y' ≡ y
    opens t v (Err e) o = o.1
    opens t v (Ok d) o = opening o.0 o.2

    driven : (c' : Controller Table D V) → Driven G K agreed running c' y r y' → y' ≡ y
    driven c' d = subst (λ x. Driven G K agreed running c' y x y') refused d

  offering : (fs : List (List ℕ)) (c : Running) → OffersWith fs c y r y' → y' ≡ y
  offering fs (Runnings.Plans c) o = driven book_duty plan_kind Agreeds.Plan Runnings.Plans o.0 o.2
  offering fs (Runnings.Board c) o = driven board_duty grant_kind Agreeds.Grant Runnings.Board o.0 o.2

  hearing : (fs : List (List ℕ)) (c : Running) → HearsWith fs c y r y' → y' ≡ y
  hearing fs (Runnings.Plans c) h = driven book_duty plan_kind Agreeds.Plan Runnings.Plans h.0 h.2
  hearing fs (Runnings.Board c) h = driven board_duty grant_kind Agreeds.Grant Runnings.Board h.0 h.2

  pub unchanged : (v : Verb) (fs : List (List ℕ)) → Obeys v y fs r y' → y' ≡ y
  unchanged Verbs.Controllers fs o = reads _ o.0 o.2 (λ n b. making b.0 b.2)
  unchanged Verbs.Set fs o = needs _ y.draft o (λ d x. reads _ x.0 x.2 (λ g t. taking d g t))
  unchanged Verbs.Seal fs o = needs _ y.draft o (λ d x. reads _ x.0 x.2 (λ u t. sealing t.0 t.1 t.3))
  unchanged Verbs.Plans fs o = needs _ y.table o (λ t x. reads _ x.0 x.2 (λ said m. opens book_duty plan_kind Agreeds.Plan Runnings.Plans t said.1 m.0 m.2))
  unchanged Verbs.Board fs o = needs _ y.table o (λ t x. reads _ x.0 x.2 (λ said m. opens board_duty grant_kind Agreeds.Grant Runnings.Board t said.2 m.0 m.2))
  unchanged Verbs.Offer fs o = needs _ y.running o (offering fs)
  unchanged Verbs.Hear fs o = needs _ y.running o (hearing fs)
