-- A controller that refuses stays as it was.
use Rattle.std.proofs.Common.{◌≡◌, ℕ, Bool, true, false, List, length, Ok, Err, Option, Result, refl, ⊎_elim, arith}
use Rattle.std.proofs.lemmas.Bool.{cases_eq}
use Rattle.duty.specs.declared.duties.Duty.{Ghosts as Duty}
use Rattle.duty.specs.declared.values.Same.{Ghosts as Same}
use Rattle.duty.specs.declared.refusals.DutyRefusal.{DutyRefusal}
use Rattle.survivor.specs.declared.tables.Table.{Table}
use Rattle.engine.specs.Controllers.{runs_on, fits_on}
use Rattle.engine.specs.Promises.{Hears, Offers}
use Rattle.engine.specs.declared.controllers.Controller.{Controller}
use Rattle.engine.specs.declared.controllers.Heard.{Heard}
use Rattle.engine.specs.declared.refusals.RowRefusal.{RowRefusal}
use Rattle.fields.specs.declared.faults.FieldFault.{FieldFault}
use Rattle.answers.specs.declared.replies.Agreed.{Agreed}
use Rattle.answers.specs.declared.replies.Reply.{Reply}
use Rattle.text.specs.declared.yards.Running.{Running}
use Rattle.answers.specs.declared.faults.Fault.{Fault}
use Rattle.text.specs.Driving.{table_structure, RowHeard, RowRead, row_told, Offered, OfferRead, offer_told}

module _ {D V : Type 0} (G : Duty D V) (K : Same V) (Says : List ℕ → V → Type 0) (agreed : V → Agreed) (running : Controller Table D V → Running) where
  unheard : (c c' : Controller Table D V) (ws : List (Option V)) (e : RowRefusal) → Hears table_structure G K c ws (Err e) c' → c' ≡ c
  unheard c c' ws e h =
      ⊎_elim
      (λ same. let heard = h.accepted same in let z : ◌≡◌ {A = ℕ} 0 1 = let x = heard.1 in cc in absurd (omega arith))
      (λ differ. (h.refused differ).1)
      (cases_eq (length ws) (runs_on table_structure c).size)

  pub row_refused : (c c' : Controller Table D V) (fs : List (List ℕ)) (f : Fault) → RowHeard G K Says agreed running c fs (Err f) c' → c' ≡ c
  row_refused c c' fs f r = go r.0 r.2
    where
      told : (ws : List (Option V)) (b : Result (Heard V) RowRefusal) → Hears table_structure G K c ws b c' → ◌≡◌ {A = Result Reply Fault} (Err f) (row_told G K agreed running b) → c' ≡ c
      told ws (Ok h) hears is = let z : ◌≡◌ {A = ℕ} 0 1 = cc in absurd (omega arith)
      told ws (Err e) hears is = unheard c c' ws e hears

      go : (a : Result (List (Option V)) FieldFault) → RowRead G K agreed running a c (Err f) c' → c' ≡ c
      go (Err e) x = x.1
      go (Ok ws) x = told ws x.0 x.1 x.2

  untaken : (c c' : Controller Table D V) (v : V) (e : DutyRefusal) → Offers table_structure G K c v (Err e) c' → c' ≡ c
  untaken c c' v e o = go (fits_on G c (K.code v)) refl
    where
      go : (t : Bool) → fits_on G c (K.code v) ≡ t → c' ≡ c
      go true is = let taken = o.taken is in let z : ◌≡◌ {A = ℕ} 0 1 = let x = taken.0 in cc in absurd (omega arith)
      go false is = (o.refused is).1

  pub offer_refused : (c c' : Controller Table D V) (fs : List (List ℕ)) (f : Fault) → Offered G K Says agreed running c fs (Err f) c' → c' ≡ c
  offer_refused c c' fs f r = go r.0 r.2
    where
      told : (v : V) (b : Result (Unit {0}) DutyRefusal) → Offers table_structure G K c v b c' → ◌≡◌ {A = Result Reply Fault} (Err f) (offer_told G K agreed running b) → c' ≡ c
      told v (Ok u) offers is = let z : ◌≡◌ {A = ℕ} 0 1 = cc in absurd (omega arith)
      told v (Err e) offers is = untaken c c' v e offers

      go : (a : Result V FieldFault) → OfferRead G K agreed running a c (Err f) c' → c' ≡ c
      go (Err e) x = x.1
      go (Ok v) x = told v x.0 x.1 x.2
