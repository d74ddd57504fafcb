-- What the lines that drive a controller come to, put together from what their steps gave.
use Rattle.std.proofs.Common.{◌≡◌, ℕ, List, Some, Ok, Err, Option, Result, sym, refl, ap, ◌∙◌, subst}
use Rattle.duty.specs.declared.duties.Duty.{Ghosts as Duty}
use Rattle.duty.specs.declared.values.Same.{Ghosts as Same}
use Rattle.survivor.specs.declared.tables.Table.{Table}
use Rattle.engine.specs.declared.controllers.Controller.{Controller}
use Rattle.fields.specs.declared.faults.FieldFault.{FieldFault}
use Rattle.lines.specs.Forms.{Read}
use Rattle.lines.specs.Lines.{OfferForm, HearForm}
use Rattle.answers.specs.declared.faults.Fault.{Fault}
use Rattle.answers.specs.declared.faults.Fault.TheVariants as Faults
use Rattle.answers.specs.declared.replies.Agreed.{Agreed}
use Rattle.answers.specs.declared.replies.Reply.{Reply}
use Rattle.text.specs.declared.yards.Running.{Running}
use Rattle.text.specs.declared.yards.Yard.{Yard}
use Rattle.text.specs.Yards.{with_running}
use Rattle.text.specs.Driving.{OfferRead, Offered, OffersTo, RowRead, RowHeard, Driven, HearsBy}
use Rattle.text.proofs.Rows.{row_heard, row_unread}
use Rattle.text.proofs.Stays.{row_refused, offer_refused}

-- ---- driving
-- the controller that stood is put back
put_back : (y : Yard) (c c' : Running) → y.running ≡ Some c → c' ≡ c → with_running y c' ≡ y
put_back y c c' is same = ap (λ x. record { lines = y.lines; draft = y.draft; table = y.table; running = x }) (ap Some same ∙ sym is)

module _ {D V : Type 0} (G : Duty D V) (K : Same V) (Says : List ℕ → V → Type 0) (agreed : V → Agreed) (running : Controller Table D V → Running) where
  driven : (y : Yard) (c c' : Controller Table D V) (r : Result Reply Fault) → y.running ≡ Some (running c) → ((f : Fault) → r ≡ Err f → c' ≡ c) → Driven G K agreed running c' y r (with_running y (running c'))
  driven y c c' (Ok a) is stays = refl
  driven y c c' (Err f) is stays = put_back y (running c) (running c') is (ap running (stays f refl))

  hears : (y : Yard) (c c' : Controller Table D V) (fs : List (List ℕ)) (r : Result Reply Fault) → y.running ≡ Some (running c) → RowHeard G K Says agreed running c fs r c' → HearsBy G K Says agreed running c fs y r (with_running y (running c'))
  hears y c c' fs r is row = (c', row, driven y c c' r is (λ f e. row_refused G K Says agreed running c c' fs f (subst (λ x. RowHeard G K Says agreed running c fs x c') e row)))

  -- the words are read, and heard
  pub hears_row : (y : Yard) (c c' : Controller Table D V) (fs : List (List ℕ)) (w words : List (Option V)) (r : Result Reply Fault) → y.running ≡ Some (running c) → HearForm Says fs w → words ≡ w → RowRead G K agreed running (Ok words) c r c' → HearsBy G K Says agreed running c fs y r (with_running y (running c'))
  hears_row y c c' fs w words r is f are h = hears y c c' fs r is (row_heard G K Says agreed running c c' fs w words r f are h)

  -- they are not in form
  pub hears_none : (y : Yard) (c : Controller Table D V) (fs : List (List ℕ)) (e : FieldFault) (r : Result Reply Fault) → y.running ≡ Some (running c) → Read (HearForm Says) fs (Err e) → r ≡ Err (Faults.Field e) → HearsBy G K Says agreed running c fs y r (with_running y (running c))
  hears_none y c fs e r is f told = hears y c c fs r is (row_unread G K Says agreed running c c fs e r f told refl)

  offers : (y : Yard) (c c' : Controller Table D V) (fs : List (List ℕ)) (r : Result Reply Fault) → y.running ≡ Some (running c) → Offered G K Says agreed running c fs r c' → OffersTo G K Says agreed running c fs y r (with_running y (running c'))
  offers y c c' fs r is o = (c', o, driven y c c' r is (λ f e. offer_refused G K Says agreed running c c' fs f (subst (λ x. Offered G K Says agreed running c fs x c') e o)))

  -- the value is read, and offered
  pub offers_value : (y : Yard) (c c' : Controller Table D V) (fs : List (List ℕ)) (v : V) (r : Result Reply Fault) → y.running ≡ Some (running c) → OfferForm Says fs v → OfferRead G K agreed running (Ok v) c r c' → OffersTo G K Says agreed running c fs y r (with_running y (running c'))
  offers_value y c c' fs v r is f o = offers y c c' fs r is (Ok v, f, o)

  -- it is not in form
  pub offers_none : (y : Yard) (c : Controller Table D V) (fs : List (List ℕ)) (e : FieldFault) (r : Result Reply Fault) → y.running ≡ Some (running c) → Read (OfferForm Says) fs (Err e) → r ≡ Err (Faults.Field e) → OffersTo G K Says agreed running c fs y r (with_running y (running c))
  offers_none y c fs e r is f told = offers y c c fs r is (Err e, f, (told, refl))
