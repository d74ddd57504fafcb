-- The first fault of lines with a fixed number of fields.
use Rattle.std.proofs.Common.{◌≡◌, ℕ, List, [], ◌∷◌, Ok, Err, Result, refl, arith}
use Rattle.fields.specs.declared.faults.FieldFault.{FieldFault}
use Rattle.depot.specs.declared.values.Grant.{Grant}
use Rattle.depot.specs.declared.values.Plan.{Plan}
use Rattle.fields.specs.Numbers.{numeral, Number}
use Rattle.fields.specs.Values.{PlanText, GrantText, grant_text}
use Rattle.lines.specs.Forms.{Departs, Ends, Read, field_number}
use Rattle.lines.specs.Lines.{SealForm, PlansForm, BoardForm, OfferForm}
use Rattle.lines.proofs.Departures.{step, Wrong, no_value, surplus}

-- the fault is at field k
abbrev pub FaultAt : {A : Type 0} → (List (List ℕ) → A → Type 0) → List (List ℕ) → ℕ → Type 0
FaultAt Form fs k = (j : ℕ) × (k ≡ field_number j) × Departs (λ gs. (a : _) × Form gs a) fs j

some_number : Number (numeral 0) 0
some_number = (omega arith, refl)

abbrev plan_0 : Plan
plan_0 = record { 0 = 0 }

abbrev grant_0 : Grant
grant_0 = record { bay = 0; amps = 0 }

some_plan : PlanText (numeral 0) plan_0
some_plan = (omega arith, refl)

some_grant : GrantText (grant_text grant_0) grant_0
some_grant = (omega arith, omega arith, refl)

-- ---- `seal`
pub seal_2 : (fs : List (List ℕ)) (k : ℕ) → (k ≡ 2) × (fs ≡ [] → ⊥) → FaultAt SealForm fs k
seal_2 fs k more = (0, omega (arith, more.0), surplus (λ gs. (a : Unit {0}) × SealForm gs a) fs (tt, refl) (λ ws l. l.1) more.1)

pub sealed : (fs : List (List ℕ)) (r : Result (Unit {0}) FieldFault) → Ends fs 2 r → Read SealForm fs r
sealed fs (Ok u) e = e
sealed fs (Err f) e = seal_2 fs f.field e

-- ---- one value: `controllers` and `offer`
module _ {V : Type 0} (Says : List ℕ → V → Type 0) where
  abbrev one : List (List ℕ) → Type 0
  one gs = (v : V) × OfferForm Says gs v

  pub one_2 : (f₀ : List ℕ) (v₀ : V) → Says f₀ v₀ → (fs : List (List ℕ)) (k : ℕ) → (k ≡ 2) × Wrong Says fs → FaultAt (OfferForm Says) fs k
  one_2 f₀ v₀ some fs k wrong =
      (0, omega (arith, wrong.0), no_value Says one fs (f₀ ∷ [], (v₀, (f₀, refl, some))) (λ ws l. (l.1.0, l.0, [], l.1.2, l.1.1)) wrong.1)

  pub one_3 : (fs rest : List (List ℕ)) (f : List ℕ) (v : V) (k : ℕ) → Says f v → fs ≡ f ∷ rest → (k ≡ 3) × (rest ≡ [] → ⊥) → FaultAt (OfferForm Says) fs k
  one_3 fs rest f v k p is more =
      (1, omega (arith, more.0), step one f fs rest 0 is (surplus (λ ws. one (f ∷ ws)) rest (v, (f, refl, p)) (λ ws l. let e = l.1.1 in cc) more.1))

-- ---- `plans`
abbrev plans : List (List ℕ) → Type 0
plans gs = (a : ℕ × Plan) × PlansForm gs a

pub plans_2 : (fs : List (List ℕ)) (k : ℕ) → (k ≡ 2) × Wrong Number fs → FaultAt PlansForm fs k
plans_2 fs k wrong =
    (0, omega (arith, wrong.0), no_value Number plans fs (numeral 0 ∷ numeral 0 ∷ [], ((0, plan_0), (numeral 0, numeral 0, refl, some_number, some_plan))) (λ ws l. (l.1.0, l.0.0, l.1.1 ∷ [], l.1.3, l.1.2)) wrong.1)

pub plans_3 : (fs gs : List (List ℕ)) (f : List ℕ) (h k : ℕ) → Number f h → fs ≡ f ∷ gs → (k ≡ 3) × Wrong PlanText gs → FaultAt PlansForm fs k
plans_3 fs gs f h k p is wrong = (
  1,
  omega (arith, wrong.0),
  step plans f fs gs 0 is
      (no_value PlanText (λ ws. plans (f ∷ ws)) gs (numeral 0 ∷ [], ((h, plan_0), (f, numeral 0, refl, p, some_plan)))
      (λ ws l. let e = l.1.2 in (l.1.1, l.0.1, [], l.1.4, cc)) wrong.1),
)

pub plans_4 : (fs gs hs : List (List ℕ)) (f g : List ℕ) (h k : ℕ) (x : Plan) → Number f h → fs ≡ f ∷ gs → PlanText g x → gs ≡ g ∷ hs → (k ≡ 4) × (hs ≡ [] → ⊥) → FaultAt PlansForm fs k
plans_4 fs gs hs f g h k x p is q then more = (
  2,
  omega (arith, more.0),
  step plans f fs gs 1 is
      (step (λ ws. plans (f ∷ ws)) g gs hs 0 then
      (surplus (λ ws. plans (f ∷ g ∷ ws)) hs ((h, x), (f, g, refl, p, q)) (λ ws l. let e = l.1.2 in cc) more.1)),
)

-- ---- `board`
abbrev board : List (List ℕ) → Type 0
board gs = (a : ℕ × ℕ × Grant) × BoardForm gs a

pub board_2 : (fs : List (List ℕ)) (k : ℕ) → (k ≡ 2) × Wrong Number fs → FaultAt BoardForm fs k
board_2 fs k wrong = (
  0,
  omega (arith, wrong.0),
  no_value Number board fs (numeral 0 ∷ numeral 0 ∷ grant_text grant_0 ∷ [], ((0, 0, grant_0), (numeral 0, numeral 0, grant_text grant_0, refl, some_number, some_number, some_grant)))
      (λ ws l. (l.1.0, l.0.0, l.1.1 ∷ l.1.2 ∷ [], l.1.4, l.1.3)) wrong.1,
)

pub board_3 : (fs gs : List (List ℕ)) (f : List ℕ) (b k : ℕ) → Number f b → fs ≡ f ∷ gs → (k ≡ 3) × Wrong Number gs → FaultAt BoardForm fs k
board_3 fs gs f b k p is wrong = (
  1,
  omega (arith, wrong.0),
  step board f fs gs 0 is
      (no_value Number (λ ws. board (f ∷ ws)) gs (numeral 0 ∷ grant_text grant_0 ∷ [], ((b, 0, grant_0), (f, numeral 0, grant_text grant_0, refl, p, some_number, some_grant)))
      (λ ws l. let e = l.1.3 in (l.1.1, l.0.1, l.1.2 ∷ [], l.1.5, cc)) wrong.1),
)

pub board_4 : (fs gs hs : List (List ℕ)) (f g : List ℕ) (b n k : ℕ) → Number f b → fs ≡ f ∷ gs → Number g n → gs ≡ g ∷ hs → (k ≡ 4) × Wrong GrantText hs → FaultAt BoardForm fs k
board_4 fs gs hs f g b n k p is q then wrong = (
  2,
  omega (arith, wrong.0),
  step board f fs gs 1 is
      (step (λ ws. board (f ∷ ws)) g gs hs 0 then
      (no_value GrantText (λ ws. board (f ∷ g ∷ ws)) hs (grant_text grant_0 ∷ [], ((b, n, grant_0), (f, g, grant_text grant_0, refl, p, q, some_grant)))
      (λ ws l. let e = l.1.3 in (l.1.2, l.0.2, [], l.1.6, cc)) wrong.1)),
)

pub board_5 : (fs gs hs is : List (List ℕ)) (f g h : List ℕ) (b n k : ℕ) (x : Grant) → Number f b → fs ≡ f ∷ gs → Number g n → gs ≡ g ∷ hs → GrantText h x → hs ≡ h ∷ is → (k ≡ 5) × (is ≡ [] → ⊥) → FaultAt BoardForm fs k
board_5 fs gs hs is f g h b n k x p first q then r last more = (
  3,
  omega (arith, more.0),
  step board f fs gs 2 first
      (step (λ ws. board (f ∷ ws)) g gs hs 1 then
      (step (λ ws. board (f ∷ g ∷ ws)) h hs is 0 last
      (surplus (λ ws. board (f ∷ g ∷ h ∷ ws)) is ((b, n, x), (f, g, h, refl, p, q, r)) (λ ws l. let e = l.1.3 in cc) more.1))),
)
