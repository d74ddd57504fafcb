-- What a field can be read as.
use Rattle.std.specs.Prelude.{◌≡◌, ℕ, ◌<◌, List, ◌∷◌, ◌++◌, length, Some, None, codes, Option, refl}
use Rattle.std.proofs.Common.{sym, ap, subst, ◌∙◌, arith, length-append}
use Rattle.std.specs.Borrow.{Bor}
use Rattle.std.specs.Str.Parse.{AllDigits}
use Rattle.std.proofs.lemmas.Fmt.{decimal_is_IsNumeral}
use Rattle.std.proofs.lemmas.Str.Parse.{not_in_digits, numerals_by_value, tells_digits}
use Rattle.fields.specs.Fields.{Lacks, Cut}
use Rattle.fields.specs.Numbers.{numeral, Number}
use Rattle.fields.specs.Reading.{SaysOne}
use Rattle.fields.specs.Values.{PlanText, GrantText, grant_text}
use Rattle.depot.specs.declared.values.Grant.{Grant}
use Rattle.depot.specs.declared.values.Plan.{Plan}
use Rattle.fields.specs.Parting.{same_cut, not_lacks}
use Rattle.fields.specs.Numerals.{one_number, first}

-- a numeral has no byte but digits
pub numeral_lacks : (mark n : ℕ) → n < 100000 → mark < 48 → Lacks mark (numeral n)
numeral_lacks mark n h low = not_in_digits (numerals_by_value (AllDigits 10) tells_digits) (numeral n) mark (decimal_is_IsNumeral n (omega arith)).0.1 (λ i. omega arith)

-- a grant's field is cut at its slash
pub grant_parts : (field front rest : List ℕ) (g : Grant) → Lacks 47 front → field ≡ front ++ (47 ∷ rest) → GrantText field g → Number front g.bay × Number rest g.amps
grant_parts field front rest g l e w =
    let same = same_cut 47 front (numeral g.bay) rest (numeral g.amps) l (numeral_lacks 47 g.bay w.0 (omega arith)) (sym e ∙ w.2) in
    ((w.0, same.0), (w.1, same.1))

-- and has one
pub grant_slash : (field : List ℕ) (g : Grant) → Lacks 47 field → GrantText field g → ⊥
grant_slash field g l w = not_lacks 47 field _ _ l w.2

-- so of what is cut, the front says the bay and the rest the amps, and there is a rest
module _ (field front : List ℕ) (rest : Option (Bor (List ℕ))) (g : Grant) (c : Cut 47 field front rest) (w : GrantText field g) where
  pub grant_rest : rest ≡ None → ⊥
  grant_rest e = let k = subst (Cut 47 field front) e c in grant_slash field g (subst (Lacks 47) (sym k.1) k.0) w

  pub grant_amps : (r : Bor (List ℕ)) → rest ≡ Some r → Number r.now g.amps
  grant_amps r e = let k = subst (Cut 47 field front) e c in (grant_parts field front r.now g k.0 k.1 w).1

  pub grant_bay : Number front g.bay
  grant_bay = at rest refl
    where
      at : (r : Option (Bor (List ℕ))) → rest ≡ r → Number front g.bay
      at None e = absurd (grant_rest e)
      at (Some r) e = let k = subst (Cut 47 field front) e c in (grant_parts field front r.now g k.0 k.1 w).0

-- a field says one plan at most
pub one_plan : SaysOne PlanText
one_plan f p q a b = let e : p.0 ≡ q.0 = one_number f p.0 q.0 a b in ap (λ n. record { 0 = n }) e

-- and one grant at most
pub one_grant : SaysOne GrantText
one_grant f g h by_g by_h =
    let same = same_cut 47 (numeral g.bay) (numeral h.bay) (numeral g.amps) (numeral h.amps) (numeral_lacks 47 g.bay by_g.0 (omega arith)) (numeral_lacks 47 h.bay by_h.0 (omega arith)) (sym by_g.2 ∙ by_h.2) in
    let bays : g.bay ≡ h.bay = one_number (numeral g.bay) g.bay h.bay (by_g.0, refl) (by_h.0, same.0) in
    let amps : g.amps ≡ h.amps = one_number (numeral g.amps) g.amps h.amps (by_g.1, refl) (by_h.1, same.1) in
    ap (λ x. record { bay = x; amps = g.amps }) bays ∙ ap (λ x. record { bay = h.bay; amps = x }) amps

-- a number's field is not empty, nor a plan's
pub some_number : (f : List ℕ) (n : ℕ) → Number f n → 0 < length f
some_number f n h = (first f n h).0

pub some_plan : (f : List ℕ) (p : Plan) → PlanText f p → 0 < length f
some_plan f p h = some_number f p.0 h

-- nor a grant's
pub some_grant : (f : List ℕ) (g : Grant) → GrantText f g → 0 < length f
some_grant f g h = omega (arith, ap length h.2, length-append (numeral g.bay) (47 ∷ numeral g.amps))

-- a number's field and a plan's are not `-`: they begin with a digit
pub no_dash_number : (n : ℕ) → Number (codes "-") n → ⊥
no_dash_number n h = let f = first (codes "-") n h in omega (arith, f.1)

pub no_dash_plan : (p : Plan) → PlanText (codes "-") p → ⊥
no_dash_plan p h = no_dash_number p.0 h

-- nor is a grant's: it has a numeral, a slash and a numeral
pub no_dash_grant : (g : Grant) → GrantText (codes "-") g → ⊥
no_dash_grant g h =
    let bay = (first (numeral g.bay) g.bay (h.0, refl)).0 in
    let amps = (first (numeral g.amps) g.amps (h.1, refl)).0 in
    omega (arith, bay, amps, ap length h.2, length-append (numeral g.bay) (47 ∷ numeral g.amps))

-- some field says 0, plan 0, and a grant of 0 amps to bay 0
pub zero_number : Number (numeral 0) 0
zero_number = (omega arith, refl)

pub zero_plan : PlanText (numeral 0) (record { 0 = 0 })
zero_plan = zero_number

pub zero_grant : GrantText (grant_text (record { bay = 0; amps = 0 })) (record { bay = 0; amps = 0 })
zero_grant = (omega arith, omega arith, refl)
