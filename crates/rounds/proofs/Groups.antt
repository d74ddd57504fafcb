-- Who belongs to the group of a value, and to what lies outside it.
use Rattle.std.proofs.Common.{◌≡◌, ℕ, zero, suc, ◌+◌, ◌-◌, ◌*◌, ◌/◌, ◌%◌, ◌^◌, ◌<◌, Bool, true, false, cond, [], ◌∷◌, length, Some, None, sym, refl, ap, ◌∙◌, inl, inr, pow-suc, arith}
use Rattle.std.proofs.lemmas.Bool.{false≢true, cases_eq}
use Rattle.structure.specs.Groups.{◌∈◌, everyone}
use Rattle.structure.proofs.Bits.{none_in, in_half, half_in, in_odd, odd_in}
use Rattle.duty.specs.Codes.{Code}
use Rattle.rounds.specs.Rows.{Word, Row, word_at, heard_word, heard, says, group}
use Rattle.rounds.proofs.Words.{says_self, says_true}

abbrev digit : Bool → ℕ
digit b = cond b 1 0

low : (b : Bool) (g : ℕ) → (digit b + 2 * g) % 2 ≡ digit b
low true g = omega arith
low false g = omega arith

high : (b : Bool) (g : ℕ) → (digit b + 2 * g) / 2 ≡ g
high true g = omega arith
high false g = omega arith

small : (b : Bool) → digit b < 2
small true = omega arith
small false = omega arith

digit_true : (b : Bool) → digit b ≡ 1 → b ≡ true
digit_true true h = refl
digit_true false h = absurd (omega arith)

-- ---- the group of a value
pub group_below : (v : Code) (row : Row) → group v row < 2 ^ length row
group_below v [] = omega arith
group_below v (w ∷ ws) = omega (arith, group_below v ws, small (says v w), pow-suc 2 (length ws))

-- who belongs to it is who says the value
pub in_group : (v : Code) (row : Row) (i : ℕ) → i ∈ group v row → word_at row i ≡ Some v
in_group v [] i h = absurd (none_in i h)
in_group v (w ∷ ws) zero h = says_true v w (digit_true (says v w) (sym (low (says v w) (group v ws)) ∙ in_odd (group v (w ∷ ws)) h))
in_group v (w ∷ ws) (suc i) h = in_group v ws i (rw (high (says v w) (group v ws)) at (in_half i (group v (w ∷ ws)) h))

pub group_in : (v : Code) (row : Row) (i : ℕ) → word_at row i ≡ Some v → i ∈ group v row
group_in v [] i h = absurd (let z : ◌≡◌ {A = ℕ} 0 1 = cc in omega arith)
group_in v (w ∷ ws) zero h = odd_in (group v (w ∷ ws)) (low (says v w) (group v ws) ∙ ap digit (says_self v w h))
group_in v (w ∷ ws) (suc i) h = half_in i (group v (w ∷ ws)) (rw (high (says v w) (group v ws)) (group_in v ws i h))

-- a value that fits has the same group in the row as it came
pub group_heard : (fits : Code → Bool) (v : Code) (row : Row) → fits v ≡ true → group v (heard fits row) ≡ group v row
group_heard fits v [] f = refl
group_heard fits v (w ∷ ws) f = let rest = group_heard fits v ws f in let here = ap digit (says_heard w) in omega arith
  where
    by : (w : Code) (b : Bool) → fits w ≡ b → says v (cond b (Some w) None) ≡ says v (Some w)
    by w true e = refl
    by w false e = go (says v (Some w)) refl
      where
        go : (t : Bool) → says v (Some w) ≡ t → false ≡ t
        go true s = let k = says_true v (Some w) s in let u : w ≡ v = cc in absurd (false≢true (sym e ∙ ap fits u ∙ f))
        go false s = refl

    says_heard : (w : Word) → says v (heard_word fits w) ≡ says v w
    says_heard None = refl
    says_heard (Some w) = by w (fits w) refl

-- ---- what lies outside a group
half_outside : (n g : ℕ) → g < 2 ^ suc n → (everyone (suc n) - g) / 2 ≡ everyone n - g / 2
half_outside n g h = omega (arith, pow-suc 2 n)

low_outside : (n g : ℕ) → g < 2 ^ suc n → (everyone (suc n) - g) % 2 + g % 2 ≡ 1
low_outside n g h = omega (arith, pow-suc 2 n)

pub outside_not : (n g i : ℕ) → g < 2 ^ n → i < n → i ∈ everyone n - g → i ∈ g → ⊥
outside_not zero g i h k a b = omega arith
outside_not (suc n) g zero h k a b = omega (arith, low_outside n g h, in_odd (everyone (suc n) - g) a, in_odd g b)
outside_not (suc n) g (suc i) h k a b =
    outside_not n (g / 2) i (omega (arith, pow-suc 2 n)) (omega arith) (rw (half_outside n g h) at (in_half i (everyone (suc n) - g) a)) (in_half i g b)

pub not_outside : (n g i : ℕ) → g < 2 ^ n → i < n → (i ∈ g → ⊥) → i ∈ everyone n - g
not_outside zero g i h k f = absurd (omega arith)
not_outside (suc n) g zero h k f = odd_in (everyone (suc n) - g) (omega (arith, low_outside n g h, odd))
  where
    odd : g % 2 ≡ 0
    odd = elim (cases_eq (g % 2) 1) [ inl e ↦ absurd (f (odd_in g e)) | inr ne ↦ omega arith ]
not_outside (suc n) g (suc i) h k f =
    half_in i (everyone (suc n) - g) (rw (half_outside n g h) (not_outside n (g / 2) i (omega (arith, pow-suc 2 n)) (omega arith) (λ m. f (half_in i g m))))
