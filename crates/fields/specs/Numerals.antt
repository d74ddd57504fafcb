-- Numerals, a digit at a time.
use Rattle.std.specs.Prelude.{◌≡◌, ℕ, ◌+◌, ◌-◌, ◌*◌, ◌^◌, ◌<◌, ◌≤◌, ◌⊎◌, List, [], ◌∷◌, length, Some, None, decimal, Option, slice_index, refl}
use Rattle.std.proofs.Common.{sym, ap, subst, ◌∙◌, inl, inr, ⊎_elim, arith, ltb-true, ltb-false, leb-true, leb-false, eqb-true}
use Rattle.std.specs.Str.Parse.{AllDigits, digits_value, digits_value_after}
use Rattle.std.specs.Char.{digit_value}
use Rattle.std.specs.Int.{IsInRange}
use Rattle.std.specs.List.{between}
use Rattle.std.proofs.lemmas.Fmt.{decimal_digit, decimal_is_IsNumeral, decimal-digits_value, first_decimal, decimal_injective}
use Rattle.std.proofs.lemmas.List.{nil_from_length}
use Rattle.std.proofs.lemmas.Str.Parse.{digit_at, digit_from_value, numerals_by_value, tells_digits}
use Rattle.std.proofs.lemmas.Slice.{first_rest}
use Rattle.std.proofs.lemmas.Bool.{cases_lt, eqb-false}
use Rattle.std.proofs.lemmas.Bool.Decides.{nat_tests}
use Rattle.fields.specs.Numbers.{Number, Continues}
use Rattle.fields.specs.Reading.{Reads, SaysOne}

-- what a test of the code tells, for omega
pub ruleset facts = (arith, ltb-true, ltb-false, leb-true, leb-false, eqb-true, eqb-false)

value_of_digit : (b : ℕ) → IsInRange 48 57 b → digit_value b ≡ b - 48
value_of_digit b h = grind (arith, nat_tests)

after_ge : (n : ℕ) (bs : List ℕ) → n ≤ digits_value_after 10 n bs
after_ge n [] = omega arith
after_ge n (b ∷ bs) = omega (arith, after_ge (n * 10 + digit_value b) bs)

-- the end of the digits
pub at_end : (n : ℕ) (bs : List ℕ) → length bs ≡ 0 → n < 100000 → Continues n bs n
at_end n [] e h = (tt, refl, h)
at_end n (b ∷ bs) e h = absurd (omega arith)

-- one more digit
pub one_more : (n d : ℕ) (bs : List ℕ) (r : Option ℕ) → 0 < length bs → IsInRange 48 57 (slice_index bs 0) → d ≡ slice_index bs 0 - 48 → Reads (Continues (n * 10 + d)) (between 1 (length bs) bs) r → Reads (Continues n) bs r
one_more n d bs r some i is h = subst (λ l. Reads (Continues n) l r) (sym (first_rest bs 0 some)) (go r h)
  where
    same : digit_value (slice_index bs 0) ≡ d
    same = value_of_digit (slice_index bs 0) i ∙ sym is

    go : (r : Option ℕ) → Reads (Continues (n * 10 + d)) (between 1 (length bs) bs) r → Reads (Continues n) (slice_index bs 0 ∷ between 1 (length bs) bs) r
    go None f = λ m k. f m (k.0.1, k.1 ∙ ap (λ e. digits_value_after 10 (n * 10 + e) (between 1 (length bs) bs)) same, k.2)
    go (Some m) k = ((omega (arith, same), k.0), k.1 ∙ ap (λ e. digits_value_after 10 (n * 10 + e) (between 1 (length bs) bs)) (sym same), k.2)

-- no digit, or one too many
pub stops : (n : ℕ) (bs : List ℕ) → 0 < length bs → (IsInRange 48 57 (slice_index bs 0) → 10000 ≤ n) → (m : ℕ) → Continues n bs m → ⊥
stops n [] some fails m k = omega arith
stops n (b ∷ bs) some fails m k =
    let large : 10000 ≤ n = fails (digit_from_value b k.0.0) in
    omega (arith, after_ge (n * 10 + digit_value b) bs, k.1, k.2)

-- a numeral's first byte, and its length
pub first : (field : List ℕ) (n : ℕ) → Number field n → (0 < length field) × IsInRange 48 57 (slice_index field 0) × ((48 < slice_index field 0) ⊎ (length field ≡ 1))
first field n h = subst (λ l. (0 < length l) × IsInRange 48 57 (slice_index l 0) × ((48 < slice_index l 0) ⊎ (length l ≡ 1))) (sym h.1) of_numeral
  where
    reads : ((0 < length (decimal n)) × AllDigits 10 (decimal n)) × (digits_value 10 (decimal n) ≡ n)
    reads = decimal_is_IsNumeral n (omega (arith, h.0))

    of_numeral : (0 < length (decimal n)) × IsInRange 48 57 (slice_index (decimal n) 0) × ((48 < slice_index (decimal n) 0) ⊎ (length (decimal n) ≡ 1))
    of_numeral = (
      reads.0.0,
      digit_at (decimal n) 0 reads.0.1 reads.0.0,
      ⊎_elim
          (λ more. inl (first_decimal n more (omega (arith, h.0))))
          (λ none. inr (ap length (decimal_digit n (omega arith))))
          (cases_lt 0 n),
    )

pub zero : (field : List ℕ) → length field ≡ 1 → slice_index field 0 ≡ 48 → Number field 0
zero [] e f = absurd (omega arith)
zero (b ∷ bs) e f = (omega arith, ap (λ x. x ∷ bs) f ∙ ap (λ l. 48 ∷ l) (nil_from_length bs (omega arith)) ∙ sym (decimal_digit 0 (omega arith)))

-- what is read on from nothing, where the first digit is not zero
pub from_nothing : (field : List ℕ) (r : Option ℕ) → 0 < length field → 48 < slice_index field 0 → Reads (Continues 0) field r → Reads Number field r
from_nothing field None some more f = λ n h. let e = decimal_is_IsNumeral n (omega (arith, h.0)) in f n (subst (AllDigits 10) (sym h.1) e.0.1, sym e.1 ∙ ap (digits_value 10) (sym h.1), h.0)
from_nothing field (Some n) some more k =
    let small : digits_value 10 field < 2 ^ 64 = omega (arith, k.1, k.2) in
    (k.2, sym (decimal-digits_value (numerals_by_value (AllDigits 10) tells_digits) field k.0 some (λ e. absurd (omega arith)) small) ∙ ap decimal (sym k.1))

-- a field is the numeral of one number only
pub one_number : SaysOne Number
one_number f m n p q = decimal_injective m n (omega (arith, p.0)) (omega (arith, q.0)) (sym p.1 ∙ q.1)
