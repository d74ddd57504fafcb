-- Counting the leads of a list.
use Rattle.std.proofs.Common.{◌≡◌, ◌+◌, ◌-◌, ◌≤◌, ℕ, zero, suc, List, length, is_some, arith, inl, inr}
use Rattle.std.specs.List.{slice_get, prefix_len, range_with_len}
use Rattle.std.proofs.lemmas.Option.{slice_get_cases}

-- as many places in a row have a lead as there are leads from place i on
pub counted : (xs : List ℕ) (i n : ℕ) → length xs ≤ i + n → prefix_len (λ place. is_some (slice_get xs place)) (range_with_len i n) ≡ length xs - i
counted xs i zero h = omega arith
counted xs i (suc n) h = elim (slice_get_cases xs i).1 [
  | inl w ↦ rw w.2 (omega (arith, counted xs (i + 1) n (omega arith), w.1))
  | inr w ↦ rw w.1 (omega (arith, w.0))
]
