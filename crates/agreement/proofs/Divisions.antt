-- Slots and rounds of a count of rows: n is r rows into slot j, where a slot has R rows.
use Rattle.std.proofs.Common.{◌≡◌, ℕ, suc, ◌+◌, ◌*◌, ◌/◌, ◌%◌, ◌<◌, ◌≤◌, ap, ◌∙◌, arith}
use Rattle.std.proofs.lemmas.Nat.{div-add-mod', mod_below, div-mul-add, mod-mul-add, le-div, mul-le}

module _ (R : ℕ) (some : 0 < R) where
  pub split : (n : ℕ) → n / R * R + n % R ≡ n
  split n = div-add-mod' n R

  pub below : (n : ℕ) → n % R < R
  below n = mod_below n R some

  -- a row within the slot
  pub inside : (j r : ℕ) → r < R → ((j * R + r) / R ≡ j) × ((j * R + r) % R ≡ r)
  inside j r l = (div-mul-add j R r l, mod-mul-add j R r l)

  -- one row more, which is not the slot's last
  pub more : (n : ℕ) → suc (n % R) < R → (suc n / R ≡ n / R) × (suc n % R ≡ suc (n % R))
  more n l =
      let e : suc n ≡ n / R * R + suc (n % R) = omega (arith, split n) in
      let (d, m) = inside (n / R) (suc (n % R)) l in
      (ap (λ x. x / R) e ∙ d, ap (λ x. x % R) e ∙ m)

  -- the slot's last row
  pub last : (n : ℕ) → suc (n % R) ≡ R → (suc n ≡ suc (n / R) * R) × (suc n / R ≡ suc (n / R)) × (suc n % R ≡ 0)
  last n e =
      let f : suc n ≡ suc (n / R) * R + 0 = omega (arith, split n) in
      let (d, m) = inside (suc (n / R)) 0 some in
      (omega arith, ap (λ x. x / R) f ∙ d, ap (λ x. x % R) f ∙ m)

  -- whole slots
  pub whole_slots : (j n : ℕ) → j * R ≤ n → j ≤ n / R
  whole_slots j n l = le-div j n R some l

  pub slots_within : (j n : ℕ) → j ≤ n / R → j * R ≤ n
  slots_within j n l = let m = mul-le j R (n / R) R l (omega arith) in omega (arith, split n)
