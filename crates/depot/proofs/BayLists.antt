-- Lists of bays: their amps, summed or with one replaced.
use Rattle.std.proofs.Common.{◌≡◌, ℕ, zero, suc, ◌+◌, ◌<◌, ◌≤◌, List, ◌∷◌, length, length-set, get_or, take, set, replicate, sum, sym, refl, ap, ◌∙◌}
use Rattle.std.proofs.lemmas.List.{get_or-map, length-map, length-replicate, map-set, take-replicate}
use Rattle.std.proofs.lemmas.List.Sums.{sum_by-cons, sum_by-set, get_or-le-sum_by}
use Rattle.depot.specs.declared.bays.Bay.{Bay}
use Rattle.depot.specs.Bays.{amps_of}

abbrev amps : Bay → ℕ
amps bay = bay.amps

pub sum_zeros : (n : ℕ) → sum (replicate n 0) ≡ 0
sum_zeros zero = refl
sum_zeros (suc n) = sum_by-cons (λ x. x) 0 (replicate n 0) ∙ ap (λ t. 0 + t) (sum_zeros n)

zeros : (n : ℕ) → amps_of (replicate n (record { amps = 0 })) ≡ replicate n 0
zeros zero = refl
zeros (suc n) = ap (λ rest. 0 ∷ rest) (zeros n)

-- the bays of a new board
pub amps_new : (n : ℕ) (bays : List Bay) → n ≤ 64 → bays ≡ take n (replicate 64 (record { amps = 0 })) → (length bays ≡ n) × (amps_of bays ≡ replicate n 0)
amps_new n bays few new =
    let same = new ∙ take-replicate n 64 (record { amps = 0 }) few in
    (ap length same ∙ length-replicate n (record { amps = 0 }), ap amps_of same ∙ zeros n)

-- the bays once one of them has other amps
pub amps_set : (bays after : List Bay) (i y : ℕ) → after ≡ set bays i (record { amps = y }) → (length after ≡ length bays) × (amps_of after ≡ set (amps_of bays) i y)
amps_set bays after i y is = (ap length is ∙ length-set bays i (record { amps = y }), ap amps_of is ∙ map-set amps bays i (record { amps = y }))

module _ (bays : List Bay) (i : ℕ) (d : Bay) (inside : i < length bays) where
  here : i < length (amps_of bays)
  here = rw (length-map bays amps) inside

  -- the sum with the amps of one bay replaced
  pub sum_set : (y : ℕ) → sum (set (amps_of bays) i y) + (get_or bays i d).amps ≡ sum (amps_of bays) + y
  sum_set y = ap (λ t. sum (set (amps_of bays) i y) + t) (sym (get_or-map amps bays i d 0 inside)) ∙ sum_by-set (λ x. x) (amps_of bays) i y 0 here

  -- no bay has more than the sum
  pub amps_le_sum : (get_or bays i d).amps ≤ sum (amps_of bays)
  amps_le_sum = rw (sym (get_or-map amps bays i d 0 inside)) (get_or-le-sum_by (λ x. x) (amps_of bays) i 0 here)
