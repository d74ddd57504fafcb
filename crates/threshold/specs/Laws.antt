-- The threshold structure keeps the four laws.
use Rattle.std.specs.Prelude.{◌≡◌, ℕ, zero, suc, ◌+◌, ◌-◌, ◌*◌, ◌/◌, ◌%◌, ◌^◌, ◌<◌, ◌≤◌, true, [], ◌∷◌, length, slice_index, refl}
use Rattle.std.proofs.Common.{sym, subst, ◌∙◌, inl, inr, arith}
use Rattle.std.proofs.lemmas.Nat.{mod_below}
use Rattle.std.proofs.lemmas.List.{length_push, get_or_push, get_or_append_left}
use Rattle.std.proofs.lemmas.Bool.{cases_lt, cases_eq, leb-true, le-leb}
use Rattle.structure.specs.Groups.{◌∈◌, count, Shares}
use Rattle.structure.specs.Meanings.{Laws}
use Rattle.structure.proofs.Members.{count_everyone, count_part, count_some}
use Rattle.threshold.specs.Thresholds.{first, threshold}

-- ---- the controllers 0 to k - 1
pub first_length : (k : ℕ) → length (first k) ≡ k
first_length zero = refl
first_length (suc k) = omega (arith, length_push (first k) k, first_length k)

pub first_at : (k j : ℕ) → j < k → slice_index (first k) j ≡ j
first_at zero j h = absurd (omega arith)
first_at (suc k) j h = let e = first_length k in elim (cases_eq j k) [
  | inl z ↦ get_or_push (first k) k 0 j (e ∙ sym z) ∙ sym z
  | inr ne ↦ get_or_append_left (first k) (k ∷ []) 0 j (omega arith) ∙ first_at k j (omega arith)
]

-- ---- groups by their number of controllers
-- three groups with more than 2 × n controllers between them share one
three_share : (n a b c : ℕ) → 2 * n < count n a + count n b + count n c → Shares n a b c
three_share zero a b c h = absurd (omega arith)
three_share (suc n) a b c h = elim (cases_lt 2 (a / 2 ^ n % 2 + b / 2 ^ n % 2 + c / 2 ^ n % 2)) [
  | inl more ↦
      let x = mod_below (a / 2 ^ n) 2 (omega arith) in
      let y = mod_below (b / 2 ^ n) 2 (omega arith) in
      let z = mod_below (c / 2 ^ n) 2 (omega arith) in
      (n, omega arith, omega arith, omega arith, omega arith)
  | inr few ↦ let (i, l, x, y, z) = three_share n a b c (omega arith) in (i, omega arith, x, y, z)
]

-- a group that lacks fewer than k controllers has one of the first k
one_of_first : (n k g : ℕ) → n < k + count n g → k ≤ n → (i : ℕ) × (i < k) × (i ∈ g)
one_of_first zero k g h l = absurd (omega arith)
one_of_first (suc n) k g h l = elim (cases_lt n k) [
  | inl last ↦ let (i, m, x) = count_some (suc n) g (omega arith) in (i, omega arith, x)
  | inr past ↦ one_of_first n k g (omega (arith, mod_below (g / 2 ^ n) 2 (omega arith))) past
]

module _ (n t : ℕ) (high : n ≤ 16) (third : 3 * t < n) where
  enough_count : (g : ℕ) → (threshold n t).enough g ≡ true → n ≤ count n g + t
  enough_count g e = omega (arith, leb-true (n - t) (count n g) e)

  pub threshold_lawful : Laws (threshold n t)
  threshold_lawful = let len = first_length (suc t) in record {
    size_low = omega arith;
    size_high = high;
    all = le-leb (n - t) (count n (2 ^ n - 1)) (omega (arith, count_everyone n));
    more = λ a b w e. le-leb (n - t) (count n b) (omega (arith, count_part n a b w, enough_count a e));
    share = λ a b c x y z. three_share n a b c (omega (arith, enough_count a x, enough_count b y, enough_count c z));
    leads_some = omega arith;
    leads_few = omega arith;
    leads_inside = λ j h. omega (arith, first_at (suc t) j (omega arith));
    leads_differ = λ j k hj hk e. sym (first_at (suc t) j (omega arith)) ∙ e ∙ first_at (suc t) k (omega arith);
    leads_meet = λ g e.
        let (i, l, x) = one_of_first n (suc t) g (omega (arith, enough_count g e)) (omega arith) in
        (i, omega arith, subst (λ v. v ∈ g) (sym (first_at (suc t) i l)) x);
  }
