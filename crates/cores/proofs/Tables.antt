-- A wiring whose sets share controllers by threes means a structure that keeps the four laws.
use Rattle.std.proofs.Common.{◌≡◌, ℕ, ◌<◌, true, List, length, get_or, sym, subst, arith}
use Rattle.structure.specs.Groups.{◌∈◌, everyone, Shares}
use Rattle.structure.specs.Meanings.{Laws}
use Rattle.structure.proofs.Bits.{everyone_has}
use Rattle.structure.proofs.Members.{members_few, members_are, members_differ, member_listed}
use Rattle.cores.specs.Sharing.{ThreesShare}
use Rattle.cores.specs.Leads.{leading_core, table, Wiring}
use Rattle.cores.proofs.Leads.{leading_leads}
use Rattle.cores.proofs.Tests.{contains_decides}

module _ (n : ℕ) (sets : List ℕ) (wiring : Wiring n sets) (threes : ThreesShare n sets) where
  abbrev enough_all : (table n sets).enough (everyone n) ≡ true
  enough_all = (contains_decides n sets (everyone n)).1 (0, wiring.some, λ i h _. everyone_has n i h)

  met : (g : ℕ) → (table n sets).enough g ≡ true → (j : ℕ) × (j < length (table n sets).leads) × (get_or (table n sets).leads j 0 ∈ g)
  met g e =
      let (j, l, within) = (contains_decides n sets g).0 e in
      let (i, h, x, y) = (leading_leads n sets wiring).core.meets_all j l in
      let (k, u, z) = member_listed n (leading_core n sets) i h y in
      (k, u, subst (λ v. v ∈ g) (sym z) (within i h x))

  shared : (a b c : ℕ) → (table n sets).enough a ≡ true → (table n sets).enough b ≡ true → (table n sets).enough c ≡ true → Shares n a b c
  shared a b c ea eb ec =
      let (j, lj, in-a) = (contains_decides n sets a).0 ea in
      let (k, lk, in_b) = (contains_decides n sets b).0 eb in
      let (m, lm, in_c) = (contains_decides n sets c).0 ec in
      let (i, h, x, y, z) = threes j k m lj lk lm in
      (i, h, in-a i h x, in_b i h y, in_c i h z)

  pub table_lawful : Laws (table n sets)
  table_lawful = record {
    size_low = wiring.low;
    size_high = wiring.high;
    all = enough_all;
    more = λ a b w e. let (j, l, within) = (contains_decides n sets a).0 e in (contains_decides n sets b).1 (j, l, λ i h m. w i h (within i h m));
    share = shared;
    leads_some = let (j, l, _) = met (everyone n) enough_all in omega arith;
    leads_few = members_few n (leading_core n sets);
    leads_inside = λ j h. (members_are n (leading_core n sets) j h).0;
    leads_differ = members_differ n (leading_core n sets);
    leads_meet = met;
  }
