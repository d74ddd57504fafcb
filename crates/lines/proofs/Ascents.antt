-- Rising numbers, one after another, and the group of the controllers that they name.
use Rattle.std.proofs.Common.{◌≡◌, ℕ, zero, suc, ◌+◌, ◌/◌, ◌^◌, ◌<◌, ◌≤◌, Bool, true, false, cond, ltb, ◌⊎◌, List, [], ◌∷◌, ◌++◌, length, Some, None, Option, sym, refl, ap, ◌∙◌, subst, inl, inr, ⊎_elim, append_assoc, append-nil, pow-suc, add-one, arith, length-append, pow_mono, ltb-false, ltb-true}
use lib.Bits.{bit_or, or_shifted_r}
use Rattle.structure.specs.Groups.{◌∈◌}
use Rattle.structure.proofs.Bits.{none_in, in_half, half_in, in_odd, odd_in}
use Rattle.fields.specs.Numbers.{Number}
use Rattle.fields.specs.Numerals.{one_number}
use Rattle.lines.specs.Forms.{Departs, field_number}
use Rattle.lines.specs.Lines.{NumberFrom, Rises, Listed, Grouped, SetForm, with_controller}
use Rattle.lines.proofs.Departures.{here, after}
use Rattle.lines.proofs.FormFaults.{FaultAt}

-- the least that the next number may be
abbrev pub least : ℕ → List ℕ → ℕ
least low [] = low
least low (n ∷ ns) = least (suc n) ns

-- ---- the group so far: below 2 ^ low, where low is above all its controllers
abbrev pub Below : ℕ → Option ℕ → Type 0
Below low None = Unit {0}
Below low (Some g) = g < 2 ^ low

pub record Climbed (all : List (List ℕ)) (ns : List ℕ) (low : ℕ) (group : Option ℕ) (rest : List (List ℕ)) : Type 0 where
  pub done : List (List ℕ)
  pub split : all ≡ done ++ rest
  pub said : Rises 0 done ns
  pub next : low ≡ least 0 ns
  pub count : length ns ≡ length done
  pub below : Below low group
  pub grouped : Grouped ns group

pub started : (rest : List (List ℕ)) → Climbed rest [] 0 (Some 0) rest
started rest = record { done = []; split = refl; said = tt; next = refl; count = refl; below = omega arith; grouped = (omega arith, λ i. (none_in i, λ l. absurd l)) }

rise_push : (low : ℕ) (fs : List (List ℕ)) (ns : List ℕ) (f : List ℕ) (n : ℕ) → Rises low fs ns → Number f n → least low ns ≤ n → Rises low (fs ++ (f ∷ [])) (ns ++ (n ∷ []))
rise_push low [] [] f n r num le = ((num, le), tt)
rise_push low [] (m ∷ ns) f n r num le = absurd r
rise_push low (g ∷ fs) [] f n r num le = absurd r
rise_push low (g ∷ fs) (m ∷ ns) f n r num le = (r.0, rise_push (suc m) fs ns f n r.1 num le)

least_push : (low : ℕ) (ns : List ℕ) (n : ℕ) → least low (ns ++ (n ∷ [])) ≡ suc n
least_push low [] n = refl
least_push low (m ∷ ns) n = least_push (suc m) ns n

-- ---- one more controller
-- those of g and n, where g is below 2 ^ n
in_with : (n g i : ℕ) → g < 2 ^ n → i ∈ (g + 2 ^ n) → (i ∈ g) ⊎ (i ≡ n)
in_with zero g zero l p = inr refl
in_with zero g (suc i) l p = let e : (g + 2 ^ zero) / 2 ≡ 0 = omega arith in absurd (none_in i (subst (λ x. i ∈ x) e (in_half i (g + 2 ^ zero) p)))
in_with (suc n) g zero l p = inl (odd_in g (omega (arith, in_odd (g + 2 ^ suc n) p, pow-suc 2 n)))
in_with (suc n) g (suc i) l p =
    let e : (g + 2 ^ suc n) / 2 ≡ g / 2 + 2 ^ n = omega (arith, pow-suc 2 n) in
    ⊎_elim (λ m. inl (half_in i g m)) (λ is. inr (ap suc is)) (in_with n (g / 2) i (omega (arith, pow-suc 2 n)) (subst (λ x. i ∈ x) e (in_half i (g + 2 ^ suc n) p)))

with_in : (n g i : ℕ) → g < 2 ^ n → (i ∈ g) ⊎ (i ≡ n) → i ∈ (g + 2 ^ n)
with_in zero g zero l p = odd_in (g + 2 ^ zero) (omega arith)
with_in zero g (suc i) l (inl m) = let e : g ≡ 0 = omega arith in absurd (none_in (suc i) (subst (λ x. suc i ∈ x) e m))
with_in zero g (suc i) l (inr is) = absurd (omega arith)
with_in (suc n) g zero l (inl m) = odd_in (g + 2 ^ suc n) (omega (arith, in_odd g m, pow-suc 2 n))
with_in (suc n) g zero l (inr is) = absurd (omega arith)
with_in (suc n) g (suc i) l p =
    let e : g / 2 + 2 ^ n ≡ (g + 2 ^ suc n) / 2 = omega (arith, pow-suc 2 n) in
    half_in i (g + 2 ^ suc n) (subst (λ x. i ∈ x) e (with_in n (g / 2) i (omega (arith, pow-suc 2 n)) (⊎_elim (λ m. inl (in_half i g m)) (λ is. inr (omega arith)) p)))

listed_push : (i n : ℕ) (ns : List ℕ) → Listed i ns ⊎ (i ≡ n) → Listed i (ns ++ (n ∷ []))
listed_push i n [] (inl l) = absurd l
listed_push i n [] (inr e) = inl e
listed_push i n (m ∷ ns) (inl (inl e)) = inl e
listed_push i n (m ∷ ns) (inl (inr l)) = inr (listed_push i n ns (inl l))
listed_push i n (m ∷ ns) (inr e) = inr (listed_push i n ns (inr e))

push_listed : (i n : ℕ) (ns : List ℕ) → Listed i (ns ++ (n ∷ [])) → Listed i ns ⊎ (i ≡ n)
push_listed i n [] (inl e) = inr e
push_listed i n [] (inr l) = absurd l
push_listed i n (m ∷ ns) (inl e) = inl (inl e)
push_listed i n (m ∷ ns) (inr l) = ⊎_elim (λ k. inl (inr k)) inr (push_listed i n ns l)

-- a group with one more, above all of its own
pub grouped_more : (ns : List ℕ) (low n : ℕ) (g : Option ℕ) → low ≤ n → Below low g → Grouped ns g → Below (n + 1) (with_controller g n) × Grouped (ns ++ (n ∷ [])) (with_controller g n)
grouped_more ns low n None le b k = (tt, (k.0, k.1, listed_push k.0 n ns (inl k.2)))
grouped_more ns low n (Some g) le b k = go (ltb n 16) refl
  where
    small : g < 2 ^ n
    small = let m : 2 ^ low ≤ 2 ^ n = pow_mono le in omega (arith, m)

    sum : bit_or g (2 ^ n) ≡ g + 2 ^ n
    sum = ap (bit_or g) (omega arith) ∙ or_shifted_r 1 n g small ∙ omega arith

    go : (t : Bool) → ltb n 16 ≡ t → Below (n + 1) (cond t (Some (bit_or g (2 ^ n))) None) × Grouped (ns ++ (n ∷ [])) (cond t (Some (bit_or g (2 ^ n))) None)
    go true e =
        let lt : n < 16 = ltb-true n 16 e in
        let within : g + 2 ^ n < 2 ^ (n + 1) = rw (add-one n, pow-suc 2 n) (omega (arith, small)) in
        let up : n + 1 ≤ 16 = omega (arith, lt) in
        let most : 2 ^ (n + 1) ≤ 2 ^ 16 = pow_mono up in
        rw sum (
          within,
          (
            omega (arith, within, most),
            λ i. (
              λ m. listed_push i n ns (⊎_elim (λ x. inl ((k.1 i).0 x)) inr (in_with n g i small m)),
              λ l. with_in n g i small (⊎_elim (λ x. inl ((k.1 i).1 x)) inr (push_listed i n ns l)),
            ),
          ),
        )
    go false e = (tt, (n, ltb-false n 16 e, listed_push n n ns (inr refl)))

pub one_more : (all : List (List ℕ)) (ns : List ℕ) (low : ℕ) (g : Option ℕ) (rest later : List (List ℕ)) (f : List ℕ) (n : ℕ) → Climbed all ns low g rest → rest ≡ f ∷ later → NumberFrom low f n → Climbed all (ns ++ (n ∷ [])) (n + 1) (with_controller g n) later
one_more all ns low g rest later f n s e num =
    let more = grouped_more ns low n g num.1 s.below s.grouped in
    record {
      done = s.done ++ (f ∷ []);
      split = s.split ∙ ap (λ l. s.done ++ l) e ∙ sym (append_assoc s.done (f ∷ []) later);
      said = rise_push 0 s.done ns f n s.said num.0 (omega (arith, s.next, num.1));
      next = omega (arith, least_push 0 ns n);
      count = length-append ns (n ∷ []) ∙ omega (arith, s.count, length-append s.done (f ∷ []));
      below = more.0;
      grouped = more.1;
    }

pub all_said : (all : List (List ℕ)) (ns : List ℕ) (low : ℕ) (g : Option ℕ) (rest : List (List ℕ)) → Climbed all ns low g rest → rest ≡ [] → SetForm all g
all_said all ns low g rest s e = (ns, subst (λ l. Rises 0 l ns) (sym (s.split ∙ ap (λ r. s.done ++ r) e ∙ append-nil s.done)) s.said, s.grouped)

rise_at : (low : ℕ) (fs more : List (List ℕ)) (f : List ℕ) (ns ms : List ℕ) → Rises low fs ns → Rises low (fs ++ (f ∷ more)) ms → (n : ℕ) × Number f n × (least low ns ≤ n)
rise_at low [] more f [] [] r s = absurd s
rise_at low [] more f [] (m ∷ ms) r s = (m, s.0.0, s.0.1)
rise_at low [] more f (n ∷ ns) ms r s = absurd r
rise_at low (g ∷ fs) more f [] ms r s = absurd r
rise_at low (g ∷ fs) more f (n ∷ ns) [] r s = absurd s
rise_at low (g ∷ fs) more f (n ∷ ns) (m ∷ ms) r s =
    rise_at (suc n) fs more f ns ms r.1 (subst (λ k. Rises (suc k) (fs ++ (f ∷ more)) ms) (one_number g m n s.0.0 r.0.0) s.1)

pub no_number : (all : List (List ℕ)) (ns : List ℕ) (low : ℕ) (group : Option ℕ) (rest later : List (List ℕ)) (f : List ℕ) (k : ℕ) → Climbed all ns low group rest → rest ≡ f ∷ later → ((n : ℕ) → NumberFrom low f n → ⊥) → k ≡ field_number (length ns) → FaultAt SetForm all k
no_number all ns low group rest later f k s e wrong is =
    let L : List (List ℕ) → Type 0 = λ fs. (g : Option ℕ) × SetForm fs g in
    let at = here (λ fs. L (s.done ++ fs)) rest ([], (group, (ns, subst (λ l. Rises 0 l ns) (sym (append-nil s.done)) s.said, s.grouped)))
    (λ g gs more is l. let same : g ≡ f = cc in let n = rise_at 0 s.done more g ns l.1.0 s.said l.1.1 in wrong n.0 (subst (λ x. Number x n.0) same n.1, omega (arith, n.2, s.next)))
    (λ none l. let z : ◌≡◌ {A = ℕ} 0 1 = cc in omega arith) in
    (length ns, is, subst (λ l. Departs L l (length ns)) (sym s.split) (subst (Departs L (s.done ++ rest)) (sym s.count) (after L s.done rest at)))
