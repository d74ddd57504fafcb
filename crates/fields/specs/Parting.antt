-- Where bytes are cut at a mark.
use Rattle.std.specs.Prelude.{◌≡◌, ℕ, zero, suc, ◌-◌, ◌<◌, ◌≤◌, Bool, true, false, List, [], ◌∷◌, ◌++◌, length, take, drop, Some, None, Option, ◌==◌, ◌≢◌, slice_index, slice_index_or, refl}
use Rattle.std.proofs.Common.{sym, ap, subst, ◌∙◌, add-zero, arith, length-drop, take-append-drop, length-append, get_or-take, get_or-drop, length-take-le, ne_eqb, eqb-true}
use Rattle.std.specs.Borrow.{Bor}
use Rattle.std.proofs.lemmas.Bool.{eqb-false}
use Rattle.std.specs.List.{AllByRecursion, between}
use Rattle.std.proofs.lemmas.List.{take_all, get_or_at}
use Rattle.std.proofs.lemmas.Slice.{first_rest}
use Rattle.fields.specs.Fields.{Lacks, Cut, in_front, fields, left, line_of, Parted, FieldsPart}

module _ (mark n : ℕ) (bytes front back : List ℕ) (le : n ≤ length bytes) (none : (k : ℕ) → k < n → slice_index bytes k ≢ mark) (f : front ≡ take n bytes) (b : back ≡ drop n bytes) where
  pub front_lacks : Lacks mark front
  front_lacks k h e =
      let long : length front ≡ n = ap length f ∙ length-take-le n bytes le in
      let lt : k < n = omega arith in
      none k lt (sym (ap (λ l. slice_index l k) f ∙ get_or-take n bytes k 0 lt) ∙ e)

  pub all_front : length back ≡ 0 → bytes ≡ front
  all_front e =
      let left : length back ≡ length bytes - n = ap length b ∙ length-drop n bytes in
      sym (take_all n bytes (omega arith)) ∙ sym f

  pub marked : 0 < length back → (n < length bytes → slice_index bytes n ≡ mark) → bytes ≡ front ++ (mark ∷ between 1 (length back) back)
  marked some stops =
      let left : length back ≡ length bytes - n = ap length b ∙ length-drop n bytes in
      let at : slice_index_or back 0 0 ≡ mark = ap (λ l. slice_index l 0) b ∙ get_or-drop n bytes 0 0 ∙ ap (λ i. slice_index bytes i) (add-zero n) ∙ stops (omega arith) in
      sym (take-append-drop n bytes) ∙ ap (λ l. l ++ drop n bytes) (sym f) ∙ ap (λ l. front ++ l) (sym b ∙ first_rest back 0 some ∙ ap (λ x. x ∷ between 1 (length back) back) at)

tail_lacks : (mark x : ℕ) (f : List ℕ) → Lacks mark (x ∷ f) → Lacks mark f
tail_lacks mark x f l k h e = l (suc k) (omega arith) e

-- bytes are cut at their first mark in one way only
pub same_cut : (mark : ℕ) (f g a b : List ℕ) → Lacks mark f → Lacks mark g → f ++ (mark ∷ a) ≡ g ++ (mark ∷ b) → (f ≡ g) × (a ≡ b)
same_cut mark [] [] a b l m e = (refl, cc)
same_cut mark [] (y ∷ g) a b l m e = let k : mark ≡ y = cc in absurd (m 0 (omega arith) (sym k))
same_cut mark (x ∷ f) [] a b l m e = let k : x ≡ mark = cc in absurd (l 0 (omega arith) k)
same_cut mark (x ∷ f) (y ∷ g) a b l m e =
    let k : x ≡ y = cc in
    let t : f ++ (mark ∷ a) ≡ g ++ (mark ∷ b) = cc in
    let r = same_cut mark f g a b (tail_lacks mark x f l) (tail_lacks mark y g m) t in
    let fg : f ≡ g = r.0 in
    (cc, r.1)

-- a mark in the midst is there
pub not_lacks : (mark : ℕ) (bytes f a : List ℕ) → Lacks mark bytes → bytes ≢ f ++ (mark ∷ a)
not_lacks mark bytes f a l e = subst (Lacks mark) e l (length f) (omega (arith, length-append f (mark ∷ a))) (get_or_at f mark a 0 (length f) refl)

-- a line with no tab is its one field, and a tab ends the first
field_whole : (f : List ℕ) → Lacks 9 f → fields f ≡ f ∷ []
unfolding fields
field_whole [] l = refl
field_whole (b ∷ f) l = ap (λ t. in_front t b (fields f)) (ne_eqb b 9 (l 0 (omega arith))) ∙ ap (in_front false b) (field_whole f (tail_lacks 9 b f l))

field_front : (f r : List ℕ) → Lacks 9 f → fields (f ++ (9 ∷ r)) ≡ f ∷ fields r
unfolding fields
field_front [] r l = refl
field_front (b ∷ f) r l = ap (λ t. in_front t b (fields (f ++ (9 ∷ r)))) (ne_eqb b 9 (l 0 (omega arith))) ∙ ap (in_front false b) (field_front f r (tail_lacks 9 b f l))

pub fields_cut : (bytes front : List ℕ) (rest : Option (Bor (List ℕ))) → Cut 9 bytes front rest → fields bytes ≡ front ∷ left rest
fields_cut bytes front None c = ap fields c.1 ∙ field_whole front c.0
fields_cut bytes front (Some r) c = ap fields c.1 ∙ field_front front r.now c.0

-- a line has a field, if an empty one
pub some_field : (bytes : List ℕ) → fields bytes ≢ []
unfolding fields
some_field [] e = let z : ◌≡◌ {A = ℕ} 0 1 = cc in omega arith
some_field (b ∷ bs) e = front_some (b == 9) b (fields bs) e
  where
    front_some : (t : Bool) (b : ℕ) (fs : List (List ℕ)) → in_front t b fs ≢ []
    front_some true b fs e = let z : ◌≡◌ {A = ℕ} 0 1 = cc in omega arith
    front_some false b [] e = let z : ◌≡◌ {A = ℕ} 0 1 = cc in omega arith
    front_some false b (f ∷ fs) e = let z : ◌≡◌ {A = ℕ} 0 1 = cc in omega arith

-- a byte in front of a line that is parted
part_front : (b : ℕ) (line : List ℕ) (fs : List (List ℕ)) (t : Bool) → (b == 9) ≡ t → Parted line fs → Parted (b ∷ line) (in_front t b fs)
part_front b line fs true e p =
    record {
      first = [];
      after = fs;
      whole = refl;
      joined = ap (λ x. x ∷ line) (eqb-true b 9 e) ∙ ap (λ l. 9 ∷ l) p.joined ∙ ap (λ l. line_of [] l) (sym p.whole);
      bare = (λ k h. absurd (omega arith), subst (AllByRecursion (Lacks 9)) (sym p.whole) p.bare);
    }
part_front b line fs false e p =
    subst (λ l. Parted (b ∷ line) (in_front false b l)) (sym p.whole)
    (record {
      first = b ∷ p.first;
      after = p.after;
      whole = refl;
      joined = ap (λ l. b ∷ l) p.joined ∙ onto p.first p.after;
      bare = (with_front p.first p.bare.0, p.bare.1);
    })
  where
    onto : (f : List ℕ) (gs : List (List ℕ)) → b ∷ line_of f gs ≡ line_of (b ∷ f) gs
    onto f [] = refl
    onto f (g ∷ gs) = refl

    with_front : (f : List ℕ) → Lacks 9 f → Lacks 9 (b ∷ f)
    with_front f l zero h is = eqb-false b 9 e is
    with_front f l (suc k) h is = l k (omega arith) is

parted : (line : List ℕ) → Parted line (fields line)
unfolding fields
parted [] = record { first = []; after = []; whole = refl; joined = refl; bare = (λ k h. absurd (omega arith), tt) }
parted (b ∷ bs) = part_front b bs (fields bs) (b == 9) refl (parted bs)

fields_line : (first : List ℕ) (after : List (List ℕ)) → Lacks 9 first → AllByRecursion (Lacks 9) after → fields (line_of first after) ≡ first ∷ after
fields_line first [] l ls = field_whole first l
fields_line first (f ∷ fs) l ls = field_front first (line_of f fs) l ∙ ap (λ gs. first ∷ gs) (fields_line f fs ls.0 ls.1)

pub parts : FieldsPart
parts = (parted, λ line fs p. p.whole ∙ sym (fields_line p.first p.after p.bare.0 p.bare.1) ∙ ap fields (sym p.joined))
