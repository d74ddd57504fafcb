use Rattle.std.proofs.Common.{◌≡◌, ℕ, ◌^◌, ◌<◌, false, List, length, Some, None, Option, sym, ap, ◌∙◌, subst, arith, rules}
use Rattle.std.proofs.lemmas.List.{length-take}
use Rattle.std.proofs.lemmas.Bool.{leb-true, leb-false}
use Rattle.survivor.specs.declared.tables.Draft.{Draft}
use Rattle.survivor.specs.Drafts.{sets_of, misplaced, first_comparable}
use Rattle.cores.specs.Sharing.{Inside}
use Rattle.survivor.proofs.Adding.{misplaced_so, placed_below, placed_proper, none_ordered, first_ordered, peopled_more, inside_more, unordered_more}
use Rattle.survivor.proofs.tables.Draft.add.Goals as goal

pub returns-then-misplaced-clause-reason : goal.returns-then-misplaced-clause-reason
returns-then-misplaced-clause-reason c = misplaced_so c.args.self.now.size c.args.set (sym c.if-misplaced.ensures)

-- what the search in the draft's own sets gave
found : (d : Draft) (xs : List ℕ) (s : ℕ) (o : Option ℕ) → xs ≡ sets_of d → misplaced d.size s ≡ false
    → ((n : ℕ) → Inside n xs → s < 2 ^ n → o ≡ first_comparable n 1 xs s) → first_comparable d.size 1 (sets_of d) s ≡ o
found d xs s o e m f =
    ap (λ v. first_comparable d.size 1 v s) (sym e) ∙ sym (f d.size (subst (λ v. Inside d.size v) (sym e) d.inside) (placed_below d.size s m).1)

pub returns-then-is_full-clause-reason : goal.returns-then-is_full-clause-reason
returns-then-is_full-clause-reason c =
    let d = c.args.self.now in
    let full : length (sets_of d) ≡ 64 = omega (arith, length-take d.count d.sets, leb-true 64 (length (sets_of d)) (sym c.if-is_full.ensures)) in
    (placed_proper d.size c.args.set (sym c.if-misplaced.ensures), full)

pub returns-in-Some-clause-reason : goal.returns-in-Some-clause-reason
returns-in-Some-clause-reason c =
    let d = c.args.self.now in
    let m = sym c.if-misplaced.ensures in
    let room = leb-false 64 (length (sets_of d)) (sym c.if-is_full.ensures) in
    let (place, ordered, first) = first_ordered d.size c.args.set (sets_of d) c.in-Some.place (found d c.sets.result.now c.args.set (Some c.in-Some.place) c.sets.ensures m c.in-Some.ensures) in
    (placed_proper d.size c.args.set m, room, place, ordered, first)

pub invariant_of-self : goal.invariant_of-self
invariant_of-self c =
    let d = c.args.self.now in
    let s = c.args.set in
    let room : d.count < length d.sets = omega (arith, length-take d.count d.sets, leb-false 64 (length (sets_of d)) (sym c.if-is_full.ensures)) in
    let m = sym c.if-misplaced.ensures in
    let (some, below) = placed_below d.size s m in
    record {
      low = search rules;
      high = search rules;
      few = search rules;
      peopled = peopled_more d.sets d.count s room d.peopled some;
      inside = inside_more d.sets d.count s room d.size d.inside below;
      unordered = unordered_more d.sets d.count s room d.size d.unordered (found d c.sets.result.now s None c.sets.ensures m c.in_default.ensures);
    }

pub returns-clause-reason : goal.returns-clause-reason
returns-clause-reason c =
    let d = c.args.self.now in
    let s = c.args.set in
    let m = sym c.if-misplaced.ensures in
    record {
      proper = placed_proper d.size s m;
      room = leb-false 64 (length (sets_of d)) (sym c.if-is_full.ensures);
      unordered = none_ordered d.size s (sets_of d) (found d c.sets.result.now s None c.sets.ensures m c.in_default.ensures);
    }
