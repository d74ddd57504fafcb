use Rattle.std.proofs.Common.{◌≡◌, ℕ, ◌<◌, true, false, eqb, List, length, sym, refl, ap, ◌∙◌, inl, inr, arith}
use Rattle.std.proofs.lemmas.Bool.{cases_lt, eqb-false}
use Rattle.structure.specs.Groups.{members}
use Rattle.cores.proofs.Leads.{leading_leads}
use Rattle.cores.proofs.Wordings.{wordings_agree}
use Rattle.survivor.specs.Drafts.{sets_of}
use Rattle.survivor.specs.Sealing.{by_splits, sealing_none, none_refused, sealing_done, done_sealed, wiring}
use Rattle.survivor.proofs.tables.Draft.seal.Goals as goal

pub returns-then-is_empty-clause-wordings : goal.returns-then-is_empty-clause-wordings
returns-then-is_empty-clause-wordings c = wordings_agree

pub returns-in-Some-clause-answer : goal.returns-in-Some-clause-answer
returns-in-Some-clause-answer c = let d = c.args.self.now in sealing_none d.size (sets_of d) c.in-Some.p c.in-Some.q c.in-Some.r c.in-Some.ensures

pub returns-in-Some-clause-threes : goal.returns-in-Some-clause-threes
returns-in-Some-clause-threes c = let d = c.args.self.now in none_refused d.size (sets_of d) c.in-Some.p c.in-Some.q c.in-Some.r c.in-Some.ensures

pub returns-in-Some-clause-splits : goal.returns-in-Some-clause-splits
returns-in-Some-clause-splits c =
    let d = c.args.self.now in
    by_splits d.size (sets_of d) false (none_refused d.size (sets_of d) c.in-Some.p c.in-Some.q c.in-Some.r c.in-Some.ensures)

pub returns-in-Some-clause-wordings : goal.returns-in-Some-clause-wordings
returns-in-Some-clause-wordings c = wordings_agree

-- the list that was not empty
some_set : (xs ys : List ℕ) → xs ≡ ys → false ≡ eqb (length xs) 0 → 0 < length ys
some_set xs ys e t = let ne = eqb-false (length xs) 0 (sym t) in let h = ap length e in elim (cases_lt 0 (length ys)) [ inl l ↦ l | inr z ↦ absurd (ne (omega arith)) ]

pub returns-clause-answer : goal.returns-clause-answer
returns-clause-answer c = let d = c.args.self.now in sealing_done d.size (sets_of d) (some_set c.sets.result.now (sets_of d) c.sets.ensures c.if-is_empty.ensures) c.in_default.ensures

pub returns-clause-after : goal.returns-clause-after
returns-clause-after c =
    let d = c.args.self.now in
    record {
      copied = refl;
      leads = c.list_members-phases.ensures.0 ∙ ap (members d.size) c.leading_core.ensures;
      leading = leading_leads d.size (sets_of d) (wiring d (some_set c.sets.result.now (sets_of d) c.sets.ensures c.if-is_empty.ensures));
    }

pub returns-clause-splits : goal.returns-clause-splits
returns-clause-splits c some = let d = c.args.self.now in by_splits d.size (sets_of d) true (done_sealed d.size (sets_of d) some c.in_default.ensures) some

pub returns-clause-wordings : goal.returns-clause-wordings
returns-clause-wordings c = wordings_agree
