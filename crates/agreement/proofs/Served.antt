-- Which drafts a round rule can serve is what sealing answers.
use Rattle.std.proofs.Common.{◌≡◌, ℕ, ◌<◌, true, false, ◌↔◌, List, length, is_ok, Some, Ok, Err, Result, sym, refl, ap, ◌∙◌, subst, inl, inr, arith}
use Rattle.std.proofs.lemmas.Bool.{cases_Bool, ne_eqb, false≢true}
use Rattle.cores.specs.Sharing.{ThreesShare, threes_share}
use Rattle.cores.specs.Leads.{table, Wiring}
use Rattle.cores.proofs.Tests.{threes_share_decides}
use Rattle.survivor.specs.Drafts.{size_of, sets_of}
use Rattle.survivor.specs.Seals.{refused_with, sealing, NothingShared, Reason, Writes}
use Rattle.survivor.specs.declared.refusals.DraftRefusal.{DraftRefusal}
use Rattle.survivor.specs.declared.refusals.DraftRefusal.TheVariants.{NoneShared}
use Rattle.survivor.specs.declared.tables.Draft.{Draft}
use Rattle.survivor.specs.declared.tables.Table.{Table}
use Rattle.rules.specs.Rules.{Rule, Serves}
use Rattle.rules.specs.Own.{own_rule}
use Rattle.rules.proofs.Impossible.{needs_threes}
use Rattle.rules.proofs.Own.{own_serves}
use Rattle.agreement.specs.Promise.{Written, Served}

-- what sealing says of the table
pub written : (d : Draft) (old : Table) (r : Result (Unit {0}) DraftRefusal) (new : Table) → Writes d old r new → Written d old r new
written d old (Ok u) new s = (s, λ _. ap (λ x. table (size_of x) (sets_of x)) s.copied)
written d old (Err e) new s = (s, λ f. absurd (let z : ◌≡◌ {A = ℕ} 0 1 = cc in omega arith))

-- a draft with a set is a wiring
wiring : (d : Draft) → 0 < length (sets_of d) → Wiring (size_of d) (sets_of d)
wiring d some = record { low = d.low; high = d.high; some = some; peopled = d.peopled; inside = d.inside }

-- a call that was refused with a number did not do its work
refused_not_ok : (r : Result (Unit {0}) DraftRefusal) (n : ℕ) → refused_with r ≡ Some n → is_ok r ≡ true → ⊥
refused_not_ok (Ok u) n e f = let z : ◌≡◌ {A = ℕ} 0 1 = cc in omega arith
refused_not_ok (Err x) n e f = false≢true f

ok_is : (r : Result (Unit {0}) DraftRefusal) → is_ok r ≡ true → r ≡ Ok tt
ok_is (Ok u) e = refl
ok_is (Err x) e = absurd (false≢true e)

shown : (n : ℕ) (sets : List ℕ) (r : Result (Unit {0}) DraftRefusal) → Reason n sets r → (p q s : ℕ) → r ≡ Err (NoneShared p q s) → NothingShared n sets p q s
shown n sets r reason p q s e = subst (Reason n sets) e reason

sealing_14 : (n : ℕ) (sets : List ℕ) → 0 < length sets → threes_share n sets ≡ false → sealing n sets ≡ Some 14
sealing_14 n sets some f = let a = ne_eqb (length sets) 0 (λ z. omega arith) in simp (a, f)

pub served : (rule : Rule) (d : Draft) (old : Table) (r : Result (Unit {0}) DraftRefusal) (new : Table) → Written d old r new → 0 < length (sets_of d) →
    refused_with r ≡ sealing (size_of d) (sets_of d) →
    Reason (size_of d) (sets_of d) r →
    (is_ok r ≡ true) ↔ ThreesShare (size_of d) (sets_of d) → Served rule d r new
served rule d old r new w some answer reason threes = record {
  refused = λ e serves. refused_not_ok r 14 e (threes.1 (needs_threes rule (size_of d) (sets_of d) d.peopled d.inside serves));
  shown = shown (size_of d) (sets_of d) r reason;
  own = λ f. elim (cases_Bool (threes_share (size_of d) (sets_of d))) [
    | inl t ↦
        let share = (threes_share_decides (size_of d) (sets_of d)).0 t in
        let ok = ok_is r (threes.1 share) in
        (ok, subst (λ m. Serves (own_rule m) (size_of d) (sets_of d)) (sym (w.1 ok)) (own_serves (size_of d) (sets_of d) (wiring d some) share))
    | inr t ↦ absurd (f (answer ∙ sealing_14 (size_of d) (sets_of d) some t))
  ];
}
