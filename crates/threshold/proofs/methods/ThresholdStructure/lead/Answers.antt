use Rattle.std.proofs.Common.{◌≡◌, ℕ, suc, leb, Some, None, Option, is_some, IfSome, sym, ap, ◌∙◌, arith, rules}
use Rattle.std.specs.List.{slice_get}
use Rattle.std.proofs.lemmas.Bool.{leb-true, leb-false}
use Rattle.std.proofs.lemmas.Option.{slice_get-get_or, slice_get_past}
use Rattle.threshold.specs.Thresholds.{first}
use Rattle.threshold.specs.Laws.{first_length, first_at}
use Rattle.threshold.proofs.methods.ThresholdStructure.lead.Goals as goal

-- a lead up to t is its own place, and there is none past it
lead_of : (t i : ℕ) (r : Option ℕ) {P : ℕ → Type 0} → is_some r ≡ leb i t → IfSome r P → ((x : ℕ) → P x → x ≡ i) → r ≡ slice_get (first (suc t)) i
lead_of t i None e h k = sym (slice_get_past (first (suc t)) i (omega (arith, first_length (suc t), leb-false i t (sym e))))
lead_of t i (Some x) e h k =
    let inside = leb-true i t (sym e) in
    ap Some (k x h) ∙ sym (slice_get-get_or (first (suc t)) i 0 (omega (arith, first_length (suc t))) ∙ ap Some (first_at (suc t) i (omega arith)))

pub returns : goal.returns
returns c =
    let same = ap (leb c.args.place) c.from.ensures in
    lead_of c.args.self.now.faults c.args.place c.then.result (c.then.ensures.variant ∙ same) c.then.ensures.some (λ x h. search rules)
