use Rattle.std.proofs.Common.{ℕ, List, length, refl, ap, slice_index, arith, rules}
use Rattle.std.proofs.lemmas.Slice.Eq.{text_from_reads}
use Rattle.fields.specs.Numerals.{facts}
use Rattle.lines.specs.declared.verbs.Verb.TheVariants.{Controllers, Set, Seal, Plans, Board, Offer, Hear}
use Rattle.lines.proofs.verbs.VerbTryFromRefSliceU8.try_from.Goals as goal

pub returns-in-controllers : goal.returns-in-controllers
returns-in-controllers c = text_from_reads c.args.field.now _ (omega facts) (search rules)

pub returns-in_default-4 : goal.returns-in_default-4
returns-in_default-4 c = (refl, elim [ Set ↦ λ e. omega (facts, ap (λ (l : List ℕ). slice_index l 0) e, ap (λ (l : List ℕ). slice_index l 1) e, ap (λ (l : List ℕ). slice_index l 2) e) | Controllers ↦ λ e. omega (arith, ap length e) | Seal ↦ λ e. omega (arith, ap length e) | Plans ↦ λ e. omega (arith, ap length e) | Board ↦ λ e. omega (arith, ap length e) | Offer ↦ λ e. omega (arith, ap length e) | Hear ↦ λ e. omega (arith, ap length e) ])
