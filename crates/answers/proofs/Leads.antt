-- The leads of a table, each after a tab: one by one, and how long they are.
use Rattle.std.proofs.Common.{◌≡◌, ℕ, zero, suc, ◌+◌, ◌*◌, ◌<◌, ◌≤◌, min, List, [], ◌∷◌, ◌++◌, length, sym, ap, ◌∙◌, inl, inr, arith, length-append}
use Rattle.std.proofs.lemmas.Fmt.{length-decimal-le}
use Rattle.std.proofs.lemmas.List.{flat_map_more}
use Rattle.std.proofs.lemmas.Bool.{cases_lt, cases_Bool}
use Rattle.cores.specs.Leads.{leading_core}
use Rattle.structure.specs.Groups.{has, members}
use Rattle.structure.proofs.Members.{members_in, members_out}
use Rattle.survivor.specs.Drafts.{size_of, sets_of}
use Rattle.survivor.specs.Seals.{draft_of, meaning_of}
use Rattle.survivor.specs.declared.tables.Table.{Table}
use Rattle.answers.specs.Answers.{after_tab, leads_text}

text_push : (leads : List ℕ) (n : ℕ) → leads_text (leads ++ n ∷ []) ≡ leads_text leads ++ after_tab n
text_push leads n = sym (flat_map_more after_tab [] leads n)

-- a controller below 10 takes two bytes, and any other three
one_length : (n : ℕ) → n < 100 → length (after_tab n) + min (suc n) 10 ≤ 3 + min n 10
one_length n h = elim (cases_lt n 10) [
  | inl lt ↦ omega (arith, length-decimal-le 1 n (omega arith) (omega arith) (omega arith))
  | inr ge ↦ omega (arith, length-decimal-le 2 n (omega arith) (omega arith) (omega arith))
]

members_length : (n g : ℕ) → n ≤ 100 → length (leads_text (members n g)) + min n 10 ≤ 3 * n
members_length zero g h = omega arith
members_length (suc n) g h = elim (cases_Bool (has g n)) [
  | inl e ↦ omega (arith, members_length n g (omega arith), one_length n (omega arith), ap length (ap leads_text (members_in n g e) ∙ text_push (members n g) n), length-append (leads_text (members n g)) (after_tab n))
  | inr e ↦ omega (arith, members_length n g (omega arith), ap length (ap leads_text (members_out n g e)))
]

-- a yard has at most sixteen controllers, ten of them below 10
pub leads_short : (t : Table) → length (leads_text (meaning_of t).leads) ≤ 38
leads_short t =
    let n = size_of (draft_of t) in
    let few : n ≤ 16 = t.draft.high in
    omega (arith, members_length n (leading_core n (sets_of (draft_of t))) (omega arith))
