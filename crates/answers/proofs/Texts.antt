-- The texts of an answer, from their parts, and how long they are.
use Rattle.std.proofs.Common.{◌≡◌, ℕ, ◌+◌, ◌^◌, ◌<◌, ◌≤◌, List, [], ◌∷◌, ◌++◌, length, codes, Result, sym, ap, ◌∙◌, subst, arith, length-append}
use Rattle.depot.specs.declared.values.Grant.{Grant}
use Rattle.depot.specs.declared.values.Plan.{Plan}
use Rattle.fields.specs.Numbers.{numeral}
use Rattle.fields.specs.Values.{plan_text}
use Rattle.survivor.specs.Seals.{meaning_of}
use Rattle.survivor.specs.declared.tables.Table.{Table}
use Rattle.answers.specs.Answers.{Adds, after_tab, leads_text, value_text, reply_text, fault_text, came_text, rendered}
use Rattle.answers.specs.Faults.{number, detail}
use Rattle.answers.specs.declared.faults.Fault.{Fault}
use Rattle.answers.specs.declared.replies.Agreed.{Agreed}
use Rattle.answers.specs.declared.replies.Agreed.TheVariants as agreed
use Rattle.answers.specs.declared.replies.Reply.{Reply}
use Rattle.answers.specs.declared.replies.Reply.TheVariants.{Sealed, Round}
use Rattle.answers.proofs.Clips.{then}
use Rattle.answers.proofs.Leads.{leads_short}
use Rattle.answers.proofs.Numerals.{length_8, length_32, length_64}

-- the text, which has at most k bytes, is added
abbrev pub AddsShort : List ℕ → List ℕ → ℕ → List ℕ → Type 0
AddsShort a b k text = (Adds a text b) × (length text ≤ k)

-- ---- an agreed value
pub adds_plan : (a b : List ℕ) (v : Agreed) (p : Plan) → v ≡ agreed.Plan p → p.0 < 2 ^ 32 → Adds a (plan_text p) b → AddsShort a b 21 (value_text v)
adds_plan a b v p is fits h = subst (λ w. AddsShort a b 21 (value_text w)) (sym is) (h, omega (arith, length_32 p.0 fits))

pub adds_grant : (a b c d : List ℕ) (v : Agreed) (g : Grant) → v ≡ agreed.Grant g → g.bay < 2 ^ 32 → g.amps < 2 ^ 32 → Adds a (numeral g.bay) b → Adds b (47 ∷ []) c → Adds c (numeral g.amps) d → AddsShort a d 21 (value_text v)
adds_grant a b c d v g is bay amps p q r =
    let slash = then b c d (47 ∷ []) (numeral g.amps) q r in
    let all = then a b d (numeral g.bay) (47 ∷ numeral g.amps) p slash in
    subst (λ w. AddsShort a d 21 (value_text w)) (sym is) (all, omega (arith, length_32 g.bay bay, length_32 g.amps amps, length-append (numeral g.bay) (47 ∷ numeral g.amps)))

-- ---- a reply
pub adds_sealed : (a b c : List ℕ) (r : Reply) (t : Table) → r ≡ Sealed t → Adds a (codes "sealed") b → Adds b (leads_text (meaning_of t).leads) c → AddsShort a c 44 (reply_text r)
adds_sealed a b c r t is p q =
    subst (λ s. AddsShort a c 44 (reply_text s)) (sym is) (then a b c (codes "sealed") (leads_text (meaning_of t).leads) p q, omega (arith, leads_short t))

pub adds_round : (a b c : List ℕ) (r : Reply) (k n : ℕ) → r ≡ Round k → k < 2 ^ 8 → n ≡ k → Adds a (codes "round") b → Adds b (after_tab n) c → AddsShort a c 44 (reply_text r)
adds_round a b c r k n is fits same p q =
    subst (λ s. AddsShort a c 44 (reply_text s)) (sym is) (subst (λ x. Adds a (codes "round" ++ after_tab x) c) same (then a b c (codes "round") (after_tab n) p q), omega (arith, length_8 k fits))

-- ---- a fault
pub adds_fault : (a b c d : List ℕ) (f : Fault) (n m : ℕ) → n < 2 ^ 8 → m < 2 ^ 64 → n ≡ number f → m ≡ detail f → Adds a (codes "refused") b → Adds b (after_tab n) c → Adds c (after_tab m) d → AddsShort a d 44 (fault_text f)
adds_fault a b c d f n m small fits is of p q r =
    let end = then b c d (after_tab n) (after_tab m) q r in
    let all = then a b d (codes "refused") (after_tab n ++ after_tab m) p end in
    let same : codes "refused" ++ (after_tab n ++ after_tab m) ≡ fault_text f = ap (λ x. codes "refused" ++ (after_tab x ++ after_tab m)) is ∙ ap (λ x. codes "refused" ++ (after_tab (number f) ++ after_tab x)) of in
    subst (AddsShort a d 44) same (all, omega (arith, length_8 n small, length_64 m fits, length-append (after_tab n) (after_tab m)))

-- ---- the line: at most ten digits, a tab, the words and a line feed fit whole
pub whole : (line : ℕ) (came : Result Reply Fault) (a b c d e : List ℕ) → line < 2 ^ 32 → a ≡ [] → Adds a (numeral line) b → Adds b (9 ∷ []) c → AddsShort c d 44 (came_text came) → Adds d (10 ∷ []) e → e ≡ rendered line came
whole line came a b c d e fits none p q r s =
    let feed = then c d e (came_text came) (10 ∷ []) r.0 s in
    let words = then b c e (9 ∷ []) (came_text came ++ (10 ∷ [])) q feed in
    let all = then a b e (numeral line) (9 ∷ (came_text came ++ (10 ∷ []))) p words in
    let long = length-append (numeral line) (9 ∷ (came_text came ++ (10 ∷ []))) in
    let short : length a + length (rendered line came) ≤ 64 = omega (arith, r.1, length_32 line fits, long, length-append (came_text came) (10 ∷ []), ap length none) in
    all short ∙ ap (λ l. l ++ rendered line came) none
