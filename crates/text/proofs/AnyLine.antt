-- What any line comes to.
use Rattle.std.proofs.Common.{◌≡◌, ℕ, ◌≤◌, cond, eqb, List, ◌∷◌, length, get_or, Result, sym, refl, ap, ◌∙◌, subst, arith}
use Rattle.fields.specs.Fields.{fields}
use Rattle.lines.specs.Verbs.{verb_text}
use Rattle.lines.specs.declared.verbs.Verb.{Verb}
use Rattle.lines.specs.declared.verbs.Verb.TheVariants.{Controllers, Set, Seal, Plans, Board, Offer, Hear}
use Rattle.answers.specs.declared.faults.Fault.{Fault}
use Rattle.answers.specs.declared.replies.Reply.{Reply}
use Rattle.text.specs.declared.yards.Yard.{Yard}
use Rattle.text.specs.Answering.{Obeys, Comes}
use Rattle.text.proofs.Unchanged.{unchanged}

-- ---- no two first fields have the same text
abbrev named : List ℕ → Verb
named f =
    cond (eqb (length f) 11) Controllers
    (cond (eqb (length f) 3) Set
    (cond (eqb (get_or f 0 0) 112) Plans
    (cond (eqb (get_or f 0 0) 98) Board
    (cond (eqb (get_or f 0 0) 111) Offer
    (cond (eqb (get_or f 0 0) 104) Hear Seal)))))

names : (v : Verb) → named (verb_text v) ≡ v
names Controllers = refl
names Set = refl
names Seal = refl
names Plans = refl
names Board = refl
names Offer = refl
names Hear = refl

same_verb : (v w : Verb) → verb_text v ≡ verb_text w → v ≡ w
same_verb v w e = sym (names v) ∙ ap named e ∙ names w

-- ---- a line whose first field names something
pub comes : (y y' : Yard) (line : List ℕ) (fs : List (List ℕ)) (v : Verb) (r : Result Reply Fault) → length line ≤ 256 → fields line ≡ verb_text v ∷ fs → Obeys v y fs r y' → Comes y line r y'
comes y y' line fs v r short is obeys =
    record {
      too_long = λ long. absurd (omega arith);
      unknown = λ _ none. absurd (none v fs is);
      unchanged = λ f refused. unchanged y y' r f refused v fs obeys;
      known = λ _ w gs also.
          let first : verb_text v ≡ verb_text w = let e = sym is ∙ also in cc in
          let rest : fs ≡ gs = let e = sym is ∙ also in cc in
          subst (λ x. Obeys x y gs r y') (same_verb v w first) (subst (λ l. Obeys v y l r y') rest obeys);
    }
