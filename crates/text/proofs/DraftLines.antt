-- What the lines on drafts come to, put together from what their steps gave.
use Rattle.std.proofs.Common.{◌≡◌, ℕ, List, Some, None, Ok, Option, Result, sym, ap, subst, arith}
use Rattle.std.specs.Option.{ok_or}
use Rattle.survivor.specs.declared.refusals.DraftRefusal.{DraftRefusal}
use Rattle.survivor.specs.declared.tables.Draft.{Draft}
use Rattle.survivor.specs.declared.tables.Table.{Table}
use Rattle.lines.specs.Lines.{SetForm, SealForm}
use Rattle.answers.specs.declared.faults.Fault.{Fault}
use Rattle.answers.specs.declared.replies.Reply.{Reply}
use Rattle.text.specs.declared.yards.Yard.{Yard}
use Rattle.text.specs.Yards.{Needs, ReadsThen}
use Rattle.text.specs.Drafting.{Added, AddingTold, TakesSet, Adds, Sealing, SealingTold, Seals}

-- what is taken to be there is there
pub was_there : {X E : Type 0} (o : Option X) (e : E) (r : Result X E) (x : X) → r ≡ ok_or o e → r ≡ Ok x → o ≡ Some x
was_there None e r x is ok = absurd (let z : ◌≡◌ {A = ℕ} 0 1 = cc in omega arith)
was_there (Some w) e r x is ok = let same : w ≡ x = cc in ap Some same

-- what is needed is there
pub there : {X : Type 0} (then : X → Yard → Result Reply Fault → Yard → Type 0) (o : Option X) (x : X) (y y' : Yard) (r : Result Reply Fault) → o ≡ Some x → then x y r y' → Needs o then y r y'
there then o x y y' r is t = subst (λ p. Needs p then y r y') (sym is) t

pub adds : (y y' : Yard) (d d' : Draft) (g : Option ℕ) (s : ℕ) (fs : List (List ℕ)) (b : Result (Unit {0}) DraftRefusal) (r : Result Reply Fault) →
    y.draft ≡ Some d → SetForm fs g → g ≡ Some s → Added d s b d' → AddingTold b d' y r y' → Adds y fs r y'
adds y y' d d' g s fs b r draft form is added told =
    there (λ d. ReadsThen SetForm fs (TakesSet d)) y.draft d y y' r draft (Ok g, form, subst (λ o. TakesSet d o y r y') (sym is) (b, d', added, told))

pub seals : (y y' : Yard) (d : Draft) (t : Table) (fs : List (List ℕ)) (b : Result (Unit {0}) DraftRefusal) (r : Result Reply Fault) →
    y.draft ≡ Some d → SealForm fs tt → Sealing d b t → SealingTold b t y r y' → Seals y fs r y'
seals y y' d t fs b r draft form sealing told =
    there (λ d. ReadsThen SealForm fs (λ u y r y'. (b : Result (Unit {0}) DraftRefusal) × (t : Table) × Sealing d b t × SealingTold b t y r y')) y.draft d y y' r draft (Ok tt, form, (b, t, sealing, told))
