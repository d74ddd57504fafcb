-- Where fields depart from a form.
use Rattle.std.proofs.Common.{◌≡◌, ℕ, suc, List, [], ◌∷◌, ◌++◌, length, sym, refl, subst, arith}
use Rattle.lines.specs.Forms.{Departs}

-- at the first field
pub here : (L : List (List ℕ) → Type 0) (fs : List (List ℕ)) → ((ws : List (List ℕ)) × L ws) → ((f : List ℕ) (rest more : List (List ℕ)) → fs ≡ f ∷ rest → L (f ∷ more) → ⊥) → (fs ≡ [] → L [] → ⊥) → Departs L fs 0
here L [] some wrong short = record { before = some; within = omega arith; faulty = λ more lt l. omega arith; missing = λ le l. short refl l }
here L (f ∷ fs) some wrong short = record { before = some; within = omega arith; faulty = λ more lt l. wrong f fs more refl l; missing = λ le l. omega arith }

-- after a field that is in form
pub later : (L : List (List ℕ) → Type 0) (f : List ℕ) (fs : List (List ℕ)) (j : ℕ) → Departs (λ ws. L (f ∷ ws)) fs j → Departs L (f ∷ fs) (suc j)
later L f fs j d = record { before = d.before; within = omega (arith, d.within); faulty = λ more lt l. d.faulty more (omega arith) l; missing = λ le l. d.missing (omega arith) l }

pub step : (L : List (List ℕ) → Type 0) (f : List ℕ) (fs rest : List (List ℕ)) (j : ℕ) → fs ≡ f ∷ rest → Departs (λ ws. L (f ∷ ws)) rest j → Departs L fs (suc j)
step L f fs rest j is d = subst (λ l. Departs L l (suc j)) (sym is) (later L f rest j d)

-- after fields that are in form
pub after : (L : List (List ℕ) → Type 0) (done fs : List (List ℕ)) → Departs (λ ws. L (done ++ ws)) fs 0 → Departs L (done ++ fs) (length done)
after L [] fs d = d
after L (f ∷ done) fs d = later L f (done ++ fs) (length done) (after (λ ws. L (f ∷ ws)) done fs d)

-- the next field, if there is one, says no value
abbrev pub Wrong : {V : Type 0} → (List ℕ → V → Type 0) → List (List ℕ) → Type 0
Wrong Says fs = (f : List ℕ) (more : List (List ℕ)) → fs ≡ f ∷ more → (v : _) → Says f v → ⊥

-- every list in form begins with a field that says a value, and this one does not
pub no_value : {V : Type 0} (Says : List ℕ → V → Type 0) (L : List (List ℕ) → Type 0) (fs : List (List ℕ)) → ((ws : List (List ℕ)) × L ws) → ((ws : List (List ℕ)) → L ws → (f : List ℕ) × (v : V) × (more : List (List ℕ)) × Says f v × (ws ≡ f ∷ more)) → Wrong Says fs → Departs L fs 0
no_value Says L fs some begins wrong =
    here L fs some
    (λ f rest more e l.
    let b = begins (f ∷ more) l in
    let same : b.0 ≡ f = let s = b.4 in cc in
    wrong f rest e b.1 (subst (λ x. Says x b.1) same b.3))
    (λ e l. let b = begins [] l in let s = b.4 in let z : ◌≡◌ {A = ℕ} 0 1 = cc in omega arith)

-- the form ends here, and the fields do not
pub surplus : (L : List (List ℕ) → Type 0) (fs : List (List ℕ)) → L [] → ((ws : List (List ℕ)) → L ws → ws ≡ []) → (fs ≡ [] → ⊥) → Departs L fs 0
surplus L fs whole ends more =
    here L fs ([], whole)
    (λ f rest ws e l. let s = ends (f ∷ ws) l in let z : ◌≡◌ {A = ℕ} 0 1 = cc in omega arith)
    (λ e l. more e)

-- two forms that have the same lists are departed from at the same field
pub same_form : (L M : List (List ℕ) → Type 0) (fs : List (List ℕ)) (j : ℕ) → ((gs : List (List ℕ)) → L gs → M gs) → ((gs : List (List ℕ)) → M gs → L gs) → Departs L fs j → Departs M fs j
same_form L M fs j to back d = record { before = (d.before.0, to _ d.before.1); within = d.within; faulty = λ more lt m. d.faulty more lt (back _ m); missing = λ le m. d.missing le (back _ m) }
