-- Words, rows of words, and what is found in them.
use Rattle.std.proofs.Common.{◌≡◌, ℕ, zero, suc, Bool, true, false, cond, eqb, [], ◌∷◌, length, Some, None, refl, ap, arith}
use Rattle.std.proofs.lemmas.Bool.{eqb-true, eq-eqb, and_parts, and_from, false≢true}
use Rattle.duty.specs.Codes.{Code}
use Rattle.rounds.specs.Rows.{Word, Row, word_at, heard_word, heard, same_code, says}
use Rattle.rounds.specs.Rounds.{first, or_else}

pub same_refl : (v : Code) → same_code v v ≡ true
same_refl [] = refl
same_refl (a ∷ xs) = and_from (eqb a a) (same_code xs xs) (eq-eqb a a refl) (same_refl xs)

pub same_true : (v w : Code) → same_code v w ≡ true → v ≡ w
same_true [] [] h = refl
same_true [] (b ∷ bs) h = absurd (false≢true h)
same_true (a ∷ xs) [] h = absurd (false≢true h)
same_true (a ∷ xs) (b ∷ bs) h =
    let e = and_parts (eqb a b) (same_code xs bs) h in
    let p = eqb-true a b e.0 in
    let q = same_true xs bs e.1 in
    cc

pub says_self : (v : Code) (w : Word) → w ≡ Some v → says v w ≡ true
says_self v w e = rw e (same_refl v)

pub says_true : (v : Code) (w : Word) → says v w ≡ true → w ≡ Some v
says_true v None h = absurd (false≢true h)
says_true v (Some w) h = let e = same_true v w h in cc

pub some_same : (v w : Code) (a : Word) → a ≡ Some v → a ≡ Some w → v ≡ w
some_same v w a p q = cc

pub none_some : (v : Code) → ◌≡◌ {A = Word} None (Some v) → ⊥
none_some v p = let z : ◌≡◌ {A = ℕ} 0 1 = cc in omega arith

pub or_else_some : (a : Word) (v w : Code) → a ≡ Some v → or_else a w ≡ v
or_else_some a v w e = rw e

-- ---- the row as it is heard
pub length_heard : (fits : Code → Bool) (row : Row) → length (heard fits row) ≡ length row
length_heard fits [] = refl
length_heard fits (w ∷ ws) = ap suc (length_heard fits ws)

pub heard_at : (fits : Code → Bool) (row : Row) (i : ℕ) → word_at (heard fits row) i ≡ heard_word fits (word_at row i)
heard_at fits [] i = refl
heard_at fits (w ∷ ws) zero = refl
heard_at fits (w ∷ ws) (suc i) = heard_at fits ws i

-- what is heard of a word fits
pub heard_fits : (fits : Code → Bool) (w : Word) (v : Code) → heard_word fits w ≡ Some v → fits v ≡ true
heard_fits fits None v e = absurd (none_some v e)
heard_fits fits (Some w) v e = go (fits w) refl e
  where
    go : (b : Bool) → fits w ≡ b → cond b (Some w) None ≡ Some v → fits v ≡ true
    go true h e = let k : w ≡ v = some_same w v (Some w) refl e in rw (← k) h
    go false h e = absurd (none_some v e)

-- a word that fits is heard as it is
pub heard_same : (fits : Code → Bool) (w : Word) → ((v : Code) → w ≡ Some v → fits v ≡ true) → heard_word fits w ≡ w
heard_same fits None h = refl
heard_same fits (Some v) h = rw (h v refl)

-- ---- the first value that passes: it passes, it has a place, and there is one where some value passes
pub first_passes : (test : Code → Bool) (row : Row) (v : Code) → first test row ≡ Some v → test v ≡ true
first_passes test [] v e = absurd (none_some v e)
first_passes test (None ∷ ws) v e = first_passes test ws v e
first_passes test (Some w ∷ ws) v e = go (test w) refl (first_passes test ws v) e
  where
    go : (b : Bool) → test w ≡ b → (first test ws ≡ Some v → test v ≡ true) → cond b (Some w) (first test ws) ≡ Some v → test v ≡ true
    go true h r e = let k : w ≡ v = some_same w v (Some w) refl e in rw (← k) h
    go false h r e = r e

pub first_place : (test : Code → Bool) (row : Row) (v : Code) → first test row ≡ Some v → (i : ℕ) × (word_at row i ≡ Some v)
first_place test [] v e = absurd (none_some v e)
first_place test (None ∷ ws) v e = let (i, h) = first_place test ws v e in (suc i, h)
first_place test (Some w ∷ ws) v e = go (test w) (first_place test ws v) e
  where
    go : (b : Bool) → (first test ws ≡ Some v → (i : ℕ) × (word_at ws i ≡ Some v)) → cond b (Some w) (first test ws) ≡ Some v → (i : ℕ) × (word_at (Some w ∷ ws) i ≡ Some v)
    go true f e = (0, e)
    go false f e = let (i, h) = f e in (suc i, h)

pub first_found : (test : Code → Bool) (row : Row) (i : ℕ) (v : Code) → word_at row i ≡ Some v → test v ≡ true → (w : Code) × (first test row ≡ Some w)
first_found test [] i v e h = absurd (none_some v e)
first_found test (None ∷ ws) zero v e h = absurd (none_some v e)
first_found test (None ∷ ws) (suc i) v e h = first_found test ws i v e h
first_found test (Some w ∷ ws) zero v e h =
    let k : w ≡ v = some_same w v (Some w) refl e in
    (w, rw k (rw h refl))
first_found test (Some w ∷ ws) (suc i) v e h = go (test w) (first_found test ws i v e h)
  where
    go : (b : Bool) → ((a : Code) × (first test ws ≡ Some a)) → (a : Code) × (cond b (Some w) (first test ws) ≡ Some a)
    go true r = (w, refl)
    go false r = r

-- what the first value of a heard row is, fits
pub first_fits : (fits test : Code → Bool) (row : Row) (v : Code) → first test (heard fits row) ≡ Some v → fits v ≡ true
first_fits fits test row v e =
    let (i, h) = first_place test (heard fits row) v e in
    heard_fits fits (word_at row i) v (rw (heard_at fits row i) at h)
