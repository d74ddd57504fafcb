-- The group of a value, word by word.
use Rattle.std.proofs.Common.{◌≡◌, ℕ, ◌+◌, ◌*◌, ◌^◌, ◌<◌, Bool, true, false, cond, ◌∷◌, Decides, sym, ap, ◌∙◌, mul_assoc, mul_comm, pow-suc, mul-add, add-one, arith}
use lib.Bits.{bit_or, or_shifted_r}
use Rattle.duty.specs.Codes.{Code}
use Rattle.rounds.specs.Rows.{Word, Row, same_code, says, group}
use Rattle.rounds.proofs.Words.{same_refl, same_true}

pub same_decides : (v w : Code) → Decides (same_code v w) (v ≡ w)
same_decides v w = (same_true v w, λ e. rw (sym e) (same_refl v))

-- one more place: g has the bits of the places below i, and `from` is the row from place i on
turn : (b : Bool) (g i rest : ℕ) → g < 2 ^ i →
    (cond b (bit_or g (2 ^ i)) g < 2 ^ (i + 1)) × (cond b (bit_or g (2 ^ i)) g + 2 ^ (i + 1) * rest ≡ g + 2 ^ i * (cond b 1 0 + 2 * rest))
turn true g i rest h =
    let e : bit_or g (2 ^ i) ≡ g + 2 ^ i = ap (bit_or g) (omega arith) ∙ or_shifted_r 1 i g h ∙ omega arith in
    rw (e, add-one i, pow-suc 2 i) (omega arith, omega (arith, mul-add (2 ^ i) 1 (2 * rest), mul_assoc (2 ^ i) 2 rest, mul_comm (2 ^ i) 2))
turn false g i rest h =
    rw (add-one i, pow-suc 2 i) (omega arith, omega (arith, mul_assoc (2 ^ i) 2 rest, mul_comm (2 ^ i) 2))

pub group_turn : (v : Code) (row from rest : Row) (w : Word) (g i : ℕ) (b : Bool) →
    from ≡ w ∷ rest → b ≡ says v w → g < 2 ^ i → g + 2 ^ i * group v from ≡ group v row →
    (cond b (bit_or g (2 ^ i)) g < 2 ^ (i + 1)) × (cond b (bit_or g (2 ^ i)) g + 2 ^ (i + 1) * group v rest ≡ group v row)
group_turn v row from rest w g i b begins said below so_far =
    let t = turn b g i (group v rest) below in
    (t.0, t.1 ∙ rw said (rw begins at so_far))
