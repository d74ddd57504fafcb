-- What is added to an answer, one text after another.
use Rattle.std.proofs.Common.{◌≡◌, ℕ, ◌+◌, List, ◌++◌, length, ap, ◌∙◌, append_assoc, arith, length-append}
use Rattle.answers.specs.Answers.{Adds}

-- two after one another
pub then : (a b c x y : List ℕ) → Adds a x b → Adds b y c → Adds a (x ++ y) c
then a b c x y p q h =
    let both = length-append x y in
    let first : b ≡ a ++ x = p (omega (arith, both)) in
    let long : length b ≡ length a + length x = ap length first ∙ length-append a x in
    q (omega (arith, both, long)) ∙ ap (λ l. l ++ y) first ∙ append_assoc a x y
