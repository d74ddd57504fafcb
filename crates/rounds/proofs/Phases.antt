-- One round heard truly within an enough group: what any two members make of their rows.
use Rattle.std.proofs.Common.{◌≡◌, ℕ, ◌<◌, Bool, true, false, length, Some, sym, refl, ap, ◌∙◌}
use Rattle.structure.specs.Groups.{◌∈◌}
use Rattle.structure.specs.Meanings.{Meaning, Laws}
use Rattle.duty.specs.Codes.{Code}
use Rattle.rounds.specs.Rows.{Word, Row, word_at, heard_word, heard, group}
use Rattle.rounds.specs.Rounds.{first, has_enough, weighty, polled, confirmed, led}
use Rattle.rounds.specs.Laws.{Enough}
use Rattle.rounds.proofs.Words.{some_same, or_else_some, length_heard, heard_at, heard_same, first_passes, first_found}
use Rattle.rounds.proofs.Groups.{in_group, group_in}
use Rattle.rounds.proofs.Laws.{weighty_decides, polled_value}

-- a row of n words that holds at each member of S what that member says
pub record Told (n S : ℕ) (say : ℕ → Word) (row : Row) : Type 0 where
  pub whole : length row ≡ n
  pub true_at : (r : ℕ) → r < n → r ∈ S → word_at row r ≡ say r

-- the members say only what fits
abbrev pub Fitting : ℕ → ℕ → (Code → Bool) → (ℕ → Word) → Type 0
Fitting n S fits say = (r : ℕ) → r < n → r ∈ S → (v : Code) → say r ≡ Some v → fits v ≡ true

-- the members that say a value say the same
abbrev pub One : ℕ → ℕ → (ℕ → Word) → Type 0
One n S say = (r s : ℕ) → r < n → s < n → r ∈ S → s ∈ S → (v w : Code) → say r ≡ Some v → say s ≡ Some w → v ≡ w

-- all members say v
abbrev pub All : ℕ → ℕ → (ℕ → Word) → Code → Type 0
All n S say v = (r : ℕ) → r < n → r ∈ S → say r ≡ Some v

-- what fits is heard as it was said
pub told_heard : (n S : ℕ) (fits : Code → Bool) (say : ℕ → Word) (row : Row) → Fitting n S fits say → Told n S say row → Told n S say (heard fits row)
told_heard n S fits say row f told = record {
  whole = length_heard fits row ∙ told.whole;
  true_at = λ r h i. heard_at fits row r ∙ ap (heard_word fits) (told.true_at r h i) ∙ heard_same fits (say r) (f r h i);
}

module _ (m : Meaning) (laws : Laws m) (S : ℕ) (enough : m.enough S ≡ true) (say : ℕ → Word) where
  abbrev Heard : Row → Type 0
  Heard row = Told m.size S say row

  -- a member of the group of v says v, and who says v belongs to it
  member_says : (row : Row) → Heard row → (v : Code) (r : ℕ) → r < m.size → r ∈ S → r ∈ group v row → say r ≡ Some v
  member_says row told v r h i g = sym (told.true_at r h i) ∙ in_group v row r g

  says_member : (row : Row) → Heard row → (v : Code) (r : ℕ) → r < m.size → r ∈ S → say r ≡ Some v → r ∈ group v row
  says_member row told v r h i e = group_in v row r (told.true_at r h i ∙ e)

  -- ---- poll: two values whose groups are enough, in any two rows, are one
  one_enough : (a b : Row) → Heard a → Heard b → (v w : Code) → Enough m a v → Enough m b w → v ≡ w
  one_enough a b ta tb v w p q =
      let (r, h, x, y, i) = laws.share (group v a) (group w b) S p q enough in
      some_same v w (say r) (member_says a ta v r h i x) (member_says b tb w r h i y)

  pub one_polled : (a b : Row) → Heard a → Heard b → (v w : Code) → polled m a ≡ Some v → polled m b ≡ Some w → v ≡ w
  one_polled a b ta tb v w p q = one_enough a b ta tb v w (first_passes (has_enough m a) a v p) (first_passes (has_enough m b) b w q)

  -- ---- confirm: some member says a weighty value
  weighty_member : (row : Row) → Heard row → (v : Code) → weighty m row v ≡ true → (r : ℕ) × (r < m.size) × (r ∈ S) × (say r ≡ Some v)
  weighty_member row told v t =
      let (r, h, i, g) = (weighty_decides m laws row told.whole v).0 t S enough in
      (r, h, i, member_says row told v r h i g)

  -- a value whose group is enough in one row is weighty in every row
  enough_then_weighty : (a b : Row) → Heard a → Heard b → (v : Code) → Enough m a v → weighty m b v ≡ true
  enough_then_weighty a b ta tb v p = (weighty_decides m laws b tb.whole v).1 (λ g e.
      let (r, h, x, y, i) = laws.share g (group v a) S e p enough in
      (r, h, x, says_member b tb v r h i (member_says a ta v r h i y)))

  -- where the members say one value, a weighty value is confirmed
  weighty_confirmed : (row : Row) → Heard row → One m.size S say → (v x : Code) → weighty m row v ≡ true → confirmed m x row ≡ v
  weighty_confirmed row told one v x p =
      let (r, h, i, e) = weighty_member row told v p in
      let (w, f) = first_found (weighty m row) row r v (told.true_at r h i ∙ e) p in
      let (s, k, j, g) = weighty_member row told w (first_passes (weighty m row) row w f) in
      or_else_some (first (weighty m row) row) w x f ∙ one s r k h j i w v g e

  -- where one member is sure of a value, every member has confirmed it
  pub sure_confirmed : (a b : Row) → Heard a → Heard b → One m.size S say → (v x : Code) → has_enough m a v ≡ true → confirmed m x b ≡ v
  sure_confirmed a b ta tb one v x p = weighty_confirmed b tb one v x (enough_then_weighty a b ta tb v p)

  -- ---- where all members say one value
  module _ (row : Row) (told : Heard row) (v : Code) (all : All m.size S say v) where
    pub all_enough : has_enough m row v ≡ true
    all_enough = laws.more S (group v row) (λ i h k. says_member row told v i h k (all i h k)) enough

    pub all_polled : polled m row ≡ Some v
    all_polled = polled_value m laws row v all_enough

    pub all_confirmed : (x : Code) → confirmed m x row ≡ v
    all_confirmed x = sure_confirmed row row told told (λ r s h k i j a b p q. some_same a v (say r) p (all r h i) ∙ some_same v b (say s) (all s k j) q) v x all_enough

  -- ---- lead: where a member leads, whoever is sure of z holds what the lead says, and whoever is not takes it
  pub led_taken : (row : Row) → Heard row → (k : ℕ) → k < m.size → k ∈ S → (v z : Code) (sure : Bool) → say k ≡ Some v → (sure ≡ true → z ≡ v) → led m z sure k row ≡ v
  led_taken row told k h i v z true e f = f refl
  led_taken row told k h i v z false e f = or_else_some (word_at row k) v z (told.true_at k h i ∙ e)
