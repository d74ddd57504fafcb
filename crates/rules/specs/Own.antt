-- Our own rounds as a round rule: one slot, in which every value fits.
use Rattle.std.specs.Prelude.{◌≡◌, ℕ, List, [], ◌∷◌}
use Rattle.std.proofs.Common.{arith}
use Rattle.structure.specs.Meanings.{Meaning}
use Rattle.duty.specs.Codes.{Code}
use Rattle.rounds.specs.Rows.{Word}
use Rattle.rounds.specs.Slots.{Stage, speaks, rounds, next}
use Rattle.rounds.specs.Slots.Stage.{poll, confirm, lead, closed}
use Rattle.cores.specs.Sharing.{ThreesShare}
use Rattle.cores.specs.Leads.{table, Wiring}
use Rattle.rules.specs.Rules.{Rule, Serves}

-- the value held
abbrev pub held : Stage → Code
held (poll k x) = x
held (confirm k x y) = x
held (lead k z sure) = z
held (closed x) = x

abbrev pub one_code : Code
one_code = 1 ∷ []

abbrev pub other_code : Code
other_code = 2 ∷ []

pub codes_differ : one_code ≡ other_code → ⊥
codes_differ e = let z : ◌≡◌ {A = ℕ} 1 2 = cc in omega arith

abbrev pub own_rule : Meaning → Rule
own_rule m = record {
  State = Stage;
  Word = Word;
  Input = Code;
  one = one_code;
  other = other_code;
  differ = codes_differ;
  rounds = rounds m;
  first = λ p v. poll 0 v;
  word = λ s listener. speaks s;
  next = next m;
  decision = held;
}

-- our rounds on the table serve every wiring whose sets share controllers by threes
abbrev pub OwnServes : Type 0
OwnServes = (n : ℕ) (sets : List ℕ) → Wiring n sets → ThreesShare n sets → Serves (own_rule (table n sets)) n sets
