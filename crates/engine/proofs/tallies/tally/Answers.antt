use Rattle.std.proofs.Common.{◌≡◌, ◌+◌, true, false, length, min, take, drop, sym, ap, ◌∙◌, arith}
use Rattle.std.proofs.lemmas.List.{drop_all, take_min}
use Rattle.rounds.specs.Rows.{group}
use Rattle.engine.specs.Words.{word_code, codes}
use Rattle.engine.proofs.Groups.{group_turn}
use Rattle.engine.proofs.Words.{codes_from}
use Rattle.engine.proofs.tallies.tally.Goals as goal
use Rattle.engine.proofs.tallies.tally.Goals.{then-says, else-says}

pub loop-i-preserved : goal.loop-i-preserved
loop-i-preserved g c =
    let K = g.V.Same in
    let words = take c.min.result c.args.words.now in
    let i = c.loop-i.i in
    let word = c.index-counted-i.result in
    let turn = group_turn (K.code c.args.value.now) (codes K words) (codes K (drop i words)) (codes K (drop (i + 1) words)) (word_code K word) c.loop-i.group i in
    let begins = codes_from K words i word c.loop-i-test.true c.index-counted-i.is in
    elim c.if-says.branch [
      | then-says w ↦
          let t = turn true begins (sym w.if-says.true ∙ c.says.ensures) c.loop-i.invariant.1 c.loop-i.invariant.2 in
          (omega arith, rw (w.group-is, w.alone-group.ensures) t.0, rw (w.group-is, w.alone-group.ensures) t.1)
      | else-says w ↦
          let t = turn false begins (sym w.if-says.false ∙ c.says.ensures) c.loop-i.invariant.1 c.loop-i.invariant.2 in
          (omega arith, rw w.group-is t.0, rw w.group-is t.1)
    ]

pub returns : goal.returns
returns g c =
    let K = g.V.Same in
    let v = K.code c.args.value.now in
    let words = take c.min.result c.args.words.now in
    let past : group v (codes K (drop c.loop-i.i words)) ≡ 0 = ap (λ ws. group v (codes K ws)) (drop_all c.loop-i.i words c.loop-i-test.false) in
    let all : c.loop-i.group ≡ group v (codes K words) = omega (arith, rw past at c.loop-i.invariant.2) in
    let counted : c.min.result ≡ min 16 (length c.args.words.now) = omega arith in
    all ∙ ap (λ ws. group v (codes K ws)) (ap (λ n. take n c.args.words.now) counted ∙ take_min 16 c.args.words.now)
