use Rattle.std.proofs.Common.{◌≡◌, ◌-◌, ◌≤◌, length, ap, arith, is_some, rules, tests, ◌∙◌}
use Rattle.std.specs.List.{slice_get, range_with_len}
use Rattle.std.proofs.lemmas.Iterator.{YieldsList-from_range}
use Rattle.std.proofs.lemmas.Iterator.Consumers.{count_from_yields_List}
use Rattle.std.proofs.lemmas.Iterator.Search.{YieldsList-from_take_while}
use Rattle.std.proofs.lemmas.List.Folds.{length-prefix_len}
use Rattle.engine.proofs.Leads.{counted}
use Rattle.engine.proofs.slots.leads.Goals as goal

pub returns : goal.returns
returns g c =
    let m = g.S.Structure.meaning c.args.structure.now in
    let test = λ (place : _). is_some (slice_get m.leads place) in
    let few : length m.leads ≤ m.size = (g.met.S.Structure.lawful c.args.structure.now).leads_few in
    let all : c.count.result ≡ length m.leads - 0 = count_from_yields_List c.take_while.result _ c.count.ensures.ran
    (YieldsList-from_take_while _ test (YieldsList-from_range 0 m.size m.size (c.take_while.ensures.source ∙ ap (λ n. record { start = 0; end = n }) c.size.ensures) (omega arith)) c.take_while.ensures.closure c.take_while.ensures.done (λ x b q k. search (rules, tests)))
    ∙ length-prefix_len test (range_with_len 0 m.size)
    ∙ counted m.leads 0 m.size (omega arith) in
    omega arith
