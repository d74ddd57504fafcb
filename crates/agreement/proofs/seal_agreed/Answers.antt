use Rattle.structure.specs.Meanings.{Laws}
use Rattle.std.proofs.Common.{subst}
use Rattle.agreement.proofs.Agreed.{agrees, keeps}
use Rattle.agreement.proofs.Served.{written, served}
use Rattle.agreement.proofs.Tracks.{lived}
use Rattle.agreement.proofs.seal_agreed.Goals as goal

pub returns : goal.returns
returns g c =
    let M = g.S.Structure in
    let G = g.D.Duty in
    let K = g.D.Value.Same in
    let d = c.args.draft.now in
    let r = c.seal.result in
    let lawful = g.met.S.Structure.lawful in
    let old = c.args.table.now in
    let new = c.seal.new.table in
    let w = written d old r new c.seal.ensures.after in
    record {
      answer = c.seal.ensures.answer;
      written = w;
      served = λ some. served g.R.RoundRule.rule d old r new w some c.seal.ensures.answer c.seal.ensures.reason (c.seal.ensures.threes some);
      controllers = record {
        agree = agrees M G K lawful;
        live = λ m σ k v es c life. lived M G K m (subst Laws life.meaning (lawful life.s)) σ k v es c life;
        keep = keeps M G K lawful;
      };
    }
