use Rattle.std.proofs.Common.{Ok, Err, refl, ap}
use Rattle.text.specs.Yards.{with_running}
use Rattle.text.proofs.yards.Yard.open.Goals as goal

pub returns-in-Ok : goal.returns-in-Ok
returns-in-Ok g c = (Ok c.in-Ok.controller, c.in-Ok.ensures, (refl, ap (with_running c.args.self.now) c.running.ensures))

pub returns-in-Err : goal.returns-in-Err
returns-in-Err g c = (Err c.in-Err.unopened, c.in-Err.ensures, (refl, refl))
