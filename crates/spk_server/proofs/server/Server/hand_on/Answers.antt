use Rattle.std.proofs.Common.{◌++◌, [], Option, subst, sym}
use Rattle.spk_broker.specs.declared.out.Out.{Out}
use Rattle.spk_server.specs.Log.{Reaches, follows}
use Rattle.spk_server.specs.Rooms.{amid, closes_in, offers_in, pressed}
use Rattle.spk_server.proofs.server.Server.hand_on.Goals as goal

pub returns-clause-hands : goal.returns-clause-hands
returns-clause-hands c by more before =
    subst (λ (o : Option Out). Reaches follows (amid c.args.self.now (offers_in by o) (closes_in c.args.own c.args.why o ++ more) before) (amid c.hand_out.new.self [] more (pressed by c.in_ok-slow.slow before))) (sym c.in-Some.is)
    (c.in_ok-slow.ensures.hands by more before)
