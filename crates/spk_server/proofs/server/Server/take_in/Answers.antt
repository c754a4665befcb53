use Rattle.std.proofs.Common.{◌∙◌, ℕ, Option, inl, inr, ap, sym}
use Rattle.spk_clients.specs.declared.cause.Cause.TheVariants as cause
use Rattle.spk_clients.specs.declared.client.Client.{Client}
use Rattle.spk_clients.specs.Client.{takes_in}
use Rattle.spk_clients.specs.Data.{IsSettled}
use Rattle.spk_server.specs.Data.{Room}
use Rattle.spk_server.specs.Log.{follows, takes}
use Rattle.spk_server.specs.Rooms.{room_of}
use Rattle.spk_server.specs.Step.{left}
use Rattle.spk_server.proofs.Rooms.{change_is, same_after}
use Rattle.spk_server.proofs.Runs.{at_start}
use Rattle.spk_server.proofs.server.Server.take_in.Goals as goal

pub returns-then-feed-clause-done : goal.returns-then-feed-clause-done
returns-then-feed-clause-done c settled here =
    let still : IsSettled c.feed.new.self = (c.feed.ensures.noted settled.0, c.feed.ensures.untold ∙ settled.1) in
    inl (record {
      here = here;
      taken = at_start (takes c.args.conn) _ _ _ (ap {A = ℕ → Option Client} {B = Room} (λ cs. record (room_of c.args.self.now) { clients = cs }) (sym (change_is (takes_in c.args.piece.now) c.args.conn c.args.self.now.clients c.feed.new.self (c.feed.ensures.taken c.if-feed.true))))
          (c.in_ok-take_packets.ensures.takes still);
      up = c.in_ok-take_packets.ensures.up;
    })

pub returns-clause-done : goal.returns-clause-done
returns-clause-done c settled here =
    inr (record {
      here = here;
      ended = at_start follows _ _ _ (ap {A = ℕ → Option Client} {B = Room} (λ cs. left c.args.conn cause.Memory (record (room_of c.args.self.now) { clients = cs })) (sym (same_after c.args.conn c.args.self.now.clients c.feed.new.self (c.feed.ensures.refused c.if-feed.false) c.feed.ensures.others)))
          c.in_ok-give_up.ensures.ends;
    })
