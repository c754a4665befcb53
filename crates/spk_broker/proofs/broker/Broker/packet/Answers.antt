use Rattle.std.proofs.Common.{ap, sym}
use Rattle.spk_packets.specs.View.{view}
use Rattle.spk_broker_rules.specs.Data as plain
use Rattle.spk_broker_rules.specs.Plan.{Packet}
use Rattle.spk_broker.specs.View.{state_now}
use Rattle.spk_broker.proofs.Finishing.{CallTo, Concluded, begun-for, calm-to, closes-to, done-to, held-to, kept-to, refused-to, now-held, was-held, sends-to, stands-to}
use Rattle.spk_broker.proofs.Follows.{held-index}
use Rattle.spk_broker.proofs.Touched.{settled-keyed}
use Rattle.spk_broker.proofs.broker.Broker.packet.Goals as goal

pub conclude-concluded-requires-clause-stands : goal.conclude-concluded-requires-clause-stands
conclude-concluded-requires-clause-stands c =
    stands-to (Packet c.args.conn (view c.args.packet.now) c.args.now) c.args.self.now c.self.inside.state c.draft_packet-drafted.new.self c.new-draft.result c.draft_packet-drafted.new.draft c.draft_packet-drafted.result
    (record { is = c.self.view_is; kept = c.self.invariant.sound; empty = c.new-draft.ensures; done = c.draft_packet-drafted.ensures.done; same = c.draft_packet-drafted.ensures.same })

pub invariant_of-self : goal.invariant_of-self
invariant_of-self c = record { sound = c.self.invariant.sound; index = c.self.invariant.index; calm = c.self.invariant.calm }

pub invariant_of-self-2 : goal.invariant_of-self-2
invariant_of-self-2 c =
    let call : CallTo (Packet c.args.conn (view c.args.packet.now) c.args.now) c.args.self.now c.self.inside.state c.draft_packet-drafted.new.self c.new-draft.result c.draft_packet-drafted.new.draft c.draft_packet-drafted.result =
    record { is = c.self.view_is; kept = c.self.invariant.sound; empty = c.new-draft.ensures; done = c.draft_packet-drafted.ensures.done; same = c.draft_packet-drafted.ensures.same } in
    let end : Concluded c.draft_packet-drafted.new.self c.conclude-concluded.new.self c.draft_packet-drafted.new.draft c.draft_packet-drafted.result c.conclude-concluded.result =
    record { done = c.conclude-concluded.ensures.done; sends = c.conclude-concluded.ensures.sends; closes = c.conclude-concluded.ensures.closes; variant = c.conclude-concluded.ensures.variant; same = c.conclude-concluded.ensures.same; settled = c.conclude-concluded.ensures.settled } in
    let sound = kept-to (Packet c.args.conn (view c.args.packet.now) c.args.now) c.args.self.now c.self.inside.state c.draft_packet-drafted.new.self c.conclude-concluded.new.self c.new-draft.result c.draft_packet-drafted.new.draft c.draft_packet-drafted.result c.conclude-concluded.result call end in
    record {
      sound = record { settled = sound.settled; lawful = sound.lawful };
      index = held-to c.ready.new.self.tree c.conclude-concluded.new.index.tree c.ready.new.self.size c.conclude-concluded.new.index.size c.args.self.now c.self.inside.state c.draft_packet-drafted.new.self c.conclude-concluded.new.self
          c.self.invariant.sound c.draft_packet-drafted.ensures.same c.conclude-concluded.ensures.held
          (was-held c.ready.new.self.tree c.ready.new.self.size c.self.inside.state c.self.invariant.sound c.ready.ensures.index);
      calm = calm-to c.self.inside.calm (Packet c.args.conn (view c.args.packet.now) c.args.now) c.args.self.now c.self.inside.state c.draft_packet-drafted.new.self c.conclude-concluded.new.self c.new-draft.result c.draft_packet-drafted.new.draft c.draft_packet-drafted.result c.conclude-concluded.result call end c.self.invariant.calm;
    }

pub returns-clause-sends : goal.returns-clause-sends
returns-clause-sends c =
    sends-to (Packet c.args.conn (view c.args.packet.now) c.args.now) c.args.self.now c.self.inside.state c.draft_packet-drafted.new.self c.conclude-concluded.new.self c.new-draft.result c.draft_packet-drafted.new.draft c.draft_packet-drafted.result c.conclude-concluded.result
    (record { is = c.self.view_is; kept = c.self.invariant.sound; empty = c.new-draft.ensures; done = c.draft_packet-drafted.ensures.done; same = c.draft_packet-drafted.ensures.same })
    (record { done = c.conclude-concluded.ensures.done; sends = c.conclude-concluded.ensures.sends; closes = c.conclude-concluded.ensures.closes; variant = c.conclude-concluded.ensures.variant; same = c.conclude-concluded.ensures.same; settled = c.conclude-concluded.ensures.settled })

pub returns-clause-closes : goal.returns-clause-closes
returns-clause-closes c =
    closes-to (Packet c.args.conn (view c.args.packet.now) c.args.now) c.args.self.now c.self.inside.state c.draft_packet-drafted.new.self c.conclude-concluded.new.self c.new-draft.result c.draft_packet-drafted.new.draft c.draft_packet-drafted.result c.conclude-concluded.result
    (record { is = c.self.view_is; kept = c.self.invariant.sound; empty = c.new-draft.ensures; done = c.draft_packet-drafted.ensures.done; same = c.draft_packet-drafted.ensures.same })
    (record { done = c.conclude-concluded.ensures.done; sends = c.conclude-concluded.ensures.sends; closes = c.conclude-concluded.ensures.closes; variant = c.conclude-concluded.ensures.variant; same = c.conclude-concluded.ensures.same; settled = c.conclude-concluded.ensures.settled })

pub returns-clause-done : goal.returns-clause-done
returns-clause-done c =
    done-to (Packet c.args.conn (view c.args.packet.now) c.args.now) c.args.self.now c.self.inside.state c.draft_packet-drafted.new.self c.conclude-concluded.new.self c.new-draft.result c.draft_packet-drafted.new.draft c.draft_packet-drafted.result c.conclude-concluded.result
    (record { is = c.self.view_is; kept = c.self.invariant.sound; empty = c.new-draft.ensures; done = c.draft_packet-drafted.ensures.done; same = c.draft_packet-drafted.ensures.same })
    (record { done = c.conclude-concluded.ensures.done; sends = c.conclude-concluded.ensures.sends; closes = c.conclude-concluded.ensures.closes; variant = c.conclude-concluded.ensures.variant; same = c.conclude-concluded.ensures.same; settled = c.conclude-concluded.ensures.settled })

pub ready-requires : goal.ready-requires
ready-requires c = now-held c.self.inside.index.tree c.self.inside.index.size c.self.inside.state c.self.invariant.sound c.self.invariant.index

pub draft_packet-drafted-requires-clause-index : goal.draft_packet-drafted-requires-clause-index
draft_packet-drafted-requires-clause-index c = held-index c.ready.new.self.tree c.ready.new.self.size (state_now c.self.inside.state).sessions c.ready.ensures.index

pub draft_packet-drafted-requires-clause-stands : goal.draft_packet-drafted-requires-clause-stands
draft_packet-drafted-requires-clause-stands c = begun-for c.self.inside.state c.new-draft.result c.self.invariant.sound c.new-draft.ensures

pub draft_packet-drafted-requires-clause-lawful : goal.draft_packet-drafted-requires-clause-lawful
draft_packet-drafted-requires-clause-lawful c = c.self.invariant.sound.lawful

pub draft_packet-drafted-requires-clause-place : goal.draft_packet-drafted-requires-clause-place
draft_packet-drafted-requires-clause-place c = sym c.seek-sought.ensures.place

pub draft_packet-drafted-requires-clause-alone : goal.draft_packet-drafted-requires-clause-alone
draft_packet-drafted-requires-clause-alone c = c.seek-sought.ensures.alone

pub draft_packet-drafted-requires-clause-keyed : goal.draft_packet-drafted-requires-clause-keyed
draft_packet-drafted-requires-clause-keyed c = settled-keyed c.self.inside.state c.self.invariant.sound.settled

pub draft_packet-drafted-requires-clause-still : goal.draft_packet-drafted-requires-clause-still
draft_packet-drafted-requires-clause-still c = ap (λ (b : plain.Broker). b.sessions) c.self.invariant.sound.settled

pub returns-clause-fault : goal.returns-clause-fault
returns-clause-fault c =
    refused-to c.args.conn c.args.self.now c.self.inside.state c.seek-sought.result.known c.conclude-concluded.result c.self.invariant.sound c.self.view_is c.seek-sought.ensures.known c.if-not-sought.false c.conclude-concluded.ensures.fault
