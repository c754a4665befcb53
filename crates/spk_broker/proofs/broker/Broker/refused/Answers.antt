use Rattle.std.proofs.Common.{sym}
use Rattle.spk_broker_rules.specs.Plan.{Refused}
use Rattle.spk_broker.proofs.Finishing.{calm-to, closes-to, done-to, held-to, kept-to, not-false, refused-to, sends-to, stands-to}
use Rattle.spk_broker.proofs.broker.Broker.refused.Goals as goal

pub conclude-requires-clause-stands : goal.conclude-requires-clause-stands
conclude-requires-clause-stands c =
    stands-to (Refused c.args.conn c.args.sort c.args.now) c.args.self.now c.self.inside.state c.draft_refused-drafted.new.self c.new-draft.result c.draft_refused-drafted.new.draft c.draft_refused-drafted.result
    (record { is = c.self.view_is; kept = c.self.invariant.sound; empty = c.new-draft.ensures; done = c.draft_refused-drafted.ensures.done; same = c.draft_refused-drafted.ensures.same })

pub draft_refused-drafted-requires-clause-place : goal.draft_refused-drafted-requires-clause-place
draft_refused-drafted-requires-clause-place c = sym c.seek-sought.ensures.place

pub draft_refused-drafted-requires-clause-alone : goal.draft_refused-drafted-requires-clause-alone
draft_refused-drafted-requires-clause-alone c = c.seek-sought.ensures.alone

pub invariant_of-self-2 : goal.invariant_of-self-2
invariant_of-self-2 c =
    let sound = kept-to (Refused c.args.conn c.args.sort c.args.now) c.args.self.now c.self.inside.state c.draft_refused-drafted.new.self c.conclude.new.self c.new-draft.result c.draft_refused-drafted.new.draft c.draft_refused-drafted.result c.conclude.result
    (record { is = c.self.view_is; kept = c.self.invariant.sound; empty = c.new-draft.ensures; done = c.draft_refused-drafted.ensures.done; same = c.draft_refused-drafted.ensures.same })
    (record { done = c.conclude.ensures.done; sends = c.conclude.ensures.sends; closes = c.conclude.ensures.closes; variant = c.conclude.ensures.variant; same = c.conclude.ensures.same; settled = c.conclude.ensures.settled }) in
    record {
      sound = record { settled = sound.settled; lawful = sound.lawful };
      index = held-to c.self.inside.index.tree c.conclude.new.index.tree c.self.inside.index.size c.conclude.new.index.size c.args.self.now c.self.inside.state c.draft_refused-drafted.new.self c.conclude.new.self
          c.self.invariant.sound c.draft_refused-drafted.ensures.same c.conclude.ensures.held c.self.invariant.index;
      calm = calm-to c.self.inside.calm (Refused c.args.conn c.args.sort c.args.now) c.args.self.now c.self.inside.state c.draft_refused-drafted.new.self c.conclude.new.self c.new-draft.result c.draft_refused-drafted.new.draft c.draft_refused-drafted.result c.conclude.result
          (record { is = c.self.view_is; kept = c.self.invariant.sound; empty = c.new-draft.ensures; done = c.draft_refused-drafted.ensures.done; same = c.draft_refused-drafted.ensures.same })
          (record { done = c.conclude.ensures.done; sends = c.conclude.ensures.sends; closes = c.conclude.ensures.closes; variant = c.conclude.ensures.variant; same = c.conclude.ensures.same; settled = c.conclude.ensures.settled })
          c.self.invariant.calm;
    }

pub returns-clause-sends : goal.returns-clause-sends
returns-clause-sends c =
    sends-to (Refused c.args.conn c.args.sort c.args.now) c.args.self.now c.self.inside.state c.draft_refused-drafted.new.self c.conclude.new.self c.new-draft.result c.draft_refused-drafted.new.draft c.draft_refused-drafted.result c.conclude.result
    (record { is = c.self.view_is; kept = c.self.invariant.sound; empty = c.new-draft.ensures; done = c.draft_refused-drafted.ensures.done; same = c.draft_refused-drafted.ensures.same })
    (record { done = c.conclude.ensures.done; sends = c.conclude.ensures.sends; closes = c.conclude.ensures.closes; variant = c.conclude.ensures.variant; same = c.conclude.ensures.same; settled = c.conclude.ensures.settled })

pub returns-clause-closes : goal.returns-clause-closes
returns-clause-closes c =
    closes-to (Refused c.args.conn c.args.sort c.args.now) c.args.self.now c.self.inside.state c.draft_refused-drafted.new.self c.conclude.new.self c.new-draft.result c.draft_refused-drafted.new.draft c.draft_refused-drafted.result c.conclude.result
    (record { is = c.self.view_is; kept = c.self.invariant.sound; empty = c.new-draft.ensures; done = c.draft_refused-drafted.ensures.done; same = c.draft_refused-drafted.ensures.same })
    (record { done = c.conclude.ensures.done; sends = c.conclude.ensures.sends; closes = c.conclude.ensures.closes; variant = c.conclude.ensures.variant; same = c.conclude.ensures.same; settled = c.conclude.ensures.settled })

pub returns-clause-done : goal.returns-clause-done
returns-clause-done c =
    done-to (Refused c.args.conn c.args.sort c.args.now) c.args.self.now c.self.inside.state c.draft_refused-drafted.new.self c.conclude.new.self c.new-draft.result c.draft_refused-drafted.new.draft c.draft_refused-drafted.result c.conclude.result
    (record { is = c.self.view_is; kept = c.self.invariant.sound; empty = c.new-draft.ensures; done = c.draft_refused-drafted.ensures.done; same = c.draft_refused-drafted.ensures.same })
    (record { done = c.conclude.ensures.done; sends = c.conclude.ensures.sends; closes = c.conclude.ensures.closes; variant = c.conclude.ensures.variant; same = c.conclude.ensures.same; settled = c.conclude.ensures.settled })

pub returns-clause-fault : goal.returns-clause-fault
returns-clause-fault c =
    refused-to c.args.conn c.args.self.now c.self.inside.state c.seek-sought.result.known c.conclude.result c.self.invariant.sound c.self.view_is c.seek-sought.ensures.known (not-false c.seek-sought.result.known c.if-not-sought.false) c.conclude.ensures.fault
