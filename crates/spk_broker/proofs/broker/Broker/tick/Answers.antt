use Rattle.std.proofs.Common.{subst, sym}
use Rattle.spk_broker_rules.specs.Plan.{Tick}
use Rattle.spk_broker.specs.Calm.{IsCalm}
use Rattle.spk_broker.specs.View.{state_was}
use Rattle.spk_broker.proofs.Finishing.{calm-found, closes-to, done-to, held-to, kept-to, now-index, sends-to, stands-to}
use Rattle.spk_broker.proofs.Leaving.{sound-order}
use Rattle.spk_broker.proofs.broker.Broker.tick.Goals as goal

pub conclude-concluded-requires-clause-stands : goal.conclude-concluded-requires-clause-stands
conclude-concluded-requires-clause-stands c =
    stands-to (Tick c.args.now) c.args.self.now c.self.inside.state c.draft_tick-drafted.new.self c.new-draft.result c.draft_tick-drafted.new.draft c.draft_tick-drafted.result
    (record { is = c.self.view_is; kept = c.self.invariant.sound; empty = c.new-draft.ensures; done = c.draft_tick-drafted.ensures.done; same = c.draft_tick-drafted.ensures.same })

pub invariant_of-self : goal.invariant_of-self
invariant_of-self c =
    let sound = kept-to (Tick c.args.now) c.args.self.now c.self.inside.state c.draft_tick-drafted.new.self c.conclude-concluded.new.self c.new-draft.result c.draft_tick-drafted.new.draft c.draft_tick-drafted.result c.conclude-concluded.result
    (record { is = c.self.view_is; kept = c.self.invariant.sound; empty = c.new-draft.ensures; done = c.draft_tick-drafted.ensures.done; same = c.draft_tick-drafted.ensures.same })
    (record { done = c.conclude-concluded.ensures.done; sends = c.conclude-concluded.ensures.sends; closes = c.conclude-concluded.ensures.closes; variant = c.conclude-concluded.ensures.variant; same = c.conclude-concluded.ensures.same; settled = c.conclude-concluded.ensures.settled }) in
    record {
      sound = record { settled = sound.settled; lawful = sound.lawful };
      index = held-to c.self.inside.index.tree c.conclude-concluded.new.index.tree c.self.inside.index.size c.conclude-concluded.new.index.size c.args.self.now c.self.inside.state c.draft_tick-drafted.new.self c.conclude-concluded.new.self
          c.self.invariant.sound c.draft_tick-drafted.ensures.same c.conclude-concluded.ensures.held c.self.invariant.index;
      calm = subst (λ m. IsCalm m (state_was c.conclude-concluded.new.self)) (sym c.next-self-inside.ensures) (calm-found c.draft_tick-drafted.new.calm c.self.inside.calm c.args.now c.args.self.now c.self.inside.state c.draft_tick-drafted.new.self c.conclude-concluded.new.self c.new-draft.result c.draft_tick-drafted.new.draft c.draft_tick-drafted.result c.conclude-concluded.result c.is_ok.result
          (record { is = c.self.view_is; kept = c.self.invariant.sound; empty = c.new-draft.ensures; done = c.draft_tick-drafted.ensures.done; same = c.draft_tick-drafted.ensures.same })
          (record { done = c.conclude-concluded.ensures.done; sends = c.conclude-concluded.ensures.sends; closes = c.conclude-concluded.ensures.closes; variant = c.conclude-concluded.ensures.variant; same = c.conclude-concluded.ensures.same; settled = c.conclude-concluded.ensures.settled })
          c.is_ok.ensures.value c.draft_tick-drafted.ensures.calm c.self.invariant.calm);
    }

pub returns-clause-sends : goal.returns-clause-sends
returns-clause-sends c =
    sends-to (Tick c.args.now) c.args.self.now c.self.inside.state c.draft_tick-drafted.new.self c.conclude-concluded.new.self c.new-draft.result c.draft_tick-drafted.new.draft c.draft_tick-drafted.result c.conclude-concluded.result
    (record { is = c.self.view_is; kept = c.self.invariant.sound; empty = c.new-draft.ensures; done = c.draft_tick-drafted.ensures.done; same = c.draft_tick-drafted.ensures.same })
    (record { done = c.conclude-concluded.ensures.done; sends = c.conclude-concluded.ensures.sends; closes = c.conclude-concluded.ensures.closes; variant = c.conclude-concluded.ensures.variant; same = c.conclude-concluded.ensures.same; settled = c.conclude-concluded.ensures.settled })

pub returns-clause-closes : goal.returns-clause-closes
returns-clause-closes c =
    closes-to (Tick c.args.now) c.args.self.now c.self.inside.state c.draft_tick-drafted.new.self c.conclude-concluded.new.self c.new-draft.result c.draft_tick-drafted.new.draft c.draft_tick-drafted.result c.conclude-concluded.result
    (record { is = c.self.view_is; kept = c.self.invariant.sound; empty = c.new-draft.ensures; done = c.draft_tick-drafted.ensures.done; same = c.draft_tick-drafted.ensures.same })
    (record { done = c.conclude-concluded.ensures.done; sends = c.conclude-concluded.ensures.sends; closes = c.conclude-concluded.ensures.closes; variant = c.conclude-concluded.ensures.variant; same = c.conclude-concluded.ensures.same; settled = c.conclude-concluded.ensures.settled })

pub returns-clause-done : goal.returns-clause-done
returns-clause-done c =
    done-to (Tick c.args.now) c.args.self.now c.self.inside.state c.draft_tick-drafted.new.self c.conclude-concluded.new.self c.new-draft.result c.draft_tick-drafted.new.draft c.draft_tick-drafted.result c.conclude-concluded.result
    (record { is = c.self.view_is; kept = c.self.invariant.sound; empty = c.new-draft.ensures; done = c.draft_tick-drafted.ensures.done; same = c.draft_tick-drafted.ensures.same })
    (record { done = c.conclude-concluded.ensures.done; sends = c.conclude-concluded.ensures.sends; closes = c.conclude-concluded.ensures.closes; variant = c.conclude-concluded.ensures.variant; same = c.conclude-concluded.ensures.same; settled = c.conclude-concluded.ensures.settled })

pub draft_tick-drafted-requires-clause-index : goal.draft_tick-drafted-requires-clause-index
draft_tick-drafted-requires-clause-index c = now-index c.self.inside.index.tree c.self.inside.index.size c.self.inside.state c.self.invariant.sound c.self.invariant.index

pub draft_tick-drafted-requires-clause-order : goal.draft_tick-drafted-requires-clause-order
draft_tick-drafted-requires-clause-order c = sound-order c.self.inside.index.tree c.self.inside.state c.self.invariant.sound

pub draft_tick-drafted-requires-clause-settled : goal.draft_tick-drafted-requires-clause-settled
draft_tick-drafted-requires-clause-settled c = c.self.invariant.sound.settled
