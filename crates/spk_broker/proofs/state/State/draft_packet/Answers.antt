use Rattle.std.proofs.Common.{◌≡◌, Global, Vec, map, refl, subst, sym, ap, ◌∙◌}
use Rattle.std.specs.List.{flat_map}
use Rattle.spk_packets.specs.View.{view}
use Rattle.spk_broker_rules.specs.Data as plain
use Rattle.spk_broker_rules.specs.Lawful.{IsLawful, Rises}
use Rattle.spk_broker_rules.specs.Plan.{At, Hear, Packet}
use Rattle.spk_broker_rules.specs.Step.{act, seen}
use Rattle.spk_broker.specs.Asking.{place_in}
use Rattle.spk_broker.specs.Called.{AreKeyed}
use Rattle.spk_broker.specs.View.{state_was, session_now, session_was}
use Rattle.spk_broker.specs.declared.session.Session.{Session}
use Rattle.spk_broker.proofs.Finishing.{index-on}
use Rattle.spk_broker.proofs.Quiet.{heard-index}
use Rattle.spk_broker.proofs.Touched.{alone-as}
use Rattle.spk_broker.proofs.Visits.{some-order}
use Rattle.spk_broker.proofs.state.State.draft_packet.Goals as goal

pub returns-clause-done : goal.returns-clause-done
returns-clause-done c t s =
    let t2 = act (Hear c.args.conn) (act (At c.args.now) t) in
    c.in_ok-ending.ensures.done (seen t2.broker (Packet c.args.conn (view c.args.packet.now) c.args.now)) t2 refl refl refl refl
    (c.hear.ensures.done c.args.draft.now (act (At c.args.now) t) (c.at.ensures.done c.args.draft.now t s))

pub hear-requires : goal.hear-requires
hear-requires c = ap (λ v. place_in c.args.conn v.items) c.at.ensures.sessions ∙ c.requires.place

pub judge_packet-requires-clause-index : goal.judge_packet-requires-clause-index
judge_packet-requires-clause-index c =
    let t = c.requires.stands.0 in
    let s = c.requires.stands.1 in
    index-on c.args.tree.now c.args.self.now c.hear.new.self c.args.draft.now c.args.draft.now t (act (Hear c.args.conn) (act (At c.args.now) t)) s
    (c.hear.ensures.done c.args.draft.now (act (At c.args.now) t) (c.at.ensures.done c.args.draft.now t s))
    (heard-index c.args.tree.now c.args.conn (act (At c.args.now) t)) c.requires.index

pub judge_packet-requires-clause-lawful : goal.judge_packet-requires-clause-lawful
judge_packet-requires-clause-lawful c = subst IsLawful (sym (c.hear.ensures.same ∙ c.at.ensures.same)) c.requires.lawful

pub judge_packet-requires-clause-order : goal.judge_packet-requires-clause-order
judge_packet-requires-clause-order c =
    some-order c.args.tree.now c.hear.new.self.sessions.items (state_was c.args.self.now).made
    (subst (λ (b : plain.Broker). Rises 0 (state_was c.args.self.now).made b.sessions) (sym (c.hear.ensures.same ∙ c.at.ensures.same)) c.requires.lawful.keys)
    (c.hear.ensures.keyed (subst (λ (v : Vec Session Global). AreKeyed v.items) (sym c.at.ensures.sessions) c.requires.keyed))

pub judge_packet-requires-clause-alone : goal.judge_packet-requires-clause-alone
judge_packet-requires-clause-alone c =
    c.hear.ensures.alone (alone-as c.args.place c.args.self.now c.at.new.self c.at.ensures.sessions c.at.ensures.newcomers c.requires.alone)

pub judge_packet-requires-clause-still : goal.judge_packet-requires-clause-still
judge_packet-requires-clause-still c = λ none. c.hear.ensures.still none (subst (λ (v : Vec Session Global). flat_map session_now v.items ≡ map session_was v.items) (sym c.at.ensures.sessions) c.requires.still)
