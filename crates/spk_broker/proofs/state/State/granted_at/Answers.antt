use Rattle.std.proofs.Common.{◌≡◌, ◌∙◌, ap, map, sym, get_or, length, subst, List, [], ◌<◌, false, None}
use Rattle.std.proofs.lemmas.List.Quantifiers.{position-Some}
use Rattle.spk_packets.specs.View.{request_view}
use Rattle.spk_broker_rules.specs.Data as plain
use Rattle.spk_broker_rules.specs.Step.{other_grants, session_by, sits}
use Rattle.spk_broker.specs.Asking.{passes, session_here, sessions_now}
use Rattle.spk_broker.specs.Both.{Both}
use Rattle.spk_broker.specs.Granting.{granting_view, grown_by}
use Rattle.spk_broker.proofs.Alive.{found-alive}
use Rattle.spk_broker.proofs.Changes.{is-there}
use Rattle.spk_broker.proofs.Gives.{grown-there}
use Rattle.spk_broker.proofs.Near.{found-sits}
use Rattle.spk_broker.proofs.state.State.granted_at.Goals as goal

-- what is read past the end of a list
nobody : Both
nobody = record { was = record { key = 0; client = []; kept = false; here = None; grants = []; used = []; last = 0; in_flight = [] }; now = None }

pub granted-requires-clause-place : goal.granted-requires-clause-place
granted-requires-clause-place c =
    subst (λ (l : List Both). c.args.place < length l) (sym c.deref.ensures.value) (found-sits c.args.conn c.args.self.now.sessions.items c.args.place c.requires.place).0

pub returns-clause-view : goal.returns-clause-view
returns-clause-view c x t s =
    let bs = c.args.self.now.sessions.items in
    let i = c.args.place in
    let at = found-alive session_here (sits c.args.conn) bs i nobody c.requires.place in
    let there = is-there (sits c.args.conn) (get_or bs i nobody).now (position-Some (passes (sits c.args.conn)) bs i nobody c.requires.place).1 in
    let same : sessions_now bs ≡ t.broker.sessions = ap (λ (b : plain.Broker). b.sessions) s.broker in
    let sitting : session_by c.args.conn t.broker.sessions ≡ _ = ap (session_by c.args.conn) (sym same) ∙ at.1 ∙ there.1 in
    let counted : granting_view c.in_ok-granting.granting ≡ grown_by (other_grants there.0 (sessions_now c.deref.result.now)) there.0.grants (map request_view c.args.entries.now) =
    grown-there (λ x. granting_view c.in_ok-granting.granting ≡ grown_by (other_grants x (sessions_now c.deref.result.now)) x.grants (map request_view c.args.entries.now))
    (get_or c.deref.result.now i nobody).now there.0
    (ap (λ (xs : List Both). (get_or xs i nobody).now) c.deref.ensures.value ∙ there.1)
    (c.in_ok-granting.ensures.view nobody) in (
      there.0,
      sitting,
      counted ∙ ap (λ ss. grown_by (other_grants there.0 ss) there.0.grants (map request_view c.args.entries.now)) (ap sessions_now c.deref.ensures.value ∙ same),
    )
