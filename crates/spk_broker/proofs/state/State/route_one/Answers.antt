use Rattle.std.proofs.Common.{map, true, ◌∙◌, ◌≤◌, ap, subst, sym, refl, length, vec_len, List, ◌≡◌, arith}
use Rattle.std.specs.List.{flat_map}
use Rattle.std.specs.Vec.{with_items}
use Rattle.indexmap.specs.IndexMap.{spare}
use Rattle.spk_broker_rules.specs.Data as plain
use Rattle.spk_broker.specs.declared.state.State.{State}
use Rattle.spk_broker.specs.Drafts.{Drafted, draft_view}
use Rattle.spk_broker.specs.Parts.{app_message_view, retained_view}
use Rattle.spk_broker.specs.Sendable.{are_sendable}
use Rattle.spk_broker.specs.Rounds.{kept_with, left_of_round, with_round}
use Rattle.spk_broker_rules.specs.Step.{serve}
use Rattle.spk_broker.specs.View.{session_now, session_was}
use Rattle.spk_broker.specs.Called.{AreKeyed}
use Rattle.spk_broker.specs.Filing.{IsIndex}
use Rattle.spk_broker.proofs.Quiet.{kept-index}
use Rattle.spk_broker.proofs.Refilled.{refilled}
use Rattle.spk_broker.proofs.Routes.{RoutedOne, one-fewer, one-stands}
use Rattle.spk_broker.proofs.Touched.{visited-as}
use Rattle.spk_broker.proofs.Visits.{order-as}
use Rattle.spk_broker.proofs.state.State.route_one.Goals as goal

abbrev Good : goal.In_ok-keep → Type 0
Good c = are_sendable (map retained_view c.keep.new.retained.entries) ≡ true

abbrev end : (c : goal.In_ok-keep) → Good c → State
end c good = record c.args.self.now { sessions = with_items c.args.self.now.sessions c.round.new.sessions; retained = c.keep.new.retained; sendable = good }

facts : (c : goal.In_ok-keep) (good : Good c) → RoutedOne (app_message_view c.args.app_message) c.args.self.now (end c good) c.args.draft.now c.keep.new.draft
facts c good =
    let m = app_message_view c.args.app_message in
    let lent = c.deref_mut.ensures.value in
    let round = c.in_ok-places.ensures in
    let back : (end c good).sessions.items ≡ c.round.new.sessions = refilled (vec_len c.args.self.now.sessions) c.round.new.sessions c.args.self.now.sessions.items (omega arith) (omega arith) in
    let drafted = round.drafted ∙ ap (λ l. with_round (serve m) (flat_map session_now l) (draft_view c.args.draft.now)) lent in
    let keeps : (draft_view c.round.new.draft).keeps ≡ (draft_view c.args.draft.now).keeps = ap (λ (x : Drafted). x.keeps) c.in_ok-places.ensures.drafted in
    record {
      shape = refl;
      sessions = ap (flat_map session_now) back ∙ round.left ∙ ap (λ l. left_of_round (serve m) (flat_map session_now l)) lent;
      retained = c.in_ok-keep.ensures.same;
      drafted = c.in_ok-keep.ensures.drafted ∙ ap (λ (x : Drafted). record x { keeps = kept_with m x.keeps }) drafted;
      room = λ h. c.in_ok-keep.ensures.room (subst (λ (l : List plain.AppMessage). length l ≤ spare c.args.self.now.retained) (sym keeps) h);
    }

pub returns-clause-done : goal.returns-clause-done
returns-clause-done c = one-stands (app_message_view c.args.app_message) c.args.self.now (end c c.self-2-1.given.0) c.args.draft.now c.keep.new.draft (facts c c.self-2-1.given.0)

pub returns-clause-fewer : goal.returns-clause-fewer
returns-clause-fewer c = one-fewer (app_message_view c.args.app_message) c.args.self.now (end c c.self-2-1.given.0) c.args.draft.now c.keep.new.draft (facts c c.self-2-1.given.0)

pub returns-clause-index : goal.returns-clause-index
returns-clause-index c =
    subst (IsIndex c.args.tree.now) (sym (facts c c.self-2-1.given.0).sessions)
    (kept-index c.args.tree.now (app_message_view c.args.app_message) (flat_map session_now c.args.self.now.sessions.items) c.requires.index)

pub returns-clause-order : goal.returns-clause-order
returns-clause-order c =
    let lent = c.deref_mut.ensures.value in
    let back : (end c c.self-2-1.given.0).sessions.items ≡ c.round.new.sessions = refilled (vec_len c.args.self.now.sessions) c.round.new.sessions c.args.self.now.sessions.items (omega arith) (omega arith) in
    order-as c.args.tree.now c.args.self.now.sessions.items (end c c.self-2-1.given.0).sessions.items
    (ap (map session_was) back ∙ c.round.ensures.was ∙ ap (map session_was) lent)
    (λ keyed. subst AreKeyed (sym back) (c.in_ok-places.ensures.keyed (subst AreKeyed (sym lent) keyed)))
    c.requires.order

pub returns-clause-visited : goal.returns-clause-visited
returns-clause-visited c =
    let lent = c.deref_mut.ensures.value in
    let back : (end c c.self-2-1.given.0).sessions.items ≡ c.round.new.sessions = refilled (vec_len c.args.self.now.sessions) c.round.new.sessions c.args.self.now.sessions.items (omega arith) (omega arith) in
    visited-as c.in_ok-places.places _ _ _ _ lent (sym back) c.in_ok-places.ensures.visited
