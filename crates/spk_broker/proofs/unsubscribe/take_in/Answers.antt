use Rattle.std.proofs.Common.{◌≡◌, ◌∙◌, map, subst, refl, get_or, string_bytes}
use Rattle.std.specs.List.{fold}
use Rattle.std.specs.Option.{IfSome}
use Rattle.spk_broker_rules.specs.Data as plain
use Rattle.spk_broker_rules.specs.Step.{sits}
use Rattle.spk_broker.specs.Asking.{session_here}
use Rattle.spk_broker.specs.Granting.{taken_from, without_grants}
use Rattle.spk_broker.specs.Parts.{grant_view}
use Rattle.spk_broker.proofs.Alive.{same-there}
use Rattle.spk_broker.proofs.Changes.{change-now}
use Rattle.spk_broker.proofs.Filtering.{regranted-is}
use Rattle.spk_broker.proofs.Rounds.{was-step}
use Rattle.spk_broker.proofs.unsubscribe.take_in.Goals as goal

pub returns-clause-was : goal.returns-clause-was
returns-clause-was c =
    was-step c.args.sessions.now c.args.place c.index-sessions-place-2.result (get_or c.args.sessions.now c.args.place c.index-sessions-place-2.result) c.set_grants.new.self refl
    c.set_grants.ensures.was

pub returns-clause-now : goal.returns-clause-now
returns-clause-now c = λ low top r.
    let bs = c.args.sessions.now in
    let i = c.args.place in
    let names = map (λ name. string_bytes name) c.args.names.now in
    let new : map grant_view c.in_ok-grants.grants.items ≡ fold taken_from (map grant_view c.grants.result.now) names = c.in_ok-grants.ensures in
    let here : (get_or bs i c.index-sessions-place.result).now ≡ (get_or bs i c.index-sessions-place-2.result).now =
    same-there session_here (sits c.args.conn) bs i c.index-sessions-place.result c.index-sessions-place-2.result c.requires in
    let some : IfSome (get_or bs i c.index-sessions-place-2.result).now (λ s. map grant_view c.grants.result.now ≡ s.grants) =
    subst (λ o. IfSome o (λ (s : plain.Session). map grant_view c.grants.result.now ≡ s.grants)) here c.grants.ensures in
    change-now (sits c.args.conn) (without_grants names) bs i c.index-sessions-place-2.result c.set_grants.new.self low top c.requires
    (c.set_grants.ensures.now ∙ regranted-is (get_or bs i c.index-sessions-place-2.result).now _ (map grant_view c.grants.result.now) names new some) r
