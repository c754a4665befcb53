use Rattle.std.proofs.Common.{◌≡◌, ◌∙◌, ap, map, get_or, subst, length}
use Rattle.std.specs.List.{fold, list_all}
use Rattle.std.proofs.lemmas.List.{length-map}
use Rattle.std.specs.Option.{IfSome}
use Rattle.spk_packets.specs.View.{request_view}
use Rattle.spk_broker.specs.Asking.{sessions_now}
use Rattle.spk_broker.specs.Both.{Both}
use Rattle.spk_broker.specs.Granting.{granting_view, with_request}
use Rattle.spk_broker.specs.Parts.{grant_view}
use Rattle.spk_packets.specs.Grammar.{is_grant}
use Rattle.spk_broker.proofs.Counts.{any-default, codes-are, codes-grant, codes-long, grown-is}
use Rattle.spk_broker.proofs.subscribe_grants.granted.Goals as goal

pub returns-clause-view : goal.returns-clause-view
returns-clause-view c d =
    let others = c.count_others-others.result in
    let es = map request_view c.args.entries.now in
    let had = map grant_view c.grants.result.now in
    let here = c.index-sessions-place.is ∙ any-default c.args.sessions.now c.args.place c.index-sessions-place.result d c.requires.place in
    grown-is (get_or c.args.sessions.now c.args.place d).now (sessions_now c.args.sessions.now) others had (granting_view c.settled.result)
    es (c.count_others-others.ensures d)
    (subst (λ (b : Both). IfSome b.now (λ s. had ≡ s.grants)) here c.grants.ensures)
    (c.settled.ensures ∙ c.in_ok-request_all.ensures ∙ ap (λ g. fold (with_request others) g es) c.in_ok-requests.ensures.view)

pub returns-clause-codes : goal.returns-clause-codes
returns-clause-codes c =
    let others = c.count_others-others.result in
    let es = map request_view c.args.entries.now in
    let had = map grant_view c.grants.result.now in
    ap length (codes-are (granting_view c.settled.result) others had es
    (c.settled.ensures ∙ c.in_ok-request_all.ensures ∙ ap (λ g. fold (with_request others) g es) c.in_ok-requests.ensures.view))
    ∙ codes-long others had es ∙ length-map c.args.entries.now request_view

pub returns-clause-granted : goal.returns-clause-granted
returns-clause-granted c =
    let others = c.count_others-others.result in
    let es = map request_view c.args.entries.now in
    let had = map grant_view c.grants.result.now in
    ap (list_all is_grant) (codes-are (granting_view c.settled.result) others had es
    (c.settled.ensures ∙ c.in_ok-request_all.ensures ∙ ap (λ g. fold (with_request others) g es) c.in_ok-requests.ensures.view))
    ∙ codes-grant others had es
