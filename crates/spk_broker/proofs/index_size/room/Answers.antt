use Rattle.std.proofs.Common.{◌∙◌, ap, arith, get_or}
use Rattle.std.proofs.lemmas.List.{take_all}
use Rattle.spk_broker.specs.Asking.{sessions_now}
use Rattle.spk_broker.specs.Both.{Both}
use Rattle.spk_broker.specs.Granting.{standing_grants}
use Rattle.spk_broker.specs.Sizes.{size_of_all, size_of_grants}
use Rattle.spk_broker.proofs.Sizes.{size-more, size-standing, size-within}
use Rattle.spk_broker.proofs.index_size.room.Goals as goal

pub returns-in-None : goal.returns-in-None
returns-in-None c =
    let bs = c.args.sessions.now in
    let i = c.loop-session.session-index in
    let within = size-within bs i c.session-item.result c.loop-session-test.true in
    let here = size-standing (get_or bs i c.session-item.result).now in
    let there = ap size_of_grants c.standing.ensures ∙ ap (λ (b : Both). size_of_grants (standing_grants b.now)) c.session-item.is in
    let over = c.in-None.ensures in
    let before = c.loop-session.invariant in
    omega (arith, within, here, there, over, before)

pub loop-session-preserved : goal.loop-session-preserved
loop-session-preserved c =
    let bs = c.args.sessions.now in
    let i = c.loop-session.session-index in
    let more = size-more bs i c.session-item.result c.loop-session-test.true in
    let here = size-standing (get_or bs i c.session-item.result).now in
    let there = ap size_of_grants c.standing.ensures ∙ ap (λ (b : Both). size_of_grants (standing_grants b.now)) c.session-item.is in
    let taken = c.in-Some.ensures in
    let before = c.loop-session.invariant in
    omega (arith, more, here, there, taken, before)

pub returns : goal.returns
returns c =
    let bs = c.args.sessions.now in
    let whole = ap (λ l. size_of_all (sessions_now l)) (take_all c.loop-session.session-index bs (omega arith)) in
    let before = c.loop-session.invariant in
    omega (arith, whole, before)
