use Rattle.std.proofs.Common.{◌∙◌, ap, arith, refl, string_bytes, sym}
use Rattle.spk_topics.specs.Fitting.{is_match}
use Rattle.spk_broker_rules.specs.Data as plain
use Rattle.spk_broker.specs.Offering.{retained_at}
use Rattle.spk_broker.specs.Parts.{grant_view, app_message_view, stored_view}
use Rattle.spk_broker.proofs.Offers.{offers-none, offers-one}
use Rattle.spk_broker.proofs.Sendables.{lower}
use Rattle.spk_broker.proofs.retained_delivery.offered_one.Goals as goal

pub returns-then-not-is_match-clause-given : goal.returns-then-not-is_match-clause-given
returns-then-not-is_match-clause-given c =
    sym (offers-none (grant_view c.args.grant.now) (string_bytes c.args.topic.now, stored_view c.args.stored.now)
    (ap (is_match (string_bytes c.args.grant.now.filter)) (sym c.as_str-2.ensures.value) ∙ ap (λ f. is_match f c.as_str-2.result.now) (sym c.as_str.ensures.value)
    ∙ sym c.is_match.ensures ∙ c.if-not-is_match.true))

pub app_message_at-requires : goal.app_message_at-requires
app_message_at-requires c =
    lower (string_bytes c.args.topic.now) c.args.stored.now.payload c.args.stored.now.qos c.min-qos.result c.requires.sendable (omega (arith, c.min-qos.ensures))

pub returns-then-qos-eq0-clause-given : goal.returns-then-qos-eq0-clause-given
returns-then-qos-eq0-clause-given c =
    let p : plain.AppMessage = retained_at 0 (string_bytes c.args.topic.now) (stored_view c.args.stored.now) in
    let one = offers-one (grant_view c.args.grant.now) (string_bytes c.args.topic.now, stored_view c.args.stored.now) p
    (ap (is_match (string_bytes c.args.grant.now.filter)) (sym c.as_str-2.ensures.value) ∙ ap (λ f. is_match f c.as_str-2.result.now) (sym c.as_str.ensures.value)
    ∙ sym c.is_match.ensures ∙ c.if-not-is_match.false)
    (ap (λ q. retained_at q (string_bytes c.args.topic.now) (stored_view c.args.stored.now)) (omega (arith, c.if-qos-eq0.true, c.min-qos.ensures))) in
    (p, sym one, (refl, c.in_ok-bytes.ensures.bytes))

pub returns-clause-given : goal.returns-clause-given
returns-clause-given c =
    let one = offers-one (grant_view c.args.grant.now) (string_bytes c.args.topic.now, stored_view c.args.stored.now) (app_message_view c.in_ok-app_message.app_message)
    (ap (is_match (string_bytes c.args.grant.now.filter)) (sym c.as_str-2.ensures.value) ∙ ap (λ f. is_match f c.as_str-2.result.now) (sym c.as_str.ensures.value)
    ∙ sym c.is_match.ensures ∙ c.if-not-is_match.false)
    (c.in_ok-app_message.ensures ∙ ap (λ q. retained_at q (string_bytes c.args.topic.now) (stored_view c.args.stored.now)) c.min-qos.ensures) in
    (app_message_view c.in_ok-app_message.app_message, sym one, refl)
