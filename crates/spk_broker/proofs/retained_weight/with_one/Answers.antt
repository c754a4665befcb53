use Rattle.std.proofs.Common.{◌∙◌, ap, min, refl, sym, string_bytes}
use Rattle.spk_topics.specs.Fitting.{is_match}
use Rattle.spk_broker.specs.Parts.{grant_view, stored_view}
use Rattle.spk_broker.specs.Weighing.{heaped}
use Rattle.spk_broker.proofs.Offers.{offers-none, offers-one}
use Rattle.spk_broker.proofs.Weights.{heap-none}
use Rattle.spk_broker.proofs.retained_weight.with_one.Goals as goal

pub returns-then-not-is_match : goal.returns-then-not-is_match
returns-then-not-is_match c =
    heap-none c.args.weight c.requires
    ∙ ap (heaped c.args.weight) (offers-none (grant_view c.args.grant.now) (string_bytes c.args.topic.now, stored_view c.args.stored.now)
    (ap (is_match (string_bytes c.args.grant.now.filter)) (sym c.as_str-2.ensures.value) ∙ ap (λ f. is_match f c.as_str-2.result.now) (sym c.as_str.ensures.value)
    ∙ sym c.is_match.ensures ∙ c.if-not-is_match.true))

pub returns : goal.returns
returns c =
    c.with_message.ensures (min c.args.stored.now.qos c.args.grant.now.qos)
    ∙ ap (heaped c.args.weight) (offers-one (grant_view c.args.grant.now) (string_bytes c.args.topic.now, stored_view c.args.stored.now) _
    (ap (is_match (string_bytes c.args.grant.now.filter)) (sym c.as_str-2.ensures.value) ∙ ap (λ f. is_match f c.as_str-2.result.now) (sym c.as_str.ensures.value)
    ∙ sym c.is_match.ensures ∙ c.if-not-is_match.false) refl)
