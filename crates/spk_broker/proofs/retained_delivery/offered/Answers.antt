use Rattle.std.proofs.Common.{◌∙◌, ap, map, subst, sym, Global}
use Rattle.std.proofs.lemmas.Option.{slice_get-map}
use Rattle.std.specs.Option.{option_map}
use Rattle.spk_broker.specs.Encoded.{AreBytesOf, AreGiven, encoded_at}
use Rattle.spk_broker.specs.Offering.{offers_at}
use Rattle.spk_broker.specs.Parts.{grant_view, retained_view}
use Rattle.spk_broker.proofs.Keepers.{sendable-at}
use Rattle.spk_broker.proofs.retained_delivery.offered.Goals as goal

pub offered_one-requires-clause-sendable : goal.offered_one-requires-clause-sendable
offered_one-requires-clause-sendable c =
    sendable-at (map (retained_view {A = Global}) c.args.retained.now.entries) c.args.place _ c.requires.sendable
    (slice_get-map (retained_view {A = Global}) c.args.retained.now.entries c.args.place ∙ sym (ap (option_map (retained_view {A = Global})) c.in-Some.ensures.entry))

pub offered_one-requires-clause-right : goal.offered_one-requires-clause-right
offered_one-requires-clause-right c =
    subst (AreBytesOf (encoded_at c.args.encoded.now c.args.place))
    (slice_get-map (retained_view {A = Global}) c.args.retained.now.entries c.args.place ∙ sym (ap (option_map (retained_view {A = Global})) c.in-Some.ensures.entry))
    (c.requires.right c.args.place)

pub returns-in_ok-given-in-Some-clause-given : goal.returns-in_ok-given-in-Some-clause-given
returns-in_ok-given-in-Some-clause-given c =
    subst (AreGiven c.in_ok-given-in-Some.given)
    (ap (λ o. offers_at o (grant_view c.args.grant.now))
    (ap (option_map (retained_view {A = Global})) c.in-Some.ensures.entry ∙ sym (slice_get-map (retained_view {A = Global}) c.args.retained.now.entries c.args.place)))
    c.in_ok-given-in-Some.ensures.given

pub returns-in_ok-given-in-Some-clause-right : goal.returns-in_ok-given-in-Some-clause-right
returns-in_ok-given-in-Some-clause-right c =
    c.in_ok-given-in-Some.ensures.right (map (retained_view {A = Global}) c.args.retained.now.entries)
    (slice_get-map (retained_view {A = Global}) c.args.retained.now.entries c.args.place ∙ sym (ap (option_map (retained_view {A = Global})) c.in-Some.ensures.entry))
    c.requires.right

pub returns-in-None-clause-given : goal.returns-in-None-clause-given
returns-in-None-clause-given c =
    sym (ap (λ o. offers_at o (grant_view c.args.grant.now))
    (ap (option_map (retained_view {A = Global})) c.in-None.ensures.entry ∙ sym (slice_get-map (retained_view {A = Global}) c.args.retained.now.entries c.args.place)))
