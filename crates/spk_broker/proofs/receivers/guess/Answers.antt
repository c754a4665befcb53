use Rattle.std.proofs.Common.{◌∙◌, ap, rules, sym}
use Rattle.std.proofs.lemmas.List.Sorted.{answers_always}
use Rattle.spk_broker.specs.Both.{Both}
use Rattle.spk_broker.proofs.Ordered.{found-there, missed-there, was-same}
use Rattle.spk_broker.proofs.Touched.{same-read}
use Rattle.spk_broker.proofs.receivers.guess.Goals as goal

pub returns-in-Ok : goal.returns-in-Ok
returns-in-Ok c =
    found-there c.args.sessions.now c.args.key c.in-Ok.place c.in-Ok.ensures.bound
    (c.in-Ok.ensures.position (λ (b : Both). b.was.key) (answers_always _ _ _ (λ f a r g called. search rules)))

pub returns-in-Err : goal.returns-in-Err
returns-in-Err c =
    missed-there c.args.sessions.now c.args.key c.in-Err.place c.binary_search_by_key.result c.in-Err.is
    (c.binary_search_by_key.ensures.position (λ (b : Both). b.was.key) (answers_always _ _ _ (λ f a r g called. search rules)))

pub returns-then-key : goal.returns-then-key
returns-then-key c o i d low is =
    was-same c.args.sessions.now o i c.args.near d low c.if-near-sessions.true
    (is
    ∙ sym (ap (λ (b : Both). b.was.key) (same-read c.args.sessions.now c.args.near d c.index-sessions-near.result c.if-near-sessions.true ∙ sym c.index-sessions-near.is) ∙ sym c.key.ensures.was ∙ c.if-key.true))
