use Rattle.std.proofs.Common.{◌≡◌, ◌∙◌, ◌^◌, ◌+◌, ◌<◌, sym, true, nat_lt, length}
use Rattle.std.proofs.lemmas.Bool.{lt-ltb}
use Rattle.spk_edge_rules.specs.Rules as rule
use Rattle.spk_edge.specs.Patch.{IsPlan, IsRefusal, IsSealed, IsShort, IsUnsealed}
use Rattle.spk_edge.specs.View.{act_view, given_view, input_view}
use Rattle.spk_edge.proofs.Plans.{given-known, if-err, if-ok, planned, sealed_refused}
use Rattle.spk_edge.proofs.Still.{on-err, sealed-short}
use Rattle.spk_edge.proofs.node.EdgeNode.planned.Goals as goal

pub sealed-requires : goal.sealed-requires
sealed-requires c =
    given-known c.args.self.now (input_view c.args.input) c.in_ok-given.given c.args.input.ack c.in_ok-given-2.given c.in_ok-given.ensures.given c.in_ok-given-2.ensures.acked

pub returns-clause-planned : goal.returns-clause-planned
returns-clause-planned c =
    let n = c.args.self.now in
    let i = input_view c.args.input in
    let fit : rule.fits n.standing.asked.phase (act_view c.args.input.act) ≡ true = sym c.fits.ensures ∙ c.if-not-fits.false in
    let now : nat_lt c.args.input.now (2 ^ 63) ≡ true = lt-ltb c.args.input.now (2 ^ 63) c.if-input-ge-END.false in
    if-ok (IsSealed n i (given_view c.in_ok-given-2.given) c.in_ok-setting.setting) (IsPlan n i) c.sealed.result
    (λ p sealed. planned n i c.in_ok-given.given c.in_ok-given-2.given c.in_ok-setting.setting p fit now c.in_ok-given.ensures.given c.in_ok-given-2.ensures.acked c.in_ok-setting.ensures.set sealed)
    c.sealed.ensures.sealed

pub returns-clause-refused : goal.returns-clause-refused
returns-clause-refused c =
    let n = c.args.self.now in
    let i = input_view c.args.input in
    let fit : rule.fits n.standing.asked.phase (act_view c.args.input.act) ≡ true = sym c.fits.ensures ∙ c.if-not-fits.false in
    let now : nat_lt c.args.input.now (2 ^ 63) ≡ true = lt-ltb c.args.input.now (2 ^ 63) c.if-input-ge-END.false in
    if-err (IsUnsealed n (given_view c.in_ok-given-2.given)) (IsRefusal n i) c.sealed.result
    (λ e unsealed. sealed_refused n i c.in_ok-given.given c.in_ok-given-2.given e fit now c.in_ok-given.ensures.given c.in_ok-given-2.ensures.acked unsealed)
    c.sealed.ensures.fault

pub returns-clause-memory : goal.returns-clause-memory
returns-clause-memory c =
    let n = c.args.self.now in
    let i = input_view c.args.input in
    let g = given_view c.in_ok-given-2.given in
    on-err (0 < length g.plain + length g.messages) (IsShort n i) c.sealed.result
    (λ some e. sealed-short n i c.in_ok-given.given c.in_ok-given-2.given e c.in_ok-given.ensures.given c.in_ok-given-2.ensures.acked some)
    c.sealed.ensures.memory
