use Rattle.std.proofs.Common.{sym, ap, arith}
use Rattle.std.proofs.lemmas.List.{length-map}
use Rattle.spk_device.specs.Book.{Book}
use Rattle.spk_device.specs.View.{gauge_view}
use Rattle.spk_device.proofs.IndexLemmas.{owned-there, owned-within}
use Rattle.spk_device.proofs.registry.Registry.owned_at.Goals as goal

pub overflow_add-result : goal.overflow_add-result
overflow_add-result c =
    let low = owned-within c.args.self.now c.args.owner c.self.inside.gauges.items c.in_ok-table.table.now c.args.place c.in_ok-number.number
    (ap (λ (b : Book). b.gauges) (sym c.self.view_is)) c.in_ok-table.ensures.names c.in_ok-number.ensures in
    let few = c.self.invariant.lawful.few_gauges in
    let size = length-map c.self.inside.gauges.items gauge_view in
    omega arith

pub index-gauge-requires : goal.index-gauge-requires
index-gauge-requires c =
    let low = owned-within c.args.self.now c.args.owner c.self.inside.gauges.items c.in_ok-table.table.now c.args.place c.in_ok-number.number
    (ap (λ (b : Book). b.gauges) (sym c.self.view_is)) c.in_ok-table.ensures.names c.in_ok-number.ensures in
    omega arith

pub returns-clause-some : goal.returns-clause-some
returns-clause-some c =
    owned-there c.args.self.now c.args.owner c.self.inside.gauges.items c.in_ok-table.table.now c.args.place c.in_ok-number.number c.index-gauge.result.now
    (ap (λ (b : Book). b.gauges) (sym c.self.view_is)) c.in_ok-table.ensures.names c.in_ok-number.ensures c.index-gauge.ensures
