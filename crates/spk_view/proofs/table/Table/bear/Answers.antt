use Rattle.std.proofs.Common.{◌∙◌, ap, subst, List, map}
use Rattle.spk_payload.specs.Meaning.{MetricData}
use Rattle.spk_payload.specs.View.{metric_view}
use Rattle.spk_host_rules.specs.Data.{Row}
use Rattle.spk_view.specs.Rebirth.{AreAlike, heading}
use Rattle.spk_view.proofs.Anew.{indexed-anew, same-headings, table-anew}
use Rattle.spk_view.proofs.table.Table.bear.Goals as goal

pub invariant_of-self : goal.invariant_of-self
invariant_of-self c =
    let rows : List Row = c.self.inside.rows.items in
    let says : List MetricData = map metric_view c.args.metrics.now in
    let like : AreAlike rows says = subst (λ (l : List Row). AreAlike l says) c.deref.ensures.value (c.are_alike.ensures c.if-not-are_alike.false) in
    indexed-anew rows c.bear_all.new.rows.items c.self.inside.names.keys c.self.inside.aliases c.self.invariant
    (ap (map heading) c.bear_all.ensures ∙ same-headings rows says like)

pub returns-clause-born : goal.returns-clause-born
returns-clause-born c = λ is.
    let rows : List Row = c.self.inside.rows.items in
    let says : List MetricData = map metric_view c.args.metrics.now in
    let like : AreAlike rows says = subst (λ (l : List Row). AreAlike l says) c.deref.ensures.value (c.are_alike.ensures c.if-not-are_alike.false) in
    c.bear_all.ensures ∙ table-anew rows says c.self.inside.names.keys c.self.inside.aliases c.self.invariant like
