use Rattle.std.proofs.Common.{sym, subst, ap, ◌∙◌, ◌≡◌, ◌++◌, ℕ, List}
use Rattle.spk_historian.specs.declared.nodes.Kept.{Kept}
use Rattle.spk_historian.specs.Event.{name_view}
use Rattle.spk_historian.specs.Told.{HistorianData, Tells, kept_at, naming_as}
use Rattle.spk_historian.proofs.Telling.{newly_called}
use Rattle.spk_historian.proofs.historian.Historian.name.Goals as goal

pub returns-clause-tells : goal.returns-clause-tells
returns-clause-tells c =
    let h : HistorianData = record { parts = c.self.inside.parts; nodes = c.self.inside.nodes.items } in
    let node = name_view c.args.node.now in
    λ before entries part es t.
    subst (λ (w : HistorianData). Tells before (entries ++ naming_as w.nodes node) part es (record { parts = c.put.new.self; nodes = c.keep.new.nodes.items })) c.self.view_is
    (newly_called h c.put.new.self c.make_place.new.nodes.items c.keep.new.nodes.items c.kept_of-kept.result node c.make_place.ensures.same
    c.kept_of-kept.ensures c.if-kept.false
    c.in_ok-put.ensures.stands c.in_ok-put.ensures.named
    c.keep.ensures
    before entries part es (subst (Tells before entries part es) (sym c.self.view_is) t))
