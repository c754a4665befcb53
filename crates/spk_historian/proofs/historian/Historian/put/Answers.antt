use Rattle.std.proofs.Common.{sym, subst, ap, ◌∙◌, ◌≡◌, ◌++◌, ◌∷◌, [], ℕ, List, IfSome, true}
use Rattle.std.specs.Option.{option_map_or}
use Rattle.spk_historian.specs.declared.nodes.Kept.{Kept}
use Rattle.spk_historian.specs.Event.{event_view, node_of}
use Rattle.spk_historian.specs.Told.{AddsTo, HistorianData, Tells, awaited, entry_of, entry_with, kept_at}
use Rattle.spk_historian.proofs.Telling.{position, told}
use Rattle.spk_historian.proofs.historian.Historian.put.Goals as goal

pub returns-clause-tells : goal.returns-clause-tells
returns-clause-tells c =
    let h : HistorianData = record { parts = c.self.inside.parts; nodes = c.self.inside.nodes.items } in
    let e = event_view c.args.event.now in
    λ before entries part es t.
    let there = subst (Tells before entries part es) (sym c.self.view_is) t in
    told h c.put.new.parts c.count.new.nodes.items e before entries part es
    (subst (λ p. AddsTo h.parts (entry_with p e) c.put.new.parts) (c.position_of-position.ensures ∙ position h.nodes es there.counts (node_of e)) c.in_ok-put.ensures.stands)
    (subst (λ (w : HistorianData). IfSome (node_of e) (λ node. (kept_at w.nodes node.number).is_named ≡ true)) (sym c.self.view_is) c.requires.named)
    c.count.ensures.named (c.count.ensures.counts es there.counts) there
