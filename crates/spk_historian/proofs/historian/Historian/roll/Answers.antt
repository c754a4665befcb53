use Rattle.std.proofs.Common.{sym, subst}
use Rattle.spk_historian.specs.Told.{HistorianData, Tells}
use Rattle.spk_historian.proofs.Telling.{rolled}
use Rattle.spk_historian.proofs.historian.Historian.roll.Goals as goal

pub returns-clause-tells : goal.returns-clause-tells
returns-clause-tells c =
    let h : HistorianData = record { parts = c.self.inside.parts; nodes = c.self.inside.nodes.items } in
    λ before entries part es t. rolled h c.roll.new.self before entries part es c.in_ok-roll.ensures.all c.in_ok-roll.ensures.named c.in_ok-roll.ensures.stands
    (subst (Tells before entries part es) (sym c.self.view_is) t)
