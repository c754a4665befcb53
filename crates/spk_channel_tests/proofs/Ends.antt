-- Which ends are of one ring, after calls on them.
use Rattle.std.proofs.Common.{sym, ◌∙◌}
use Rattle.spk_rings.specs.Ring.{AreEnds, SameOutlet, SameInlet, FinishedFrom, IsTokenOf}
use Rattle.spk_rings.specs.declared.outlet.Outlet.{Outlet}
use Rattle.spk_rings.specs.declared.inlet.Inlet.{Inlet}
use Rattle.spk_rings.specs.declared.token.Token.{Token}

pub ends_offer : (o p : Outlet) (i : Inlet) → AreEnds o i → SameOutlet o p → AreEnds p i
ends_offer o p i e s = (e.0 ∙ sym s.0, e.1 ∙ sym s.1, e.2 ∙ sym s.2, e.3 ∙ sym s.3)

pub ends_take : (o : Outlet) (i j : Inlet) → AreEnds o i → SameInlet i j → AreEnds o j
ends_take o i j e s = (s.0 ∙ e.0, s.1 ∙ e.1, s.2 ∙ e.2, s.3 ∙ e.3)

pub ends_finish : (o : Outlet) (i : Inlet) (t : Token) → AreEnds o i → FinishedFrom o t → IsTokenOf t i
ends_finish o i t e s = (e.0 ∙ sym s.0, e.1 ∙ sym s.1, e.2 ∙ sym s.2, e.3 ∙ sym s.3)

pub token_take : (t : Token) (i j : Inlet) → IsTokenOf t i → SameInlet i j → IsTokenOf t j
token_take t i j e s = (s.0 ∙ e.0, s.1 ∙ e.1, s.2 ∙ e.2, s.3 ∙ e.3)
