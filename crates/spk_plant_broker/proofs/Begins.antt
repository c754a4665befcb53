-- A thread to which nothing came yet.
use Rattle.std.proofs.Common.{◌≡◌, ◌-◌, ℕ, false, List, [], length, refl, arith}
use Rattle.spk_rings.specs.declared.outlet.Outlet.{Outlet}
use Rattle.spk_plant_broker.specs.declared.hub.Hub.{Hub}
use Rattle.spk_plant_broker.specs.Holding.{FitsDesk, FitLines, IsIdle, setting_of}
use Rattle.spk_plant_broker.specs.Step.{fresh_room}

pub begins : (limit : ℕ) (outlets : List Outlet) (h : Hub) → FitsDesk limit (λ k. false) h.desk fresh_room → length h.desk.clients.items ≡ length outlets
    → FitLines outlets (λ k. false) (λ k. []) [] h.lines.items → length h.lines.items ≡ length outlets → h.edges ≡ length outlets - 1 → h.over ≡ false
    → h.untold.items ≡ [] → h.taken.items ≡ [] → h.refusals.items ≡ [] → h.accepted.items ≡ [] → IsIdle (setting_of limit outlets) h []
begins limit outlets h desk clients lines sized edges over untold taken refusals accepted = record {
  rests = record {
    holds = record {
      log_is = tt;
      desk = desk;
      clients = clients;
      over = over;
      lines = lines;
      sized = sized;
      untold = untold;
      edges = edges;
      few = (omega arith);
      taken = taken;
      refusals = refusals;
      accepted = accepted;
      full = tt;
    };
    pending = refl;
  };
  untold = refl;
}
