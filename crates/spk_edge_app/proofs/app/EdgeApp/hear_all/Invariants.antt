use Rattle.std.proofs.Common.{◌≡◌, None}
use Rattle.spk_edge_app.specs.Calls.{HearsAll}
use Rattle.spk_edge_app.proofs.app.EdgeApp.hear_all.Given as goal

-- packets are taken so far, and it goes on
abbrev pub invariant-loop : goal.invariant-loop
invariant-loop l = record {
  heard : HearsAll l.now l.fn.self l.self;
  running : l.self.closing ≡ None;
}
