use Rattle.std.proofs.Common.{◌≡◌, map, drop}
use Rattle.std.specs.List.{fold}
use Rattle.spk_packets.specs.View.{request_view}
use Rattle.spk_broker.specs.Granting.{with_request}
use Rattle.spk_broker.specs.Tables.{AreTold, requests_view}
use Rattle.spk_broker.proofs.subscribe_entries.Requests.request_all.Given as goal

abbrev pub invariant-loop-entry : goal.invariant-loop-entry
invariant-loop-entry l = record {
  told : AreTold l.self;
  view : fold (with_request l.others) (requests_view l.self) (map request_view (drop l.entry-index l.entries))
      ≡ fold (with_request l.others) (requests_view l.initial.self) (map request_view l.entries);
}
