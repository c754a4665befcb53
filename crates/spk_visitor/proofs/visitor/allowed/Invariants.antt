use Rattle.std.proofs.Common.{◌≡◌, map, take}
use Rattle.std.specs.List.{filter}
use Rattle.spk_packets.specs.View.{request_view}
use Rattle.spk_access.specs.Rights.{may_subscribe, rights_view}
use Rattle.spk_visitor.proofs.visitor.allowed.Given as goal

abbrev pub invariant-loop-entry : goal.invariant-loop-entry
invariant-loop-entry l = map request_view l.kept.items ≡ filter (λ e. may_subscribe (rights_view l.rights) e.0) (map request_view (take l.entry-index l.entries))
