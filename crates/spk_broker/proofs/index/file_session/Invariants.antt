use Rattle.std.proofs.Common.{◌≡◌, map, take}
use Rattle.std.specs.List.{fold}
use Rattle.spk_broker.specs.Filing.{entry_of, with_entry}
use Rattle.spk_broker.specs.Parts.{grant_view}
use Rattle.spk_broker.proofs.index.file_session.Given as goal

abbrev pub invariant-loop-grant : goal.invariant-loop-grant
invariant-loop-grant l = l.tree ≡ fold with_entry l.initial.tree (map (entry_of l.key) (map grant_view (take l.grant-index l.grant-items)))
