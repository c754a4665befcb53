use Rattle.std.proofs.lemmas.Map.Text.{btree_map_updates_str}
use Rattle.spk_broker.proofs.filters.FilterTable.note.Goals as goal

pub returns : goal.returns
returns c = btree_map_updates_str c.args.name.now c.args.self.now.by_text c.insert.new.self _ c.in_ok-insert.ensures.updates
