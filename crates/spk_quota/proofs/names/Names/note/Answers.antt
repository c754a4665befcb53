use Rattle.std.proofs.Common.{◌∙◌, ap, bytes_eq, is_some}
use Rattle.std.specs.BTreeMap.{get_by}
use Rattle.std.specs.Cmp.Lexicographic.{slice_cmp}
use Rattle.std.specs.Ordering.{nat_cmp}
use Rattle.std.proofs.lemmas.Map.Text.{btree_map_updates_str}
use Rattle.spk_quota.proofs.Naming.{is-noted}
use Rattle.spk_quota.proofs.names.Names.note.Goals as goal

pub returns : goal.returns
returns c other =
    ap is_some (btree_map_updates_str c.args.name.now c.args.self.now.by_text c.insert.new.self _ c.in_ok-insert.ensures.updates other)
    ∙ is-noted (bytes_eq c.args.name.now other) _ (get_by (λ k. slice_cmp nat_cmp other k.now) c.args.self.now.by_text)
