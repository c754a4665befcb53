use Rattle.std.proofs.Common.{◌∙◌, sym, ap}
use Rattle.std.specs.Prelude.{is_none}
use Rattle.std.specs.Ordering.{nat_cmp}
use Rattle.std.specs.String.{string_bytes}
use Rattle.std.specs.BTreeMap as tree
use Rattle.spk_topics.specs.Nodes.{rows_of}
use Rattle.spk_topics.specs.Paths.{text_in}
use Rattle.spk_topics.proofs.NodeLemmas.{node_filled, node_given, node_holds, node_text, rows_after, same_rows, same_links}
use Rattle.spk_topics.proofs.nodes.Nodes.set_at.Goals as goal

pub returns-in-Ok-clause-is_new : goal.returns-in-Ok-clause-is_new
returns-in-Ok-clause-is_new c =
    c.in-Ok.ensures.is_new
    ∙ ap is_none (sym (node_holds c.args.self.now.list.items (text_in (rows_of c.args.self.now) c.args.place) c.args.place c.index_mut.result.now c.args.key c.requires c.index_mut.ensures.value))

pub returns-in-Ok-clause-ok : goal.returns-in-Ok-clause-ok
returns-in-Ok-clause-ok c =
    node_given c.args.self.now.list.items (text_in (rows_of c.args.self.now) c.args.place) c.args.place c.index_mut.result.now c.set.new.self c.args.key c.args.qos c.requires c.index_mut.ensures.value
    (ap string_bytes c.in-Ok.ensures.path ∙ node_text c.args.self.now.list.items c.args.place c.index_mut.result.now c.requires c.index_mut.ensures.value) c.in-Ok.ensures.ok

pub returns-in-Ok-clause-rows : goal.returns-in-Ok-clause-rows
returns-in-Ok-clause-rows c =
    rows_after c.args.self.now.list.items (text_in (rows_of c.args.self.now) c.args.place) c.args.place c.set.new.self
    (ap string_bytes c.in-Ok.ensures.path ∙ node_text c.args.self.now.list.items c.args.place c.index_mut.result.now c.requires c.index_mut.ensures.value)

pub returns-in-Ok-clause-filled : goal.returns-in-Ok-clause-filled
returns-in-Ok-clause-filled c =
    node_filled c.args.self.now.list.items (text_in (rows_of c.args.self.now) c.args.place) c.args.place c.set.new.self c.args.key c.args.qos (tree.get nat_cmp c.index_mut.result.now.grants c.args.key) c.requires (c.in-Ok.ensures.ok c.args.key)

pub returns-in-Ok-clause-links : goal.returns-in-Ok-clause-links
returns-in-Ok-clause-links c = same_links c.args.self.now.list.items c.args.place c.index_mut.result.now c.set.new.self c.index_mut.ensures.value c.in-Ok.ensures.link

pub returns-in-Err-clause-rows : goal.returns-in-Err-clause-rows
returns-in-Err-clause-rows c =
    rows_after c.args.self.now.list.items (text_in (rows_of c.args.self.now) c.args.place) c.args.place c.set.new.self
    (ap string_bytes c.in-Err.ensures.path ∙ node_text c.args.self.now.list.items c.args.place c.index_mut.result.now c.requires c.index_mut.ensures.value)

pub returns-in-Err-clause-links : goal.returns-in-Err-clause-links
returns-in-Err-clause-links c = same_links c.args.self.now.list.items c.args.place c.index_mut.result.now c.set.new.self c.index_mut.ensures.value c.in-Err.ensures.link

pub returns-in-Err-clause-err : goal.returns-in-Err-clause-err
returns-in-Err-clause-err c =
    same_rows c.args.self.now.list.items c.args.place c.index_mut.result.now c.set.new.self c.index_mut.ensures.value
    (ap (λ path. (string_bytes path, c.set.new.self.grants.entries)) c.in-Err.ensures.path ∙ ap (λ es. (string_bytes c.index_mut.result.now.path, es)) c.in-Err.ensures.err)

pub returns-in-Err-clause-fails_new : goal.returns-in-Err-clause-fails_new
returns-in-Err-clause-fails_new c =
    node_holds c.args.self.now.list.items (text_in (rows_of c.args.self.now) c.args.place) c.args.place c.index_mut.result.now c.args.key c.requires c.index_mut.ensures.value ∙ c.in-Err.ensures.fails_new
