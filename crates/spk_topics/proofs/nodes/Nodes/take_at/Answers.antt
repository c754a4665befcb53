use Rattle.std.proofs.Common.{◌∙◌, sym, ap}
use Rattle.std.specs.Prelude.{is_some}
use Rattle.std.specs.String.{string_bytes}
use Rattle.spk_topics.specs.Nodes.{rows_of}
use Rattle.spk_topics.specs.Paths.{text_in}
use Rattle.spk_topics.proofs.NodeLemmas.{node_taken, node_holds, node_text, rows_after, same_links}
use Rattle.spk_topics.proofs.nodes.Nodes.take_at.Goals as goal

pub returns-clause-stood : goal.returns-clause-stood
returns-clause-stood c =
    c.take.ensures.stood
    ∙ ap is_some (sym (node_holds c.args.self.now.list.items (text_in (rows_of c.args.self.now) c.args.place) c.args.place c.index_mut.result.now c.args.key c.requires c.index_mut.ensures.value))

pub returns-clause-gone : goal.returns-clause-gone
returns-clause-gone c =
    node_taken c.args.self.now.list.items (text_in (rows_of c.args.self.now) c.args.place) c.args.place c.index_mut.result.now c.take.new.self c.args.key c.requires c.index_mut.ensures.value
    (ap string_bytes c.take.ensures.path ∙ node_text c.args.self.now.list.items c.args.place c.index_mut.result.now c.requires c.index_mut.ensures.value) c.take.ensures.rest

pub returns-clause-rows : goal.returns-clause-rows
returns-clause-rows c =
    rows_after c.args.self.now.list.items (text_in (rows_of c.args.self.now) c.args.place) c.args.place c.take.new.self
    (ap string_bytes c.take.ensures.path ∙ node_text c.args.self.now.list.items c.args.place c.index_mut.result.now c.requires c.index_mut.ensures.value)

pub returns-clause-links : goal.returns-clause-links
returns-clause-links c = same_links c.args.self.now.list.items c.args.place c.index_mut.result.now c.take.new.self c.index_mut.ensures.value c.take.ensures.link
