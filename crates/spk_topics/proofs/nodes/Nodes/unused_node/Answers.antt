use Rattle.std.proofs.Common.{◌≡◌, ◌<◌, arith, ap, sym, ◌∙◌, length, Some}
use Rattle.std.proofs.lemmas.List.{length-map}
use Rattle.spk_topics.specs.Nodes.{rows_of, row_of, links_of, link_of}
use Rattle.spk_topics.proofs.WholeChanges.{pushed_child, pushed_up, whole_pushed}
use Rattle.spk_topics.proofs.nodes.Nodes.unused_node.Goals as goal

pub returns-clause-whole : goal.returns-clause-whole
returns-clause-whole c = λ at w.
    let len : length (links_of c.args.self.now) ≡ length (rows_of c.args.self.now) = length-map c.args.self.now.list.items link_of ∙ sym (length-map c.args.self.now.list.items row_of) in
    let rooted : 0 < length (rows_of c.args.self.now) = omega (arith, c.requires, c.args.self.now.list.ok.0, length-map c.args.self.now.list.items row_of) in
    let number : c.len-number.result ≡ length (rows_of c.args.self.now) = omega (arith, c.len-number.ensures, c.args.self.now.list.ok.0, length-map c.args.self.now.list.items row_of) in
    whole_pushed (rows_of c.args.self.now) (rows_of c.push.new.self) (links_of c.args.self.now) (links_of c.push.new.self) c.args.self.now.unused (Some c.len-number.result) at
    c.in_ok-push.ensures.rows c.in_ok-push.ensures.links c.in_default.is rooted len (ap (λ n. Some n) number) w

pub returns-clause-child : goal.returns-clause-child
returns-clause-child c = pushed_child (rows_of c.args.self.now) (rows_of c.push.new.self) (links_of c.args.self.now) (links_of c.push.new.self) c.in_ok-push.ensures.rows c.in_ok-push.ensures.links

pub returns-clause-up : goal.returns-clause-up
returns-clause-up c = pushed_up (rows_of c.args.self.now) (rows_of c.push.new.self) (links_of c.args.self.now) (links_of c.push.new.self) c.in_ok-push.ensures.rows c.in_ok-push.ensures.links
