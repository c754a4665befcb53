use Rattle.std.proofs.Common.{◌≡◌, arith, sym, ◌∙◌, length, vec_len}
use Rattle.std.proofs.lemmas.Bool.{eqb-true}
use Rattle.std.proofs.lemmas.List.{length-map}
use Rattle.spk_topics.specs.Nodes.{links_of, row_of, rows_of}
use Rattle.spk_topics.proofs.WholeChanges.{whole_planted}
use Rattle.spk_topics.proofs.nodes.Nodes.plant.Goals as goal

pub returns-in_ok-push-clause-whole : goal.returns-in_ok-push-clause-whole
returns-in_ok-push-clause-whole c =
    let nothing : vec_len c.args.self.now.list ≡ 0 = eqb-true (vec_len c.args.self.now.list) 0 (sym c.is_empty.ensures ∙ c.if-is_empty.true) in
    let none : length (rows_of c.args.self.now) ≡ 0 = omega (arith, nothing, c.args.self.now.list.ok.0, length-map c.args.self.now.list.items row_of) in
    whole_planted (rows_of c.args.self.now) (rows_of c.push.new.self) (links_of c.args.self.now) (links_of c.push.new.self) c.args.self.now.unused c.push.new.self.unused
    c.in_ok-push.ensures.rows c.in_ok-push.ensures.links c.in_ok-push.ensures.unused none c.requires
