use Rattle.std.proofs.Common.{◌∙◌, ap}
use Rattle.std.specs.List.{position}
use Rattle.spk_host.specs.Nodes.{is_of}
use Rattle.spk_host.proofs.Indexed.{led}
use Rattle.spk_host.proofs.nodes.Nodes.place_of.Goals as goal

pub returns : goal.returns
returns c =
    c.find.ensures ∙ led c.args.group.now c.args.node.now c.self.inside.entries.items c.self.inside.index c.self.invariant.indexed
    ∙ ap (position (is_of c.args.group.now c.args.node.now)) c.self.view_is
