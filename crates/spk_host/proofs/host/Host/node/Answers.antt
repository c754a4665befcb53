use Rattle.std.proofs.Common.{◌∙◌, sym, ap, List}
use Rattle.std.specs.List.{find}
use Rattle.std.specs.Prelude.{slice_get}
use Rattle.spk_host.specs.Data.{Entry, HostData}
use Rattle.spk_host.specs.Nodes.{is_of}
use Rattle.spk_host.proofs.Found.{absent, at, got}
use Rattle.spk_host.proofs.Indexed.{first-place}
use Rattle.spk_host.proofs.host.Host.node.Goals as goal

pub returns-in-Some : goal.returns-in-Some
returns-in-Some c =
    let found = at c.args.group.now c.args.node.now c.self.inside.nodes c.in-Some.place
    (first-place c.args.group.now c.args.node.now c.self.inside.nodes c.place_of.result c.place_of.ensures ∙ c.in-Some.is) in
    got c.get.result c.entries.result.now c.in-Some.place found.0
    (ap (λ (l : List Entry). slice_get l c.in-Some.place) c.entries.ensures ∙ found.1.there) c.get.ensures.lookup.0 c.get.ensures.lookup.1
    ∙ sym found.1.found
    ∙ ap (λ (h : HostData). find (is_of c.args.group.now c.args.node.now) h.nodes) c.self.view_is

pub returns-in-None : goal.returns-in-None
returns-in-None c =
    let none = absent c.args.group.now c.args.node.now c.self.inside.nodes 0
    (first-place c.args.group.now c.args.node.now c.self.inside.nodes c.place_of.result c.place_of.ensures ∙ c.in-None.is) in
    sym none.not_found ∙ ap (λ (h : HostData). find (is_of c.args.group.now c.args.node.now) h.nodes) c.self.view_is
