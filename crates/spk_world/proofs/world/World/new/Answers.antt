use Rattle.std.proofs.Common.{◌≡◌, ◌∙◌, ap, sym, subst, refl, length, map, List, ℕ, true}
use Rattle.std.specs.List.{AllByRecursion, list_all}
use Rattle.std.proofs.lemmas.List.{length-map}
use Rattle.spk_world_run.specs.Data.{HostPart}
use Rattle.spk_world.specs.Fresh.{has_tracks}
use Rattle.spk_world.specs.Setups.{HasWide, fresh_member, fresh_node}
use Rattle.spk_world.proofs.Beginning.{made-run}
use Rattle.spk_world.proofs.Whole.{fresh-tracked}
use Rattle.spk_world.proofs.world.World.new.Goals as goal

pub invariant_of-result : goal.invariant_of-result
invariant_of-result c =
    ap (λ (hs : List HostPart). list_all (has_tracks (length c.in_ok-nodes.nodes.items)) hs) c.in_ok-hosts.ensures.made
    ∙ subst (λ (n : ℕ). list_all (has_tracks (length c.in_ok-nodes.nodes.items)) (map (fresh_member n) c.args.hosts.items) ≡ true)
    (sym c.in_ok-nodes.nodes.ok.0 ∙ sym c.len.ensures) (fresh-tracked (length c.in_ok-nodes.nodes.items) c.args.hosts.items)

pub returns-clause-begins : goal.returns-clause-begins
returns-clause-begins c =
    let nodes = c.in_ok-nodes.ensures.made in
    let count : length c.in_ok-nodes.nodes.items ≡ c.len.result = sym c.in_ok-nodes.nodes.ok.0 ∙ sym c.len.ensures in
    let size : c.len.result ≡ length c.args.nodes.items = sym count ∙ ap length nodes ∙ length-map c.args.nodes.items fresh_node in
    made-run c.begins.ensures c.args.nodes.items c.args.hosts.items _ c.in_ok-nodes.ensures.good c.in_ok-nodes.ensures.lawful c.in_ok-nodes.ensures.apart
    (subst (AllByRecursion HasWide) c.deref.ensures.value c.are_wide.ensures) nodes
    (c.in_ok-hosts.ensures.made ∙ ap (λ (n : ℕ). map (fresh_member n) c.args.hosts.items) size)
