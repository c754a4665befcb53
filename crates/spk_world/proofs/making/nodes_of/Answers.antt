use Rattle.std.proofs.Common.{◌≡◌, ◌⊎◌, inl, inr, ◌∙◌, sym, ap, subst, refl, map, length, ◌++◌, ◌∷◌, List, arith}
use Rattle.std.specs.Prelude.{false, true}
use Rattle.std.specs.List.{AllByRecursion, list_all, list_any}
use Rattle.spk_device.specs.Book.{Book}
use Rattle.spk_edge.specs.View.{config_view}
use Rattle.spk_edge.specs.declared.config.EdgeConfig.{EdgeConfig}
use Rattle.spk_world_run.specs.Data.{NodePart}
use Rattle.spk_world.specs.Fresh.{are_apart}
use Rattle.spk_world.specs.Setups.{HasLawful, fresh_node, is_good_setup}
use Rattle.spk_world.proofs.Made.{apart-more, apart-not, good-more, is_namesake, joins-more}
use Rattle.spk_world.proofs.making.nodes_of.Goals as goal

pub returns-then-is_there-clause-fault : goal.returns-then-is_there-clause-fault
returns-then-is_there-clause-fault c =
    let nodes = c.loop-config.nodes.items in
    let setup : EdgeConfig × Book = (c.in-Some.config, c.in-Some.registry) in
    let rest = c.next.new.self.rest.items in
    let some : list_any (is_namesake (config_view c.in-Some.config)) nodes ≡ true =
    ap (λ (l : List NodePart). list_any (is_namesake (config_view c.in-Some.config)) l) (sym c.deref.ensures.value) ∙ sym c.is_there.ensures ∙ c.if-is_there.true in
    let all : nodes ++ map fresh_node (setup ∷ rest) ≡ map fresh_node c.args.setups.items =
    ap (λ (l : List (EdgeConfig × Book)). nodes ++ map fresh_node l) (sym c.in-Some.ensures.steps.0) ∙ c.loop-config.invariant.made in
    inr (refl, inr (ap are_apart (sym all) ∙ apart-not nodes (fresh_node setup) (map fresh_node rest) some))

pub loop-config-preserved : goal.loop-config-preserved
loop-config-preserved c =
    let nodes = c.loop-config.nodes.items in
    let setup : EdgeConfig × Book = (c.in-Some.config, c.in-Some.registry) in
    let rest = c.next.new.self.rest.items in
    let split = c.in-Some.ensures.steps.0 in
    let long = ap (λ (l : List (EdgeConfig × Book)). length l) split in
    let is : c.in_ok-new.field-0 ≡ fresh_node setup = c.in_ok-new.ensures.made in
    let none : list_any (is_namesake (config_view c.in-Some.config)) nodes ≡ false =
    ap (λ (l : List NodePart). list_any (is_namesake (config_view c.in-Some.config)) l) (sym c.deref.ensures.value) ∙ sym c.is_there.ensures ∙ c.if-is_there.false in
    let all : nodes ++ map fresh_node (setup ∷ rest) ≡ map fresh_node c.args.setups.items =
    ap (λ (l : List (EdgeConfig × Book)). nodes ++ map fresh_node l) (sym split) ∙ c.loop-config.invariant.made in
    record {
      made = joins-more fresh_node setup c.in_ok-new.field-0 nodes c.push_reserved.new.self.items rest c.args.setups.items c.push_reserved.ensures.items is all;
      good = good-more is_good_setup setup rest c.args.setups.items c.in_ok-new.ensures.good (c.loop-config.invariant.good ∙ ap (list_all is_good_setup) split);
      apart = ap are_apart c.push_reserved.ensures.items
          ∙ apart-more nodes c.in_ok-new.field-0 c.loop-config.invariant.apart (ap (λ (n : NodePart). list_any (is_namesake n.node.config) nodes) is ∙ none);
      lawful = λ h. c.loop-config.invariant.lawful (subst (AllByRecursion HasLawful) (sym split) (c.is_lawful.ensures, h));
      room = omega (arith, long, c.loop-config.invariant.room, c.push_reserved.ensures.len, c.push_reserved.ensures.capacity);
    }
