use Rattle.std.proofs.Common.{◌≡◌, ◌∙◌, sym, ap, false, length, ℕ, ◌+◌, List, [], ◌∷◌, ◌++◌, length-append}
use Rattle.std.specs.List.{list_all, list_any}
use Rattle.std.specs.Str.{bytes_eq}
use Rattle.std.specs.String.{string_bytes}
use Rattle.spk_plan.specs.declared.plan.PlanNode.{PlanNode}
use Rattle.spk_plan_rules.specs.Plan.{are_distinct, fits}
use Rattle.spk_files.specs.Plan.{is_well_made}
use Rattle.spk_files.proofs.Limits.{all_push, distinct_push}
use Rattle.spk_files.proofs.plan.nodes_of.Goals as goal

pub loop-index-preserved : goal.loop-index-preserved
loop-index-preserved c =
    let nodes = c.loop-index.nodes.items in
    let node : PlanNode = c.in_ok-node.node in
    let is : c.push.new.self.items ≡ nodes ++ node ∷ [] = c.in_ok-push.ensures.items in
    let none : list_any (λ (n : PlanNode). bytes_eq (string_bytes node.node) (string_bytes n.node)) nodes ≡ false =
    ap (λ (s : List ℕ). list_any (λ (n : PlanNode). bytes_eq s (string_bytes n.node)) nodes) (sym c.as_str.ensures.value)
    ∙ (ap (λ (l : List PlanNode). list_any (λ (n : PlanNode). bytes_eq c.as_str.result.now (string_bytes n.node)) l) (sym c.deref.ensures.value)
    ∙ (sym c.is_there.ensures ∙ c.if-is_there.false)) in
    record {
      sized = ap (λ (l : List PlanNode). length l) is ∙ (length-append nodes (node ∷ []) ∙ ap (λ (k : ℕ). k + 1) c.loop-index.invariant.sized);
      fit = ap (list_all fits) is ∙ all_push fits nodes node c.loop-index.invariant.fit c.in_ok-node.ensures.fits;
      made = ap (list_all is_well_made) is ∙ all_push is_well_made nodes node c.loop-index.invariant.made c.in_ok-node.ensures.made;
      distinct = ap are_distinct is ∙ distinct_push nodes node c.loop-index.invariant.distinct none;
    }
