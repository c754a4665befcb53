-- What is kept of a node, by its parts.
use Rattle.std.proofs.Common.{◌≡◌, ◌∙◌, sym, ap, refl, ℕ, Bool, true, false}
use Rattle.std.specs.Prelude.{if◌then◌else◌}
use Rattle.spk_sequence.specs.declared.answer.Match.TheVariants as match
use Rattle.spk_sequence.specs.Step as sequence
use Rattle.spk_order.specs.Ordered.{Ordered}
use Rattle.spk_order.specs.Step.{stands_so}
use Rattle.spk_reading.specs.Data.{NumberedData}
use Rattle.spk_host_rules.specs.Data.{Gap, Over, Watch}
use Rattle.spk_host_rules.specs.Step as rules
use Rattle.spk_host_node.specs.Data.{NodeData}
use Rattle.spk_host_node.specs.Step.{death, tick}

abbrev pub node_of : Ordered NumberedData → Watch → NodeData
node_of o w = record { order = o; watch = w }

pub same_node : {o p : Ordered NumberedData} {w v : Watch} → o ≡ p → w ≡ v → node_of o w ≡ node_of p v
same_node {o} {p} {w} {v} e h = ap (λ x. node_of x w) e ∙ ap (node_of p) h

matched : (b : Bool) → (if b then match.Matched else match.Ignored) ≡ match.Matched → b ≡ true
matched true e = refl
matched false e = absurd (cc)

-- a death that matched
pub same_death : (n : NodeData) (bd : ℕ) (o : Ordered NumberedData) (w : Watch) → sequence.match_of n.order.standing bd ≡ match.Matched →
    o ≡ stands_so (sequence.death n.order.standing bd) n.order.kept → w ≡ rules.step n.order.standing.wait n.watch Over →
    node_of o w ≡ death n bd
same_death n bd o w is e h =
    same_node e (h ∙ sym (ap (λ b. if b then rules.step n.order.standing.wait n.watch Over else n.watch)
    (matched (sequence.is_match n.order.standing bd) is)))

-- a node whose order stays as it is does so
pub still_node : (n : NodeData) (now : ℕ) → sequence.is_over n.order.standing now ≡ false → stands_so (sequence.tick n.order.standing now) n.order.kept ≡ n.order → tick n now ≡ n
still_node n now still same =
    same_node same (ap (λ b. if b then rules.step n.order.standing.wait n.watch (Gap now) else n.watch) still)
