use Rattle.std.proofs.Common.{◌≡◌, ◌∙◌, ap, Bool, true, false, not, is_some, is_none, Option, Some, None, refl, List, ℕ, option_copied}
use Rattle.std.specs.Option.{option_map}
use Rattle.spk_payload.specs.Typing.{typed_view}
use Rattle.spk_payload.specs.declared.typing.Value.{Value}
use Rattle.spk_edge.specs.Changing.{change_message}
use Rattle.spk_edge.specs.Saying.{named_of, topic_said}
use Rattle.spk_topics.specs.Spark.{topic_of}
use Rattle.spk_edge_rules.specs.Births.{device_of, owner_at}
use Rattle.spk_edge.specs.View.{NodeData}
use Rattle.spk_edge.proofs.Packed.{named-spark, on-three, said-whole}
use Rattle.spk_edge.proofs.node.EdgeNode.change_packet.Goals as goal

none-of : (o : Option Value) (b : Bool) → is_some o ≡ not b → b ≡ is_none (option_map typed_view o)
none-of None true e = refl
none-of None false e = absurd (let x : ⊥ = cc in x)
none-of (Some v) true e = absurd (let x : ⊥ = cc in x)
none-of (Some v) false e = refl

pub returns-clause-whole : goal.returns-clause-whole
returns-clause-whole c =
    let n = c.args.self.now in
    let names : topic_said (record { group = c.as_str.result; node = c.as_str-2.result; device = c.device_of.result; alias = c.args.alias; stamp = c.later_stamp.result; seq = c.self.inside.tally.seq; null = c.is_none.result; value = record { ref_ptr = c.args.value.ref_ptr; now = c.in_ok-raw.raw } }) ≡ (change_message n c.args.now c.args.alias (option_map typed_view c.args.value.now)).topic =
    ap (λ (g : List ℕ). topic_of (named_of g c.as_str-2.result.now (option_copied c.device_of.result))) (c.as_str.ensures.value ∙ ap (λ (n : NodeData). n.config.group) c.self.view_is)
    ∙ ap (λ (m : List ℕ). topic_of (named_of n.config.group m (option_copied c.device_of.result))) (c.as_str-2.ensures.value ∙ ap (λ (n : NodeData). n.config.node) c.self.view_is)
    ∙ ap (λ (d : Option (List ℕ)). topic_of (named_of n.config.group n.config.node d)) c.device_of.ensures
    ∙ ap (λ o. topic_of (named_of n.config.group n.config.node (device_of n.standing.asked.book o))) c.owner.ensures
    ∙ ap topic_of (named-spark n.config (device_of n.standing.asked.book (owner_at n.standing.asked.book c.args.alias))) in
    on-three c.packet.result
    (λ text fits writable. said-whole c.spelling_spells.ensures n c.args.now c.args.alias (option_map typed_view c.args.value.now)
    (record { group = c.as_str.result; node = c.as_str-2.result; device = c.device_of.result; alias = c.args.alias; stamp = c.later_stamp.result; seq = c.self.inside.tally.seq; null = c.is_none.result; value = record { ref_ptr = c.args.value.ref_ptr; now = c.in_ok-raw.raw } })
    names text
    refl c.later_stamp.ensures (ap (λ (n : NodeData). n.standing.seq) c.self.view_is) (none-of c.args.value.now c.is_none.result c.is_none.ensures) c.in_ok-raw.ensures fits writable)
    c.packet.ensures.text c.packet.ensures.fits c.packet.ensures.writable
