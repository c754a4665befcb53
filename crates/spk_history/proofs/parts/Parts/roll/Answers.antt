use Rattle.std.proofs.Common.{◌≡◌, ◌++◌, length, ap, ◌∙◌, vec_len, arith}
use Rattle.spk_history.specs.File.{head}
use Rattle.spk_history.specs.Parts.{PartsData}
use Rattle.spk_history.proofs.Rolling.{rolled}
use Rattle.spk_history.proofs.parts.Parts.roll.Goals as goal

pub returns-clause-stands : goal.returns-clause-stands
unfolding head
returns-clause-stands c =
    let i = c.self.inside in
    let bytes = c.put-2.new.out.items in
    let first : c.put.new.out.items ≡ head = c.put.ensures.items ∙ ap (λ t. t ++ head) (c.reserve.ensures.items ∙ c.clear.ensures.items) in
    let is : bytes ≡ head ++ i.nodes.items = c.put-2.ensures.items ∙ ap (λ t. t ++ c.deref.result.now) first ∙ ap (λ t. head ++ t) c.deref.ensures.value in
    let counted : vec_len c.put-2.new.out ≡ length bytes = omega arith in
    let len : c.len-self-inside.result ≡ length (head ++ i.nodes.items) = c.len-self-inside.ensures ∙ counted ∙ ap length is in
    let nodes_are = ap (λ (p : PartsData). p.nodes) c.self.view_is in
    λ nodes are. rolled c.args.self.now _ (is ∙ ap (λ t. head ++ t) nodes_are) (len ∙ ap (λ t. length (head ++ t)) nodes_are) nodes are
