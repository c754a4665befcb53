use Rattle.std.proofs.Common.{◌∙◌, sym, ap, ◌++◌, map}
use Rattle.spk_host_app.specs.Step.{join}
use Rattle.spk_host_app.proofs.Joins.{join_map}
use Rattle.spk_host_app.proofs.joining.joined.Goals as goal

pub loop-packet-preserved : goal.loop-packet-preserved
loop-packet-preserved c =
    c.in_ok-extend_from_slice.ensures.items
    ∙ ap (λ l. l ++ c.as_slice.result.now) c.loop-packet.invariant
    ∙ ap (λ l. join (map (λ b. b.items) c.loop-packet.yielded) ++ l) c.as_slice.ensures.value
    ∙ sym (join_map (λ b. b.items) c.loop-packet.yielded c.in-Some.packet)
