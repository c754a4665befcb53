use Rattle.std.proofs.Common.{◌≡◌, ◌+◌, ◌-◌, ◌^◌, length, min, subst, sym, ◌∙◌}
use Rattle.spk_packets.specs.Spelling.{body}
use Rattle.spk_packets.specs.View.{view}
use Rattle.spk_packets.proofs.Written.{unsubscribe_size}
use Rattle.spk_packets.proofs.size.body_size.Goals as goal

pub returns-in-Unsubscribe : goal.returns-in-Unsubscribe
unfolding body
returns-in-Unsubscribe c = c.saturating_add-in-Unsubscribe.ensures ∙ subst (λ p. min (c.filters_size.result + 2) (2 ^ 64 - 1) ≡ min (length (body (view p))) (2 ^ 64 - 1)) (sym c.in-Unsubscribe.is)
    (unsubscribe_size c.in-Unsubscribe.id c.filters_size.result c.in-Unsubscribe.filters.items c.deref-in-Unsubscribe.result.now c.deref-in-Unsubscribe.ensures.value c.filters_size.ensures)
