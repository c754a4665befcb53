use Rattle.std.proofs.Common.{ap, ◌∙◌, string_bytes, List, String, Global}
use Rattle.std.specs.List.{list_any}
use Rattle.spk_packets.specs.Spelling.{has_bad_text, is_bad_text}
use Rattle.spk_packets.proofs.Written.{filters_bad}
use Rattle.spk_packets.proofs.judge.bad_text.Goals as goal

pub returns-in-Unsubscribe : goal.returns-in-Unsubscribe
unfolding has_bad_text
returns-in-Unsubscribe c = rw c.in-Unsubscribe.is (c.bad_filters.ensures ∙ ap (λ (xs : List (String Global)). list_any (λ filter. is_bad_text (string_bytes filter)) xs) c.deref-in-Unsubscribe.ensures.value ∙ filters_bad c.in-Unsubscribe.filters.items)
