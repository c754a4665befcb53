use Rattle.std.proofs.Common.{◌∙◌, ap, refl, ◌++◌, ◌∷◌, []}
use Rattle.spk_reading.specs.View.{numbered_view}
use Rattle.spk_host_node.specs.Step as one_node
use Rattle.spk_host.specs.Data.{Entry}
use Rattle.spk_host.specs.Step.{message_out}
use Rattle.spk_host.proofs.Parts.{same_entry}
use Rattle.spk_host.proofs.nodes.hear_first.Goals as goal

pub returns-clause-out : goal.returns-clause-out
returns-clause-out c =
    c.in_ok-out.ensures.out
    ∙ ap (λ (e : Entry). message_out e.kept c.args.ack (numbered_view c.args.message) c.args.now) c.in_ok-entry.ensures

pub returns-clause-nodes : goal.returns-clause-nodes
returns-clause-nodes c =
    c.push_reserved.ensures.items ∙ ap (λ l. l ++ c.hear_message.new.entry ∷ []) c.in_ok-reserve.ensures.items
    ∙ ap (λ e. c.args.entries.now.items ++ e ∷ [])
    (c.in_ok-out.ensures.entry ∙ ap (λ (e : Entry). record e { kept = one_node.hand e.kept (numbered_view c.args.message) c.args.now }) c.in_ok-entry.ensures
    ∙ same_entry c.as_str-group.ensures.value c.as_str-name.ensures.value refl)
