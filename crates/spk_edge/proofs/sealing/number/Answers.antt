use Rattle.std.proofs.Common.{◌≡◌, ◌<◌, ◌+◌, ◌%◌, ◌∙◌, sym, ap, ℕ, length, map, arith, Some, get_or}
use Rattle.std.proofs.lemmas.List.{length-map}
use Rattle.spk_edge.specs.Sealing.{number_in, with_number}
use Rattle.spk_edge.specs.View.{message_view, numbering_view}
use Rattle.spk_edge.specs.declared.message.Published.{Published}
use Rattle.spk_edge.proofs.Numbered.{next_so_far, number-step, so_far-all}
use Rattle.spk_edge.proofs.sealing.number.Goals as goal

-- the message with its number
abbrev put : Published → ℕ → Published
put m n = record m { payload = record m.payload { seq = Some n } }

pub loop-message-preserved : goal.loop-message-preserved
loop-message-preserved c =
    let i = c.loop-message.message-index in
    let x = c.message-item.result in
    let here = get_or c.loop-message.messages i x in
    let numbering = numbering_view c.args.numbering in
    let ms = map message_view c.args.messages.now in
    let before = next_so_far numbering c.args.seq ms i in
    let counted : c.number_of-number.result ≡ number_in numbering before (message_view x) =
    c.number_of-number.ensures
    ∙ ap (λ n. number_in numbering n (message_view here)) c.loop-message.invariant.next
    ∙ ap (λ (m : Published). number_in numbering before (message_view m)) (sym c.message-item.is) in
    let turned : message_view (put here c.from.result) ≡ with_number (number_in numbering before (message_view x)) (message_view x) =
    ap (λ (m : Published). message_view (put m c.from.result)) (sym c.message-item.is)
    ∙ ap (λ n. with_number n (message_view x)) (c.from.ensures ∙ counted) in
    let below : i < length c.loop-message.messages = omega arith in
    let step = number-step message_view numbering i c.args.seq c.loop-message.messages ms x (put here c.from.result) c.loop-message.invariant.messages below c.message-item.is turned in
    record {
      messages = step.0;
      next = ap (λ n. (n + 1) % 256) counted ∙ step.1;
    }

pub returns-clause-messages : goal.returns-clause-messages
returns-clause-messages c =
    let size = length-map c.args.messages.now message_view in
    c.loop-message.invariant.messages
    ∙ (so_far-all (numbering_view c.args.numbering) c.args.seq (map message_view c.args.messages.now) c.loop-message.message-index (omega arith)).0

pub returns-clause-next : goal.returns-clause-next
returns-clause-next c =
    let size = length-map c.args.messages.now message_view in
    c.loop-message.invariant.next
    ∙ (so_far-all (numbering_view c.args.numbering) c.args.seq (map message_view c.args.messages.now) c.loop-message.message-index (omega arith)).1
