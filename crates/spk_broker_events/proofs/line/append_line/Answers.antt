use Rattle.std.proofs.Common.{◌<◌, ◌++◌, length, ap, ◌∙◌, subst, arith}
use Rattle.std.specs.Option.{option_map}
use Rattle.spk_frames.specs.Fault.{IsRefusedFor}
use Rattle.spk_packets.specs.View.{view}
use Rattle.spk_broker_events.specs.Line.{line_front, text_of}
use Rattle.spk_broker_events.proofs.Lines.{small-line}
use Rattle.spk_broker_events.proofs.line.append_line.Goals as goal

pub unreachable-requires : goal.unreachable-requires
unreachable-requires c =
    let text = text_of (option_map view c.args.line.now.packet) in
    let front = line_front c.code.result c.args.line.now.first c.args.line.now.second in
    let few = small-line c.code.result c.args.line.now.first c.args.line.now.second (option_map view c.args.line.now.packet) text c.in_ok-text.ensures.says in
    let long : 1048593 < length c.deref-2.result.now = subst (IsRefusedFor 1048593 c.deref-2.result.now) c.in-Err-LongContent.field-0-is c.in-Err-LongContent.ensures.refused in
    omega (
      arith,
      few,
      long,
      ap length (c.deref-2.ensures.value ∙ c.in_ok-extend_from_slice.ensures.items ∙ ap (λ f. f ++ c.deref.result.now) c.in_ok-content.ensures
          ∙ ap (λ t. front ++ t) (c.deref.ensures.value ∙ c.in_ok-text.ensures.is)),
    )
