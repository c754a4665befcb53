use Rattle.std.proofs.Common.{◌≡◌, take}
use Rattle.std.specs.Option.{option_map}
use Rattle.spk_payload.specs.Typing.{typed_view}
use Rattle.spk_device.specs.Values.{value_eq}
use Rattle.spk_edge_rules.specs.Run.{last_in}
use Rattle.spk_edge.specs.Several.{pairs}
use Rattle.spk_edge.proofs.several.is_last.Given as goal

-- the value is the last one of the alias so far
abbrev pub invariant-loop-change : goal.invariant-loop-change
invariant-loop-change l =
    l.same ≡ value_eq (last_in (pairs (take l.change-index l.changes)) l.alias (option_map typed_view l.before)) (option_map typed_view l.value)
