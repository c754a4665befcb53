use Rattle.std.proofs.Common.{◌≡◌, map}
use Rattle.std.specs.Prelude.{take}
use Rattle.std.specs.List.{list_any}
use Rattle.httparse.specs.Spans.{header_bytes}
use Rattle.spk_page.specs.Asked.{is_own_field}
use Rattle.spk_page.proofs.asked.has_own_host.Given as goal

-- whether one of those so far is
abbrev pub invariant-loop-span : goal.invariant-loop-span
invariant-loop-span l = l.found ≡ list_any is_own_field (map (header_bytes l.input) (take l.span-index l.spans))
