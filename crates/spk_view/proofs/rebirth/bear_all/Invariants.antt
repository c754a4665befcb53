use Rattle.std.proofs.Common.{◌≡◌, ◌+◌, map, drop, length}
use Rattle.spk_payload.specs.View.{metric_view}
use Rattle.spk_host_rules.specs.View.{shown_view}
use Rattle.spk_view.specs.Rebirth.{own_shown}
use Rattle.spk_view.proofs.Anew.{paired}
use Rattle.spk_view.proofs.rebirth.bear_all.Given as goal

-- so many rows are born anew, and the rest shows what is left
abbrev pub invariant-loop-shown : goal.invariant-loop-shown
invariant-loop-shown l = record {
  count : l.place + length l.shown-iterator.rest.items ≡ length l.metrics;
  size : length l.rows.items ≡ length l.metrics;
  rest : map shown_view l.shown-iterator.rest.items ≡ map own_shown (map metric_view (drop l.place l.metrics));
  rows : l.rows.items ≡ paired l.place l.fn.rows.items (map metric_view l.metrics);
}
