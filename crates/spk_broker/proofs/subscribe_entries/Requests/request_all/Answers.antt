use Rattle.std.proofs.Common.{subst, sym, true, ◌≡◌}
use Rattle.spk_packets.specs.View.{request_view}
use Rattle.spk_packets.specs.declared.packet.Request.{Request}
use Rattle.spk_broker.specs.Filters.{is_filter}
use Rattle.spk_broker.proofs.Filtering.{filter-at}
use Rattle.spk_broker.proofs.subscribe_entries.Requests.request_all.Goals as goal

pub request-requires-clause-filter : goal.request-requires-clause-filter
request-requires-clause-filter c =
    subst (λ (r : Request). is_filter (request_view r).0 ≡ true) (sym c.entry-item.is) (filter-at c.args.entries.now c.loop-entry.entry-index c.entry-item.result c.loop-entry-test.true c.requires.filters)
