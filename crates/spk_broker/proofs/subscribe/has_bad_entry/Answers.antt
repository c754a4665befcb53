use Rattle.std.proofs.Common.{◌∙◌, sym, refl, is_some}
use Rattle.spk_packets.specs.View.{request_view}
use Rattle.spk_packets.specs.declared.packet.Request.{Request}
use Rattle.spk_topics.specs.Text.{filter_refusal}
use Rattle.spk_broker_rules.proofs.Lists.{any-map}
use Rattle.spk_broker.proofs.subscribe.has_bad_entry.Goals as goal

pub returns : goal.returns
returns c = c.has_one_bad.ensures
    ∙ sym (any-map request_view (λ e. is_some (filter_refusal e.0)) (λ (e : Request). is_some (filter_refusal (request_view e).0)) (λ e. refl) c.args.entries.now)
