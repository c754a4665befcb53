use Rattle.std.proofs.Common.{◌≡◌, ◌∙◌, sym, ap, subst, List, ◌∷◌, length}
use Rattle.std.specs.List.{flat_map, range_with_len}
use Rattle.std.proofs.lemmas.List.{length-map}
use Rattle.spk_plant_broker.specs.Data.{Says, Took}
use Rattle.spk_edge_rules.specs.Run.{Message, outline}
use Rattle.spk_heard.specs.Read.{AreMessagesAt, all_taken}
use Rattle.spk_host.specs.Inputs.{node_calls}
use Rattle.spk_plant_host.specs.Told.{asked, consumed_for, told_in}
use Rattle.spk_packets.specs.Message.{Subscribe}
use Rattle.spk_plan_rules.specs.Plan.{host_in}
use Rattle.spk_plant_laws.specs.Places.{inputs_at, is_topic_at, published_at, setup_at}
use Rattle.spk_sequence.specs.HostRecord.{consumed_of, record_of}
use Rattle.spk_sequence.specs.NodeRecord as sequence
use Rattle.spk_tie.specs.Tie.{host_setting}
use Rattle.spk_plant_lossless.specs.Whole.{all_below}
use Rattle.spk_plant_lossless.proofs.Due.{count-subscribe}
use Rattle.spk_plant_lossless.proofs.laws.lossless.Goals as goal

outlined : (ms : List Message) → length (outline ms) ≡ length ms
outlined ms = length-map ms (λ (m : Message). line m)
  where
    line : Message → sequence.Message
    line m = record { birth = m.birth; session = m.session; stamp = m.draft.stamp }

pub returns-clause-due : goal.returns-clause-due
returns-clause-due c = λ p r k can made ran below none due h alive.
    let s = setup_at p k in
    let ms = published_at p r k in
    let setting = host_setting s ms p.wait p.width in
    let told = node_calls (asked (told_in r.given.items)) s.config.group s.config.node in
    let long = outlined ms in
    let consumed : consumed_of (record_of setting h.inputs) ≡ range_with_len 0 (length (outline ms)) =
    c.whole.ensures setting h.inputs h.relayed (h.shown ∙ sym (c.running.ensures.complete p r k can made ran below none) ∙ due ∙ ap all_below (sym long)) alive in
    let are : AreMessagesAt s ms (consumed_of (record_of setting h.inputs)) (all_taken p.wait p.width told) =
    c.consumption.ensures.session s ms p.wait p.width h.inputs told made.some made.most h.read in
    let welcome = c.shown.ensures.welcome p.width (length p.nodes.items) (setup_at p) (inputs_at r) (host_in p) r.given.items ran.log (c.plant.ensures.is_plant p r can made ran) ran.host.told in
    let reads : flat_map (consumed_for s.config.group s.config.node) r.given.items ≡ all_taken p.wait p.width told =
    c.any_items.ensures.kept (host_in p) r.given.items s.config.group s.config.node ran.host.consumed
    ∙ c.any_items.ensures.consumed (host_in p) (told_in r.given.items) s.config.group s.config.node welcome in
    subst (AreMessagesAt s ms (range_with_len 0 (length ms))) (sym reads)
    (subst (λ ps. AreMessagesAt s ms ps (all_taken p.wait p.width told)) (consumed ∙ ap (range_with_len 0) long) are)

pub returns-clause-subscribed : goal.returns-clause-subscribed
returns-clause-subscribed c = λ p r k can made ran below uncut none still later before m id entries is t first h alive.
    returns-clause-due c p r k can made ran below none
    (c.due.ensures p r k can made ran below uncut later (Took m (Says (Subscribe id entries)) ∷ before) is
    (c.connections.ensures.subscribed p r k can made ran below uncut later before m id entries is t) (count-subscribe (is_topic_at p k) k m id entries before first)
    (c.connections.ensures.stands p r k can made ran below still later (Took m (Says (Subscribe id entries)) ∷ before) is)) h alive
