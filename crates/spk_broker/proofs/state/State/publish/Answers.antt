use Rattle.std.proofs.Common.{◌∙◌, ◌∷◌, [], sym, ap, subst, true, false}
use Rattle.std.specs.Option.{is_some}
use Rattle.spk_topics.specs.Text.{topic_refusal}
use Rattle.spk_broker_rules.specs.Plan.{Queue, Route, puback}
use Rattle.spk_broker_rules.specs.Step.{acts}
use Rattle.spk_broker.specs.Endings.{Leads}
use Rattle.spk_broker.specs.Parts.{app_message_view}
use Rattle.spk_broker.proofs.Ruled.{acts-append, publish-leads}
use Rattle.spk_broker.proofs.Standing.{queue-stands}
use Rattle.spk_broker.proofs.state.State.publish.Goals as goal

pub returns-then-is_no_topic-clause-done : goal.returns-then-is_no_topic-clause-done
returns-then-is_no_topic-clause-done c t s =
    publish-leads c.shut_at.new.self c.shut_at.new.draft c.in_ok-ending.ending c.args.conn c.args.id (app_message_view c.args.app_message) t true (ap (λ l. is_some (topic_refusal l)) (sym c.as_str.ensures.value) ∙ sym c.is_no_topic.ensures ∙ c.if-is_no_topic.true)
    (c.in_ok-ending.ensures.done t s)

pub returns-clause-done : goal.returns-clause-done
returns-clause-done c t s =
    let m = app_message_view c.args.app_message in
    publish-leads c.route_near.new.self c.route_near.new.draft c.in_ok-ending-2.ending c.args.conn c.args.id m t false (ap (λ l. is_some (topic_refusal l)) (sym c.as_str.ensures.value) ∙ sym c.is_no_topic.ensures ∙ c.if-is_no_topic.false)
    (subst (λ u. Leads c.route_near.new.self c.route_near.new.draft c.in_ok-ending-2.ending u) (sym (acts-append (puback c.args.conn c.args.id) (Queue m ∷ Route ∷ []) t))
    (c.in_ok-ending-2.ensures.done _ (queue-stands c.args.self.now c.puback.new.draft c.queue.new.self (acts (puback c.args.conn c.args.id) t) (m ∷ []) c.in_ok-queue.ensures
    (c.in_ok-puback.ensures t s))))
