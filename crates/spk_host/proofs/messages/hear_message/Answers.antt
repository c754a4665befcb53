use Rattle.std.proofs.Common.{◌≡◌, ◌≤◌, ◌∙◌, ◌+◌, ◌++◌, List, ℕ, [], ◌∷◌, ap, map, arith, sym, subst}
use Rattle.std.specs.Prelude.{All, Vec}
use Rattle.std.specs.declared.alloc.Global.{Global}
use Rattle.std.proofs.lemmas.List.Elements.{All-take}
use Rattle.spk_reading.specs.View.{numbered_view}
use Rattle.spk_topics.specs.Spark.{named}
use Rattle.spk_host_session.specs.Packets.{IsPacket}
use Rattle.spk_host_node.specs.Step.{requests_of}
use Rattle.spk_host.specs.Step.{acks, requests_to, spelled, topics_to}
use Rattle.spk_host.proofs.Requests.{requests_cut, same_out, topics_cut}
use Rattle.spk_host.proofs.messages.hear_message.Goals as goal

pub returns-clause-out : goal.returns-clause-out
returns-clause-out c =
    let few : c.in_ok-handed.handed.requests ≤ c.requests_at-most.result =
    let is : c.in_ok-handed.handed.requests ≡ requests_of c.args.entry.now.kept (numbered_view c.args.message) c.args.now = c.in_ok-handed.ensures.requests in
    let seen : requests_of c.kept.result.now (numbered_view c.args.message) c.args.now ≡ requests_of c.args.entry.now.kept (numbered_view c.args.message) c.args.now =
    ap (λ k. requests_of k (numbered_view c.args.message) c.args.now) c.kept.ensures in
    omega (arith, is, seen, c.requests_at-most.ensures.enough) in
    same_out c.in_ok-handed.ensures.consumed
    (c.push_reserved.ensures.items ∙ ap (λ l. l ++ c.in_ok-handed.handed.step ∷ []) c.in_ok-steps.ensures.items
    ∙ ap (λ s. s ∷ []) c.in_ok-handed.ensures.step)
    c.new.ensures.items
    (topics_cut named c.truncate.new.self.items c.ask_all.new.rebirths.items c.as_str-group.result.now c.as_str-name.result.now
    c.in_ok-handed.handed.requests c.requests_at-most.result c.truncate.ensures.items
    (c.in_ok-ask_all.ensures.topics ∙ ap (λ l. l ++ topics_to c.as_str-group.result.now c.as_str-name.result.now c.requests_at-most.result)
    (ap (map named) c.new-rebirths.ensures.items)) few
    ∙ ap (λ g. topics_to g c.as_str-name.result.now c.in_ok-handed.handed.requests) c.as_str-group.ensures.value
    ∙ ap (λ n. topics_to (numbered_view c.args.message).group n c.in_ok-handed.handed.requests) c.as_str-name.ensures.value
    ∙ ap (topics_to (numbered_view c.args.message).group (numbered_view c.args.message).node) c.in_ok-handed.ensures.requests)
    (requests_cut (λ b. b.items) c.truncate-2.new.self.items c.ask_all.new.packets.items c.in_ok-packets.packets.items (acks c.args.ack)
    c.as_str-group.result.now c.as_str-name.result.now c.args.now c.in_ok-handed.handed.requests c.requests_at-most.result c.len-first.result
    c.truncate-2.ensures.items c.in_ok-ask_all.ensures.packets c.in_ok-packets.ensures.said (c.len-first.ensures ∙ c.in_ok-packets.packets.ok.0) few
    ∙ ap (λ g. spelled (acks c.args.ack ++ requests_to g c.as_str-name.result.now c.args.now c.in_ok-handed.handed.requests)) c.as_str-group.ensures.value
    ∙ ap (λ n. spelled (acks c.args.ack ++ requests_to (numbered_view c.args.message).group n c.args.now c.in_ok-handed.handed.requests)) c.as_str-name.ensures.value
    ∙ ap (λ k. spelled (acks c.args.ack ++ requests_to (numbered_view c.args.message).group (numbered_view c.args.message).node c.args.now k)) c.in_ok-handed.ensures.requests)

pub returns-clause-whole : goal.returns-clause-whole
returns-clause-whole c = λ identified.
    subst (λ (l : List (Vec ℕ Global)). All (λ b. IsPacket b.items) l) (sym c.truncate-2.ensures.items)
    (All-take (λ b. IsPacket b.items) (c.len-first.result + c.in_ok-handed.handed.requests) c.ask_all.new.packets.items
    (c.in_ok-ask_all.ensures.whole (c.in_ok-packets.ensures.whole identified)))
