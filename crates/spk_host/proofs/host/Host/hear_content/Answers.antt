use Rattle.std.proofs.Common.{◌∙◌, sym, ap, ℕ, List, Some}
use Rattle.std.specs.Prelude.{string_bytes}
use Rattle.spk_sequence.specs.Step.{match_of}
use Rattle.spk_sequence.specs.declared.answer.Match.{Match}
use Rattle.spk_reading.specs.Data.{Message}
use Rattle.spk_reading.specs.View.{content_view, numbered_view}
use Rattle.spk_host_node.specs.Data.{fresh_node}
use Rattle.spk_host_node.specs.Step as one_node
use Rattle.spk_host_session.specs.Data.{Config}
use Rattle.spk_host.specs.Data.{HostData, OutData}
use Rattle.spk_host.specs.Nodes.{node_or, put_node}
use Rattle.spk_host.specs.Step.{acks, message_out, nodes_after, nothing, published_out, spelled}
use Rattle.spk_host.proofs.Found.{if_ok, on_ok}
use Rattle.spk_host.proofs.Parts.{host_of}
use Rattle.spk_host.proofs.host.Host.hear_content.Goals as goal

pub returns-in-Message-clause-out : goal.returns-in-Message-clause-out
returns-in-Message-clause-out c =
    if_ok c.hear.result c.hear.ensures.out
    (λ o is. is
    ∙ ap (λ (k : Config). message_out (node_or (fresh_node k.wait k.width) c.self.inside.nodes (numbered_view c.in-Message.message).group (numbered_view c.in-Message.message).node)
    c.args.ack (numbered_view c.in-Message.message) c.args.now) c.config-config.ensures
    ∙ ap (λ (h : HostData). published_out h c.args.ack (Message (numbered_view c.in-Message.message)) c.args.now) c.self.view_is
    ∙ ap (λ t. published_out c.args.self.now c.args.ack (content_view t) c.args.now) (sym c.in-Message.is))

pub returns-in-Message-clause-data : goal.returns-in-Message-clause-data
returns-in-Message-clause-data c =
    on_ok c.hear.result c.hear.ensures.nodes
    (λ is. ap (host_of c.self.inside.session) (is
    ∙ ap (λ (k : Config). put_node (numbered_view c.in-Message.message).group (numbered_view c.in-Message.message).node
    (one_node.hand (node_or (fresh_node k.wait k.width) c.self.inside.nodes (numbered_view c.in-Message.message).group (numbered_view c.in-Message.message).node)
    (numbered_view c.in-Message.message) c.args.now) c.self.inside.nodes) c.config-config.ensures)
    ∙ ap (λ (h : HostData). host_of h.session (nodes_after h (Message (numbered_view c.in-Message.message)) c.args.now)) c.self.view_is
    ∙ ap (λ t. host_of c.args.self.now.session (nodes_after c.args.self.now (content_view t) c.args.now)) (sym c.in-Message.is))

abbrev dead : Match → List (List ℕ) → OutData
dead answer packets = record nothing { death = Some answer; packets = packets }

pub returns-in_ok-packets-in-Death-clause-out : goal.returns-in_ok-packets-in-Death-clause-out
returns-in_ok-packets-in-Death-clause-out c =
    let wait = c.args.self.now.session.config.wait in
    let width = c.args.self.now.session.config.width in
    let sent = spelled (acks c.args.ack) in
    c.answered_death.ensures.said
    ∙ ap (dead c.hear_death-answer.result) c.in_ok-packets-in-Death.ensures.said
    ∙ ap (λ a. dead a sent) (c.hear_death-answer.ensures.answer wait width)
    ∙ ap (λ g. dead (match_of (node_or (fresh_node wait width) c.self.inside.nodes g c.as_str-in-Death.result.now).order.standing c.in-Death.bd) sent) c.as_str.ensures.value
    ∙ ap (λ n. dead (match_of (node_or (fresh_node wait width) c.self.inside.nodes (string_bytes c.in-Death.group) n).order.standing c.in-Death.bd) sent)
    c.as_str-in-Death.ensures.value
    ∙ ap (λ (h : HostData). dead (match_of (node_or (fresh_node wait width) h.nodes (string_bytes c.in-Death.group) (string_bytes c.in-Death.node)).order.standing c.in-Death.bd) sent)
    c.self.view_is
    ∙ ap (λ t. published_out c.args.self.now c.args.ack (content_view t) c.args.now) (sym c.in-Death.is)
