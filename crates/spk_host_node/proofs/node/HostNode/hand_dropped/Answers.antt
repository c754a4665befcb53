use Rattle.std.proofs.Common.{◌≡◌, ◌∙◌, sym, ap, refl, subst}
use Rattle.spk_reading.specs.View.{numbered_view}
use Rattle.spk_order.specs.Step.{IsAlone}
use Rattle.spk_host_node.specs.Step.{hand, heard_by, heard_of, requests_of, step_of}
use Rattle.spk_host_node.proofs.Heard.{asked_are, dropped_alone, dropped_heard, dropped_nothing, dropped_taken, watched_are}
use Rattle.spk_host_node.proofs.Parts.{same_node}
use Rattle.spk_host_node.proofs.node.HostNode.hand_dropped.Goals as goal
use Rattle.spk_host_node.proofs.node.HostNode.hand_dropped.Goals.{After-hear}

pub pass-requires : goal.pass-requires
pass-requires c =
    subst IsAlone (c.requires.is ∙ ap (λ n. step_of n.order (numbered_view c.args.message.now) c.args.now) (sym c.self.view_is))
    (dropped_alone c.args.step c.requires.dropped)

pub hear-requires-clause-nothing : goal.hear-requires-clause-nothing
hear-requires-clause-nothing c = dropped_nothing c.args.step c.new.result.items c.requires.dropped c.new.ensures.items

heard : (c : After-hear) → heard_by c.args.step c.new.result.items c.args.now ≡ heard_of c.self.inside.order (numbered_view c.args.message.now) c.args.now
heard c =
    dropped_heard c.self.inside.order (numbered_view c.args.message.now) c.args.now c.args.step c.new.result.items
    (c.requires.is ∙ ap (λ n. step_of n.order (numbered_view c.args.message.now) c.args.now) (sym c.self.view_is)) c.requires.dropped c.new.ensures.items

pub returns-clause-consumed : goal.returns-clause-consumed
returns-clause-consumed c =
    c.hear.ensures.consumed ∙ c.new.ensures.items
    ∙ dropped_taken c.args.self.now.order (numbered_view c.args.message.now) c.args.now c.args.step c.requires.is c.requires.dropped

pub returns-clause-requests : goal.returns-clause-requests
returns-clause-requests c =
    c.hear.ensures.requests ∙ asked_are _ _ _ _ _ _ (c.wait-wait.ensures ∙ ap (λ s. s.wait) c.sequence.ensures.standing) refl (heard c)
    ∙ ap (λ n. requests_of n (numbered_view c.args.message.now) c.args.now) c.self.view_is

pub returns-clause-data : goal.returns-clause-data
returns-clause-data c =
    same_node (c.pass.ensures.data (numbered_view c.args.message.now))
    (c.hear.ensures.watch ∙ watched_are _ _ _ _ _ _ (c.wait-wait.ensures ∙ ap (λ s. s.wait) c.sequence.ensures.standing) refl (heard c))
    ∙ ap (λ n. hand n (numbered_view c.args.message.now) c.args.now) c.self.view_is
