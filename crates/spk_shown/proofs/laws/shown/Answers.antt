use Rattle.std.proofs.Common.{◌∙◌, ◌∷◌, ◌++◌, ap, refl, false}
use Rattle.spk_sequence.specs.Data.{Standing}
use Rattle.spk_sequence.specs.Step.{is_live}
use Rattle.spk_host_node.specs.Inputs as node
use Rattle.spk_host_node.specs.Inputs.{events_of}
use Rattle.spk_sequence.specs.HostRecord.{record_of}
use Rattle.spk_sequence.specs.Following.{following}
use Rattle.spk_heard.specs.Read.{all_taken}
use Rattle.spk_host_node.specs.Inputs.{node_after}
use Rattle.spk_tie.specs.Tie.{host_setting}
use Rattle.spk_shown.specs.Shown.{is_alive}
use Rattle.spk_shown.proofs.Consumed.{consumed_along}
use Rattle.spk_shown.proofs.Marked.{marked_is}
use Rattle.spk_shown.proofs.Session.{agrees_along, shown_so}
use Rattle.spk_shown.proofs.laws.shown.Goals as goal

pub returns-clause-view : goal.returns-clause-view
returns-clause-view c = λ s published wait width is js earlier lawful near are marked over.
    let setting = host_setting s published wait width in
    let a = agrees_along (record { same = c.positions.ensures.same_steps; steps = c.consumption.ensures.steps; deaths = c.consumption.ensures.deaths })
    s published wait width is js earlier lawful near are marked over in
    shown_so (events_of wait width (js ++ earlier)) (is_alive setting (record_of setting is)) (following setting (record_of setting is)).on
    (node_after wait width (js ++ earlier)).watch.view
    (a.online ∙ a.lives)
    (a.followed ∙ ap (λ (d : Standing). is_live d.phase) (c.consumption.ensures.standing s published wait width is js are) ∙ (c.positions.ensures.live setting is lawful).live)
    (c.any_list.ensures.shows wait width (js ++ earlier))

pub returns-clause-messages : goal.returns-clause-messages
returns-clause-messages c = λ s published wait width is js earlier some few are over.
    (all_taken wait width js, c.consumption.ensures.session s published wait width is js some few are, consumed_along s published wait width is js earlier are over)

pub returns-clause-ended : goal.returns-clause-ended
returns-clause-ended c = λ wait width before.
    shown_so (events_of wait width (node.Ends ∷ before)) false false (node_after wait width (node.Ends ∷ before)).watch.view refl refl
    (c.any_list.ensures.shows wait width (node.Ends ∷ before))

pub returns-clause-marked : goal.returns-clause-marked
returns-clause-marked c = marked_is
