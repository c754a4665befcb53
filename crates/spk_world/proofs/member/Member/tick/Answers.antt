use Rattle.std.proofs.Common.{◌∙◌, ap, ◌-◌}
use Rattle.spk_host.specs.Data.{HostData}
use Rattle.spk_world_run.specs.Data.{HostPart}
use Rattle.spk_world_run.specs.Step.{followed, ticked}
use Rattle.spk_world.proofs.member.Member.tick.Goals as goal

pub returns-clause-gaps : goal.returns-clause-gaps
returns-clause-gaps c =
    c.saturating_sub.ensures
    ∙ ap (λ a. a - c.followed.result) c.followed-before.ensures
    ∙ ap (λ b. followed c.self.inside.host c.args.nodes.now - b) (c.followed.ensures ∙ ap (λ (h : HostData). followed h c.args.nodes.now) c.in_ok-tick.ensures.data)
    ∙ ap (λ (m : HostPart). followed m.host c.args.nodes.now - followed (ticked m.host c.args.now) c.args.nodes.now) c.self.view_is
