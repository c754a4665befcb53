use Rattle.spk_files.proofs.Limits.{can_run}
use Rattle.spk_files.proofs.plan.plan_of.Goals as goal

pub returns : goal.returns
returns c =
    can_run _ c.in_ok-group.ensures c.in_ok-host.ensures c.in_ok-ring.ensures.least c.in_ok-ring.ensures.most c.in_ok-ingress.ensures.least c.in_ok-ingress.ensures.most
    c.in_ok-nodes.ensures.some c.in_ok-nodes.ensures.most c.in_ok-nodes.ensures.fit c.in_ok-nodes.ensures.made c.in_ok-nodes.ensures.distinct
