use Rattle.std.proofs.Common.{◌+◌, refl}
use Rattle.spk_broker.proofs.Counts.{counted, rest-is}
use Rattle.spk_broker.proofs.subscribe_grants.count_others.Goals as goal

pub returns : goal.returns
returns c d =
    counted c.args.sessions.now c.args.place d c.count_grants.result c.count_grants-2.result _ _ c.requires c.count_grants.ensures.count c.count_grants-2.ensures.count
    refl (rest-is c.args.sessions.now (c.args.place + 1))
