use Rattle.std.proofs.Common.{subst}
use Rattle.spk_host_app.specs.Meant.{IsMeant}
use Rattle.spk_host_app.proofs.Taking.{denied, either_way, given_up, on_err, on_ok, told, unsubscribed}
use Rattle.spk_host_app.proofs.app.HostApp.take.Goals as goal

pub returns-in-Heard-clause-takes : goal.returns-in-Heard-clause-takes
returns-in-Heard-clause-takes c = λ p front m closing full. let k = subst (IsMeant p) c.in-Heard.is m in
    on_ok c.tell.result c.tell.ensures.told (told _ _ p c.args.size _ c.args.now front closing full k.0 k.1)

pub returns-in-Heard-clause-failed : goal.returns-in-Heard-clause-failed
returns-in-Heard-clause-failed c = λ p front m closing full. let k = subst (IsMeant p) c.in-Heard.is m in
    on_err c.tell.result c.tell.ensures.failed (either_way _ _ (told _ _ p c.args.size _ c.args.now front closing full k.0 k.1))

pub returns-in-Refused-clause-takes : goal.returns-in-Refused-clause-takes
returns-in-Refused-clause-takes c = λ p front m closing full. let k = subst (IsMeant p) c.in-Refused.is m in
    on_ok c.deny.result c.deny.ensures.denied (denied _ _ p _ front closing full _ _ _ k.0 k.1 k.2)

pub returns-in-Refused-clause-failed : goal.returns-in-Refused-clause-failed
returns-in-Refused-clause-failed c = λ p front m closing full. let k = subst (IsMeant p) c.in-Refused.is m in
    on_err c.deny.result c.deny.ensures.failed (either_way _ _ (denied _ _ p _ front closing full _ _ _ k.0 k.1 k.2))

pub returns-in-SubscriptionRefused-clause-takes : goal.returns-in-SubscriptionRefused-clause-takes
returns-in-SubscriptionRefused-clause-takes c = λ p front m closing full.
    on_ok c.unsubscribed.result c.unsubscribed.ensures.unsubscribed (unsubscribed _ _ p _ front closing full (subst (IsMeant p) c.in-SubscriptionRefused.is m))

pub returns-in-SubscriptionRefused-clause-failed : goal.returns-in-SubscriptionRefused-clause-failed
returns-in-SubscriptionRefused-clause-failed c = λ p front m closing full. on_err c.unsubscribed.result c.unsubscribed.ensures.failed (given_up _ _)
