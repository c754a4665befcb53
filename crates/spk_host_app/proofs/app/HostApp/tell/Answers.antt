use Rattle.std.proofs.Common.{inl, subst, refl}
use Rattle.spk_reading.specs.View.{heard_view}
use Rattle.spk_host.specs.View.{out_view}
use Rattle.spk_host_app.specs.Log.{IsTold}
use Rattle.spk_host_app.proofs.Taking.{no_err, told_by, with_err, with_ok, within_by}
use Rattle.spk_host_app.proofs.app.HostApp.tell.Goals as goal

pub returns-in-Ok-heard-clause-told : goal.returns-in-Ok-heard-clause-told
returns-in-Ok-heard-clause-told c =
    let within = within_by _ (λ none. no_err c.in-Ok-heard.out _ _ refl (c.in-Ok-heard.ensures.outside none)) in
    with_ok c.hand.result (subst (λ a. IsTold c.args.size (heard_view c.args.heard) c.args.now a c.hand.new.self) c.self.view_is
    (told_by _ c.take_off.new.self c.hand.new.self c.args.size (heard_view c.args.heard) c.args.now _ (out_view c.in-Ok-heard.out) c.heard.new.self c.ends-over.result
    c.in-Ok.ensures within (c.in-Ok-heard.ensures.answer within) c.in-Ok-heard.ensures.data c.ends-over.ensures c.take_off.ensures c.hand.ensures.answered))

pub returns-in-Ok-heard-clause-failed : goal.returns-in-Ok-heard-clause-failed
returns-in-Ok-heard-clause-failed c =
    let within = within_by _ (λ none. no_err c.in-Ok-heard.out _ _ refl (c.in-Ok-heard.ensures.outside none)) in
    with_err c.hand.result (inl (subst (λ a. IsTold c.args.size (heard_view c.args.heard) c.args.now a c.hand.new.self) c.self.view_is
    (told_by _ c.take_off.new.self c.hand.new.self c.args.size (heard_view c.args.heard) c.args.now _ (out_view c.in-Ok-heard.out) c.heard.new.self c.ends-over.result
    c.in-Ok.ensures within (c.in-Ok-heard.ensures.answer within) c.in-Ok-heard.ensures.data c.ends-over.ensures c.take_off.ensures c.hand.ensures.answered)))
