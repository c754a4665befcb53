use Rattle.std.proofs.Common.{◌∙◌, ap, inl, inr, sym, arith}
use Rattle.spk_reading.specs.View.{heard_view}
use Rattle.spk_world_run.specs.Step.{step_in}
use Rattle.spk_world.specs.View.{published_view}
use Rattle.spk_world.proofs.Heard.{few-out}
use Rattle.spk_world.proofs.handing.hand.Goals as goal

pub take-requires-clause-few : goal.take-requires-clause-few
take-requires-clause-few c =
    few-out c.in-Ok.out c.args.host.now (heard_view c.in_ok-heard.heard) c.args.now c.only-step.result c.in-Ok.ensures.out (c.only-step.ensures ∙ ap step_in c.deref.ensures.value) c.is_few.ensures

pub take-requires-clause-fits : goal.take-requires-clause-fits
take-requires-clause-fits c = omega (arith, c.in-Some.ensures.few)

pub returns-in-Err-clause-refused : goal.returns-in-Err-clause-refused
returns-in-Err-clause-refused c = elim c.in-Err.ensures.fault [
  | inl e ↦ inl e
  | inr u ↦ inr (inr (record {
    message = published_view c.in-Some.message.now;
    published = sym c.in-Some.ensures.is;
    unsendable = u (published_view c.in-Some.message.now);
  }))
]
