use Rattle.std.proofs.Common.{◌≡◌, ◌∙◌, ap, subst, false, List, [], ◌∷◌, ◌++◌}
use Rattle.std.proofs.lemmas.Result.{IfOk-at_ok}
use Rattle.spk_ingress.specs.Passes.{frames_put}
use Rattle.spk_ingress.specs.declared.frame.Frame.{Frame}
use Rattle.spk_ingress.specs.declared.frame.Frame.TheVariants.{End}
use Rattle.spk_plan.specs.declared.script.Step.{Step}
use Rattle.spk_plan.specs.declared.script.Step.TheVariants.{Stop}
use Rattle.spk_rings.specs.Ring.{ahead}
use Rattle.spk_plant_edge.specs.At.{Goes, Origin}
use Rattle.spk_plant_edge.specs.Done.{is_closed}
use Rattle.spk_plant_edge.specs.Frames.{ends_put}
use Rattle.spk_plant_edge.specs.Script.{Leads}
use Rattle.spk_plant_edge.proofs.Putting.{failed-is}
use Rattle.spk_plant_edge.proofs.edge.run_edge.Goals as goal

pub returns-in-Err-ran-clause-failed : goal.returns-in-Err-ran-clause-failed
returns-in-Err-ran-clause-failed g c =
    failed-is c.args.start.pass c.run-ran.new.self.sender.pass c.end-put.new.self.pass c.in-Err-ran.cause
    (subst (λ r. is_closed r ≡ false) c.in-Err-ran.is c.in_default.ensures.ok.0)
    (c.run-ran.ensures.pass.ends ∙ ap ends_put c.new-desk.ensures.pass)
    c.in_default.ensures.ok.1

pub returns-clause-done : goal.returns-clause-done
returns-clause-done g c = λ s fresh.
    let o : Origin = record { setup = s; pass = c.args.start.pass; inlet = c.args.start.inlet } in
    let went = IfOk-at_ok (λ _. Goes (λ t before after. Leads t (c.deref.result.now ++ Stop ∷ []) before after) c.new-desk.result c.run-ran.new.self)
    c.in_default-ran.is c.run-ran.ensures.led in
    let led = went o [] (c.new-desk.ensures.begun s fresh) in
    record {
      log = led.0;
      lawful = led.1.lawful;
      script = subst (λ (steps : List Step). Leads s (steps ++ Stop ∷ []) [] led.0) c.deref.ensures.value led.2;
      inputs = led.1.stands.inputs;
      node = led.1.stands.node;
      messages = led.1.stands.messages;
      whole = led.1.stands.whole;
      frames = c.in_default.ensures.ok.1 ∙ ap (λ (l : List Frame). l ++ End ∷ []) led.1.stands.frames;
      items = led.1.items;
      inlet = led.1.inlet;
      emptied = IfOk-at_ok (λ _. ahead c.run-ran.new.self.inlet ≡ []) c.in_default-ran.is c.run-ran.ensures.emptied;
    }
