use Rattle.std.proofs.Common.{◌≡◌, ◌∙◌, ap, subst, rules, false, List}
use Rattle.std.specs.List.{count_by}
use Rattle.std.specs.Prelude.{Vec}
use Rattle.std.specs.declared.alloc.Global.{Global}
use Rattle.spk_ingress.specs.Passes.{frames_put}
use Rattle.spk_ingress.specs.declared.channel.PutPass.{PutPass}
use Rattle.spk_ingress.specs.declared.frame.Frame.{Frame}
use Rattle.spk_plant_host.specs.Ends.{ends_put, is_closed, is_end}
use Rattle.spk_plant_host.specs.declared.ends.Given.{Given}
use Rattle.spk_plant_host.proofs.Ending.{ended_badly}
use Rattle.spk_plant_host.proofs.body.run_host.Goals as goal

pub returns-in-Err-clause-broke : goal.returns-in-Err-clause-broke
returns-in-Err-clause-broke g c =
    let same : frames_put c.end-ended.new.self.pass ≡ frames_put c.run-ran.new.desk.line.pass = search rules in
    record {
      puts_into = c.end-ended.ensures.pass.0;
      sender = c.end-ended.ensures.pass.1 ∙ c.run-ran.ensures.pass.sender ∙ ap (λ (p : PutPass). p.sender) c.new-line.ensures.0;
      last = ap (λ (fs : List Frame). count_by is_end fs) same ∙ c.run-ran.ensures.pass.ends ∙ ap ends_put c.new-line.ensures.0;
    }

pub returns-in-Err-ran-clause-broke : goal.returns-in-Err-ran-clause-broke
returns-in-Err-ran-clause-broke g c =
    ended_badly (Vec Given Global) c.args.ingress.now c.args.start (record { cause = c.in-Err-ran.cause; pass = c.end-ended.new.self.pass }) c.run-ran.new.desk.line.pass
    c.end-ended.ensures.pass.0
    (c.end-ended.ensures.pass.1 ∙ c.run-ran.ensures.pass.sender ∙ ap (λ (p : PutPass). p.sender) c.new-line.ensures.0)
    (subst (λ r. is_closed r ≡ false) c.in-Err-ran.is c.in_default.ensures.ok.0)
    (c.run-ran.ensures.pass.ends ∙ ap ends_put c.new-line.ensures.0)
    c.in_default.ensures.ok.1
