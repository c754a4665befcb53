use Rattle.std.proofs.Common.{◌≡◌, ◌<◌, ◌+◌, ◌∙◌, ap, sym, subst, ℕ, arith, List, [], ◌∷◌, ◌++◌, length, take, get_or}
use Rattle.std.proofs.lemmas.List.{take_more}
use Rattle.std.proofs.Math.Seq.{take-length}
use Rattle.spk_plan.specs.declared.script.Step.{Step}
use Rattle.spk_plan.specs.declared.script.Step.TheVariants.{Stop}
use Rattle.spk_plant_edge.specs.Script.{Leads}
use Rattle.spk_plant_edge.proofs.Leading.{leads-snoc}
use Rattle.spk_plant_edge.proofs.Putting.{puts-then}
use Rattle.spk_plant_edge.proofs.desk.Desk.run.Goals as goal

pub loop-step-preserved : goal.loop-step-preserved
loop-step-preserved g c =
    let xs : List Step = c.args.script.now in
    let i : ℕ = c.loop-step.step-index in
    let x : Step = c.step-item.result in
    let below : c.loop-step.step-index < length c.args.script.now = omega arith in
    let more : take (i + 1) xs ≡ take i xs ++ x ∷ [] = take_more xs i x below ∙ ap (λ (y : Step). take i xs ++ y ∷ []) (sym c.step-item.is) in
    record {
      puts = puts-then c.args.ingress.now c.args.self.now.sender.pass c.loop-step.self.sender.pass c.run_step.new.self.sender.pass c.loop-step.invariant.puts c.in_ok-run_step.ensures.pass;
      went = λ o log at.
          let so_far = c.loop-step.invariant.went o log at in
          let led = c.in_ok-run_step.ensures.led o so_far.0 so_far.1 in (
            led.0,
            led.1,
            subst (λ (steps : List Step). Leads o.setup steps log led.0) (sym more) (leads-snoc o.setup (take i xs) x log so_far.0 led.0 so_far.2 led.2),
          );
    }

pub returns-clause-led : goal.returns-clause-led
returns-clause-led g c = λ o log at.
    let xs : List Step = c.args.script.now in
    let end : c.loop-step.step-index ≡ length c.args.script.now = omega arith in
    let all : take c.loop-step.step-index xs ≡ xs = ap (λ n. take n xs) end ∙ take-length xs in
    let so_far = c.loop-step.invariant.went o log at in
    let led = c.in_ok-once.ensures.asked o so_far.0 so_far.1 in (
      led.0,
      led.1,
      leads-snoc o.setup xs Stop log so_far.0 led.0 (subst (λ (steps : List Step). Leads o.setup steps log so_far.0) all so_far.2) led.2,
    )
