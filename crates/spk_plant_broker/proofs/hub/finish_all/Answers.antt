use Rattle.std.proofs.Common.{◌≡◌, ◌<◌, ◌∙◌, ◌||◌, length, arith, refl, true, Some}
use Rattle.spk_plant_broker.specs.Step.{is_client}
use Rattle.spk_plant_broker.proofs.Lines.{lines_ext, one_more_finished}
use Rattle.spk_plant_broker.proofs.hub.finish_all.Goals as goal

pub loop-client-init : goal.loop-client-init
loop-client-init c = record {
  fits = λ firsts dropped got taken fits. (dropped, (λ k below. absurd (omega (arith, below))), fits);
  sized = refl;
}

pub loop-client-preserved : goal.loop-client-preserved
loop-client-preserved c = record {
  fits = λ firsts dropped got taken fits.
      let h = c.loop-client.invariant.fits firsts dropped got taken fits in
      ((λ k. h.0 k || is_client k (Some c.loop-client.client)), one_more_finished h.0 c.loop-client.client h.1, c.finish_at.ensures.fits firsts h.0 got taken h.2);
  sized = c.finish_at.ensures.sized ∙ c.loop-client.invariant.sized;
}

pub returns-clause-fits : goal.returns-clause-fits
returns-clause-fits c firsts dropped got taken fits =
    let h = c.loop-client.invariant.fits firsts dropped got taken fits in
    lines_ext firsts h.0 (λ k. true) got taken c.loop-client.lines.items (λ k below. h.1 k (let sized : length c.loop-client.lines.items ≡ length c.args.lines.now.items = c.loop-client.invariant.sized in let z : k < c.loop-client.client = omega (arith, below, sized, c.loop-client-test.false, c.len-client-end.ensures, c.args.lines.now.ok.0) in z)) h.2
