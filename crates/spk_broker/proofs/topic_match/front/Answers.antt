use Rattle.std.proofs.Common.{◌≡◌, ◌<◌, ◌∙◌, length, ap, arith, inr, sym, drop}
use Rattle.spk_broker.specs.Fronts.{fits_from, is_start}
use Rattle.spk_broker.proofs.Fronts.{along, open-on}
use Rattle.spk_broker.proofs.topic_match.front.Goals as goal

pub loop-at-preserved : goal.loop-at-preserved
loop-at-preserved c =
    let f = c.args.filter.now in
    let t = c.args.topic.now in
    let i = c.loop-at.at in
    let lf : i < length f = omega (arith, c.min-most.ensures) in
    let lt : i < length t = omega (arith, c.min-most.ensures) in
    let alike = sym c.is_alike.ensures ∙ c.if-not-is_alike.false in
    record {
      rest = c.loop-at.invariant.rest ∙ along c.args.start f t i lf lt alike;
      unbarred = inr (open-on f t i c.loop-at.invariant.unbarred lf lt alike);
    }

pub returns-clause-rest : goal.returns-clause-rest
returns-clause-rest c =
    let f = c.args.filter.now in
    let t = c.args.topic.now in
    let end : c.loop-at.at ≡ c.min-most.result = omega (arith, c.loop-at.auto.at-end) in
    c.loop-at.invariant.rest ∙ ap (λ k. fits_from (is_start c.args.start k f) (drop k f) (drop k t)) end
