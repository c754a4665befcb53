use Rattle.std.proofs.Common.{◌≡◌, ◌∙◌, ◌+◌, sym, ap, [], ◌∷◌, ◌++◌, length, arith, append_assoc, length-append}
use Rattle.std.proofs.lemmas.List.{append-nil}
use Rattle.std.specs.Vec.Iter.{into_iter_items}
use Rattle.spk_plant_broker.proofs.Each.{nothing_left}
use Rattle.spk_plant_broker.proofs.Lines.{lines_none, lines_push}
use Rattle.spk_plant_broker.proofs.hub.lines_of.Goals as goal

pub loop-outlet-init : goal.loop-outlet-init
loop-outlet-init c = record {
  front = [];
  split = sym c.into_iter-outlet-iterator.ensures.into_iter_gives.0;
  sized = ap length c.new-lines.ensures.items;
  fits = λ fresh. lines_none c.args.outlets.items c.new-lines.result.items c.new-lines.ensures.items;
}

pub loop-outlet-preserved : goal.loop-outlet-preserved
loop-outlet-preserved c =
    let i = c.loop-outlet.invariant in
    let split : c.args.outlets.items ≡ i.front ++ c.in-Some.outlet ∷ into_iter_items c.next.new.self = i.split ∙ ap (λ os. i.front ++ os) c.in-Some.ensures.steps.0 in
    record {
      front = i.front ++ c.in-Some.outlet ∷ [];
      split = split ∙ sym (append_assoc i.front (c.in-Some.outlet ∷ []) (into_iter_items c.next.new.self));
      sized = ap length c.in_ok-push.ensures.items ∙ (length-append c.loop-outlet.lines.items (c.new.result ∷ []) ∙ (ap (λ n. n + 1) i.sized ∙ sym (length-append i.front (c.in-Some.outlet ∷ []))));
      fits = λ fresh. lines_push c.args.outlets.items i.front (into_iter_items c.next.new.self) c.loop-outlet.lines.items _ c.in-Some.outlet c.new.result split i.sized c.in_ok-push.ensures.items fresh c.new.ensures (i.fits fresh);
    }

pub returns-clause-fits : goal.returns-clause-fits
returns-clause-fits c = c.loop-outlet.invariant.fits

pub returns-clause-sized : goal.returns-clause-sized
returns-clause-sized c =
    let none : into_iter_items c.loop-outlet.outlet-iterator ≡ [] = nothing_left (into_iter_items c.loop-outlet.outlet-iterator) (omega (arith, c.in-None.ensures.steps.0, c.loop-outlet.outlet-iterator.rest.ok.0)) in
    c.loop-outlet.invariant.sized ∙ sym (ap length (c.loop-outlet.invariant.split ∙ (ap (λ os. c.loop-outlet.invariant.front ++ os) none ∙ append-nil c.loop-outlet.invariant.front)))
