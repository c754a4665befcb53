use Rattle.std.proofs.Common.{◌≡◌, ◌∙◌, ◌+◌, sym, ap, [], ◌∷◌, ◌++◌, length, arith, append_assoc, length-append}
use Rattle.std.proofs.lemmas.List.{append-nil}
use Rattle.std.specs.Vec.Iter.{into_iter_items}
use Rattle.spk_plant_broker.proofs.Each.{nothing_left}
use Rattle.spk_plant_broker.proofs.Lines.{tokens_none, tokens_push}
use Rattle.spk_plant_broker.proofs.done.tokens_of.Goals as goal

pub loop-line-init : goal.loop-line-init
loop-line-init c = record {
  front = [];
  split = sym c.into_iter-line-iterator.ensures.into_iter_gives.0;
  sized = ap length c.new-tokens.ensures.items;
  tokens = λ firsts dropped got taken fits. tokens_none firsts got c.new-tokens.result.items c.new-tokens.ensures.items;
}

pub loop-line-preserved : goal.loop-line-preserved
loop-line-preserved c =
    let i = c.loop-line.invariant in
    let split : c.args.lines.items ≡ i.front ++ c.in-Some.line ∷ into_iter_items c.next.new.self = i.split ∙ ap (λ ls. i.front ++ ls) c.in-Some.ensures.steps.0 in
    record {
      front = i.front ++ c.in-Some.line ∷ [];
      split = split ∙ sym (append_assoc i.front (c.in-Some.line ∷ []) (into_iter_items c.next.new.self));
      sized = ap length c.in_ok-push.ensures.items ∙ (length-append c.loop-line.tokens.items (c.into_token.result ∷ []) ∙ (ap (λ n. n + 1) i.sized ∙ sym (length-append i.front (c.in-Some.line ∷ []))));
      tokens = λ firsts dropped got taken fits. tokens_push firsts dropped got taken c.args.lines.items i.front (into_iter_items c.next.new.self) c.loop-line.tokens.items _ c.in-Some.line c.into_token.result split i.sized c.in_ok-push.ensures.items c.into_token.ensures fits (i.tokens firsts dropped got taken fits);
    }

pub returns-clause-tokens : goal.returns-clause-tokens
returns-clause-tokens c = c.loop-line.invariant.tokens

pub returns-clause-sized : goal.returns-clause-sized
returns-clause-sized c =
    let none : into_iter_items c.loop-line.line-iterator ≡ [] = nothing_left (into_iter_items c.loop-line.line-iterator) (omega (arith, c.in-None.ensures.steps.0, c.loop-line.line-iterator.rest.ok.0)) in
    c.loop-line.invariant.sized ∙ sym (ap length (c.loop-line.invariant.split ∙ (ap (λ ls. c.loop-line.invariant.front ++ ls) none ∙ append-nil c.loop-line.invariant.front)))
