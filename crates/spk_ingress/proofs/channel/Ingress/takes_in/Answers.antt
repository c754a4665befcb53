use Rattle.std.proofs.Common.{◌≡◌, ◌<◌, List, ◌∷◌, ◌++◌, length, get_or, sym, ◌∙◌, ap, arith, subst}
use Rattle.std.proofs.lemmas.Bool.{eqb-true}
use Rattle.std.proofs.lemmas.List.{get_or_default}
use Rattle.crossbeam_channel.specs.Claims.{view}
use Rattle.spk_ingress.specs.Lanes.{ended, with_ended, share_of, AreOnTheWay}
use Rattle.spk_ingress.specs.Passes.{frames_taken, frames_put, taken_in}
use Rattle.spk_ingress.specs.declared.frame.Frame.{Frame}
use Rattle.spk_ingress.specs.declared.rule.Message.{Message}
use Rattle.spk_ingress.specs.declared.rule.View.{View}
use Rattle.spk_ingress.specs.declared.rule.View.TheVariants.{Takes}
use Rattle.spk_ingress.proofs.Steps.{merges_at, learns_at}
use Rattle.spk_ingress.proofs.Settling.{share_all}
use Rattle.spk_ingress.proofs.channel.Ingress.takes_in.Goals as goal

pub absorb-requires-clause-rule : goal.absorb-requires-clause-rule
absorb-requires-clause-rule c =
    merges_at c.args.taker.now.seat.id c.args.self.now.senders (frames_taken c.args.taker.now) c.requires.taker.ended c.args.pass.seat.id c.args.pass.sender (frames_put c.args.pass) (view c.args.taker.now.seat) (view c.args.pass.seat)
    c.requires.taker.sees c.requires.pass.sees

-- the view after the pass was given back
after : (c : goal.After-learn_as-arg-1) → view c.absorb.new.pass ≡ Takes c.args.self.now.senders (frames_taken c.args.taker.now) (ended c.args.pass.sender (frames_put c.args.pass) ∷ c.requires.taker.ended)
after c = c.absorb.ensures.rule ∙ ap (λ v. with_ended v (view c.args.pass.seat)) c.requires.taker.sees
    ∙ ap (with_ended (Takes c.args.self.now.senders (frames_taken c.args.taker.now) c.requires.taker.ended)) c.requires.pass.sees

pub learn_as-requires-clause-rule : goal.learn_as-requires-clause-rule
learn_as-requires-clause-rule c =
    learns_at c.absorb.new.pass.id c.args.self.now.senders (frames_taken c.args.taker.now) (ended c.args.pass.sender (frames_put c.args.pass) ∷ c.requires.taker.ended) (view c.absorb.new.pass) (after c)

pub returns-clause-taker : goal.returns-clause-taker
returns-clause-taker c =
    let taken : List Message = frames_taken c.args.taker.now in
    let is : view c.learn_as.new.pass ≡ Takes c.args.self.now.senders taken (ended c.args.pass.sender (frames_put c.args.pass) ∷ c.requires.taker.ended) =
    c.learn_as.ensures.channel.2 ∙ c.absorb.ensures.rule ∙ ap (λ v. with_ended v (view c.args.pass.seat)) c.requires.taker.sees
    ∙ ap (with_ended (Takes c.args.self.now.senders taken c.requires.taker.ended)) c.requires.pass.sees in
    record {
      seat = c.learn_as.ensures.channel.0;
      channel = c.requires.taker.channel;
      ended = ended c.args.pass.sender (frames_put c.args.pass) ∷ c.requires.taker.ended;
      sees = is ∙ sym (ap (λ (u : View). Takes c.args.self.now.senders (taken_in u) (ended c.args.pass.sender (frames_put c.args.pass) ∷ c.requires.taker.ended)) is);
      room = c.requires.taker.room;
      counts = λ i below. c.requires.taker.counts i below ∙ sym (ap (λ (u : View). length (share_of i (taken_in u))) is);
    }

pub returns-clause-all : goal.returns-clause-all
returns-clause-all c same =
    let taken : List Message = frames_taken c.args.taker.now in
    let put : List Frame = frames_put c.args.pass in
    let is : view c.absorb.new.pass ≡ Takes c.args.self.now.senders taken (ended c.args.pass.sender put ∷ c.requires.taker.ended) =
    c.absorb.ensures.rule ∙ ap (λ v. with_ended v (view c.args.pass.seat)) c.requires.taker.sees
    ∙ ap (with_ended (Takes c.args.self.now.senders taken c.requires.taker.ended)) c.requires.pass.sees in
    let items : List Message = c.learn_as.ensures.rule.0 in
    let way : share_of c.args.pass.sender (taken ++ items) ≡ put = (subst (λ v. AreOnTheWay v items) is c.learn_as.ensures.rule.1).0 in
    let below : c.args.pass.sender < c.args.self.now.senders = c.requires.pass.below in
    let room : length c.args.taker.now.counts.items ≡ c.args.self.now.senders = c.requires.taker.room in
    let number : c.index.result.now ≡ get_or c.args.taker.now.counts.items c.args.pass.sender 0 = c.index.ensures ∙ get_or_default c.args.taker.now.counts.items c.args.pass.sender c.index.result.now 0 (omega arith) in
    share_all c.args.pass.sender taken items put way
    (sym (c.requires.taker.counts c.args.pass.sender below) ∙ sym number ∙ eqb-true c.index.result.now c.args.pass.count same ∙ sym c.requires.pass.count)
