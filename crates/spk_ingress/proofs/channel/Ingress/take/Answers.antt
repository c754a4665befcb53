use Rattle.std.proofs.Common.{◌≡◌, ◌+◌, ◌<◌, ℕ, List, length, set, get_or, sym, ◌∙◌, ap, arith}
use Rattle.std.proofs.lemmas.List.{length-set, get_or_default}
use Rattle.crossbeam_channel.specs.Claims.{view}
use Rattle.spk_ingress.specs.Lanes.{share_of}
use Rattle.spk_ingress.specs.Passes.{frames_taken, taken_in}
use Rattle.spk_ingress.specs.declared.rule.Message.{Message}
use Rattle.spk_ingress.specs.declared.rule.View.{View}
use Rattle.spk_ingress.specs.declared.rule.View.TheVariants.{Takes}
use Rattle.spk_ingress.proofs.Steps.{takes_at}
use Rattle.spk_ingress.proofs.Taking.{IsTakenFrom, taken_at, counted_more}
use Rattle.spk_ingress.proofs.channel.Ingress.take.Goals as goal

pub recv_as-requires-clause-rule : goal.recv_as-requires-clause-rule
recv_as-requires-clause-rule g c = (takes_at c.args.pass.now.seat.id c.args.self.now.senders (frames_taken c.args.pass.now) c.requires.ended (view c.args.pass.now.seat) c.requires.sees, λ items views h at. tt)

pub returns-clause-pass : goal.returns-clause-pass
returns-clause-pass g c =
    let taken : List Message = frames_taken c.args.pass.now in
    let t : IsTakenFrom c.args.self.now.senders taken c.requires.ended c.in-Ok.message (view c.recv_as.new.pass) =
    taken_at c.args.self.now.senders taken c.requires.ended (view c.args.pass.now.seat) c.in-Ok.message (view c.recv_as.new.pass) c.requires.sees c.in-Ok.ensures.rule in
    let below : c.in-Ok.message.sender < c.args.self.now.senders = t.below in
    let counts : List ℕ = c.args.pass.now.counts.items in
    let sized : length counts ≡ c.args.self.now.senders = c.requires.room in
    let number : c.index-number.result.now ≡ get_or counts c.in-Ok.message.sender 0 = c.index-number.ensures ∙ get_or_default counts c.in-Ok.message.sender c.index-number.result.now 0 (omega arith) in
    record {
      seat = (rw c.requires.channel at c.in-Ok.ensures.channel.0);
      channel = c.requires.channel;
      ended = c.requires.ended;
      sees = t.after ∙ sym (ap (λ (u : View). Takes c.args.self.now.senders (taken_in u) c.requires.ended) t.after);
      room = length-set counts c.in-Ok.message.sender (c.index-number.result.now + 1) ∙ sized;
      counts = λ i inside. ap (λ k. get_or (set counts c.in-Ok.message.sender (k + 1)) i 0) number
          ∙ counted_more counts c.args.self.now.senders taken c.in-Ok.message sized below c.requires.counts i inside
          ∙ sym (ap (λ (u : View). length (share_of i (taken_in u))) t.after);
    }
