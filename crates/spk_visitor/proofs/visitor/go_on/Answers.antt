use Rattle.std.proofs.Common.{inl, inr, sym, ap, subst}
use Rattle.std.specs.Option.{option_map_or}
use Rattle.spk_packets.specs.Stream.{TakesPacket}
use Rattle.spk_packets.specs.View.{view}
use Rattle.spk_access.specs.Rights.{rights_view}
use Rattle.spk_door.specs.Rules.{judged}
use Rattle.spk_door.specs.View.{door_view}
use Rattle.spk_visitor.specs.Data.{Inside, Over}
use Rattle.spk_visitor.specs.Next.{Comes}
use Rattle.spk_visitor.specs.Rules.{further, outcome}
use Rattle.spk_visitor.specs.View.{answer_view}
use Rattle.spk_visitor.proofs.Outcomes.{stands-behind, stands-by}
use Rattle.spk_visitor.proofs.visitor.go_on.Goals as goal

pub returns-in_ok-answer-in-Ok-Some : goal.returns-in_ok-answer-in-Ok-Some
returns-in_ok-answer-in-Ok-Some c =
    let d = c.args.door.now in
    let who = c.args.who in
    let r = rights_view c.in-Some.rights.now in
    let p = view c.in-Ok-Some.packet in
    let a = c.in_ok-answer-in-Ok-Some.answer in
    let new = c.behind-stage.result in
    let taken : TakesPacket c.args.feed p c.next.new.self = (rw c.in-Ok-Some.field-0-is at c.in-Ok-Some.ensures.taken) in
    let (front, spells, parts) = taken in
    let is = sym c.in-Some.ensures in
    let here = ap (λ o. option_map_or Inside o Over) is in
    let comes : Comes d (further r p (judged r d.guard p)) a new c.args.out.now.items c.pass.new.out.items = record {
      stands = stands-by d who c.next.new.self r p (judged r d.guard p) is (answer_view a) new c.in_ok-answer-in-Ok-Some.ensures.answer c.behind-stage.ensures;
      answers = c.in_ok-answer-in-Ok-Some.ensures.answer;
      passes = c.in_ok-answer-in-Ok-Some.ensures.passes;
    } in
    inr (inl (record {
      packet = p;
      front = front;
      rest = c.next.new.self;
      spells = spells;
      parts = parts;
      comes = subst (λ s. Comes d (outcome (door_view d) s front p) a new c.args.out.now.items c.pass.new.out.items) (sym here) comes;
      keeps = (stands-behind d who c.next.new.self r is (answer_view a) new c.behind-stage.ensures).1;
    }))
