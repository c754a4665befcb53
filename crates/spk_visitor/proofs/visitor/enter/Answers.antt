use Rattle.std.proofs.Common.{◌∙◌, inl, inr, length, ◌-◌, subst, sym, ap, take, drop}
use Rattle.std.proofs.lemmas.List.{take-append-drop}
use Rattle.spk_packets.specs.Grammar.{Spells}
use Rattle.spk_packets.specs.View.{view}
use Rattle.spk_door.specs.View.{door_view}
use Rattle.spk_visitor.specs.Next.{Comes, IsNext, Keeps}
use Rattle.spk_visitor.specs.Rules.{first}
use Rattle.spk_visitor.specs.declared.visitor.Stage.TheVariants.{Outside}
use Rattle.spk_visitor.proofs.Outcomes.{if-ok-both, rest-all}
use Rattle.spk_visitor.proofs.visitor.enter.Goals as goal

pub returns-in-Ok : goal.returns-in-Ok
returns-in-Ok c =
    let d = c.args.door.now in
    let unread = c.args.unread.items in
    let n = c.in-Ok.size in
    let packet = view c.in-Ok.packet in
    let out = c.args.out.now.items in
    let new = c.let_in.new.out.items in
    let rest = ap (λ xs. take (length xs - n) (drop n xs)) c.deref-in-Ok-2.ensures.value ∙ rest-all n unread in
    let spells = subst (λ xs. Spells (take n xs) packet) c.deref.ensures.value c.in-Ok.ensures.found.1 in
    if-ok-both _ _ (λ x. IsNext d (Outside c.args.unread) x.1 x.0 out new) (λ x comes keeps. inr (inl (record {
      packet = packet;
      front = take n unread;
      rest = drop n unread;
      spells = spells;
      parts = sym (take-append-drop n unread);
      comes = subst (λ xs. Comes d (first (door_view d) (take n xs) packet) x.1 x.0 out new) c.deref-in-Ok.ensures.value comes;
      keeps = subst (λ xs. Keeps x.0 xs) rest keeps;
    }))) c.let_in.result c.let_in.ensures.comes c.let_in.ensures.keeps
