use Rattle.std.proofs.Common.{◌∙◌, ◌^◌, ap, sym, subst, map, List, [], ◌∷◌, ◌++◌, ℕ, Vec}
use Rattle.std.specs.Prelude.{IfSome}
use Rattle.std.specs.declared.alloc.Global.{Global}
use Rattle.std.proofs.lemmas.Bool.{lt-ltb}
use Rattle.spk_edge.specs.History.{Asks, IsGoing, going, sending}
use Rattle.spk_edge.specs.Sealing.{bytes_of}
use Rattle.spk_edge.proofs.Drains.{asks-lost, asks-sent}
use Rattle.spk_edge.proofs.Flushed.{dropped-done, sent-done}
use Rattle.spk_edge.proofs.Fronts.{few-going}
use Rattle.spk_edge.proofs.node.EdgeNode.send_kept.Goals as goal

pub returns-in_default-clause-done : goal.returns-in_default-clause-done
returns-in_default-clause-done c =
    let n = c.args.self.now in
    let none = c.in_ok-front.ensures.none c.in_default.is in
    dropped-done n c.args.now 1 c.drop_kept.new.self c.silence.result c.requires.born (lt-ltb c.args.now (2 ^ 63) c.requires.moment)
    (asks-lost n c.args.now c.args.owner (going n c.args.now c.args.owner c.args.most) c.requires.asked none) c.requires.some
    c.silence.ensures.packets c.silence.ensures.writes c.silence.ensures.close c.drop_kept.ensures

pub returns-clause-done : goal.returns-clause-done
returns-clause-done c =
    let n = c.args.self.now in
    let f = c.in-Some.front in
    let g = subst (λ o. IfSome o (IsGoing n c.args.now c.args.owner c.args.most)) c.in-Some.is c.in_ok-front.ensures.some in
    let asked : Asks n c.args.now (sending n.standing.asked c.args.now c.args.owner f.count) = c.requires.asked ∙ ap (sending n.standing.asked c.args.now c.args.owner) (sym g.count) in
    sent-done n c.args.now c.args.owner f.count c.later_stamp-stamp.result c.drop_kept-2.new.self c.count_sent.new.self c.answer.result c.requires.born
    (lt-ltb c.args.now (2 ^ 63) c.requires.moment) (asks-sent n c.args.now c.args.owner f.count asked g.some) (few-going n c.args.now c.args.owner c.args.most f.count g.count c.requires.few) c.later_stamp-stamp.ensures
    (lt-ltb c.later_stamp-stamp.result (2 ^ 63) c.if-stamp-ge-END.false) g.writable
    (ap (λ (v : Vec (Vec ℕ Global) Global). map bytes_of v.items) c.answer.ensures.packets ∙ ap (map bytes_of) c.in_ok-push.ensures.items
    ∙ ap (λ (l : List (Vec ℕ Global)). map bytes_of (l ++ f.bytes ∷ [])) c.in_ok-packets.ensures.items
    ∙ ap (λ (b : List ℕ). b ∷ []) g.bytes)
    c.answer.ensures.writes c.answer.ensures.close g.whole c.drop_kept-2.ensures c.count_sent.ensures
