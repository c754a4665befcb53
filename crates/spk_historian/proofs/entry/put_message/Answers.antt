use Rattle.std.proofs.Common.{refl, ap, sym, ◌≡◌, ◌∙◌}
use Rattle.spk_history.specs.Entry as entry
use Rattle.spk_history.specs.declared.entry.Kind.{Kind}
use Rattle.spk_historian.specs.declared.event.What.{What}
use Rattle.spk_history.specs.Parts.{named}
use Rattle.spk_historian.specs.Event.{what_view}
use Rattle.spk_historian.specs.Told.{message_of}
use Rattle.spk_historian.proofs.Telling.{adds}
use Rattle.spk_historian.proofs.entry.put_message.Goals as goal
use Rattle.spk_historian.proofs.entry.put_message.Goals.{in-NodeData, in-DeviceBirth, in-DeviceData, in-DeviceDeath}

pub returns-in-NodeBirth-clause-stands : goal.returns-in-NodeBirth-clause-stands
returns-in-NodeBirth-clause-stands c = adds c.put.result c.args.parts.now c.put.new.self _ _ refl (ap (λ what. message_of c.args.at c.args.node c.args.seq c.args.payload.now (what_view what)) c.in-NodeBirth.is) c.put.ensures.stands c.put.ensures.named

pub returns-clause-stands : goal.returns-clause-stands
returns-clause-stands c =
    let of_what : (x y : What) → x ≡ y → message_of c.args.at c.args.node c.args.seq c.args.payload.now (what_view x) ≡ message_of c.args.at c.args.node c.args.seq c.args.payload.now (what_view y) =
    λ x y is. ap (λ what. message_of c.args.at c.args.node c.args.seq c.args.payload.now (what_view what)) is in
    let of_kind : (x y : Kind) → x ≡ y → entry.Message c.args.at c.args.node (entry.kind_of y) c.args.seq c.args.payload.now ≡ entry.Message c.args.at c.args.node (entry.kind_of x) c.args.seq c.args.payload.now =
    λ x y is. ap (λ kind. entry.Message c.args.at c.args.node (entry.kind_of kind) c.args.seq c.args.payload.now) (sym is) in
    elim c.match-what.branch [
      | in-NodeData w ↦ adds c.put-2.result c.args.parts.now c.put-2.new.self _ _ refl (of_what _ _ w.in-NodeData.is ∙ of_kind _ _ w.kind-is) c.put-2.ensures.stands c.put-2.ensures.named
      | in-DeviceBirth w ↦ adds c.put-2.result c.args.parts.now c.put-2.new.self _ _ refl (of_what _ _ w.in-DeviceBirth.is ∙ of_kind _ _ w.kind-is) c.put-2.ensures.stands c.put-2.ensures.named
      | in-DeviceData w ↦ adds c.put-2.result c.args.parts.now c.put-2.new.self _ _ refl (of_what _ _ w.in-DeviceData.is ∙ of_kind _ _ w.kind-is) c.put-2.ensures.stands c.put-2.ensures.named
      | in-DeviceDeath w ↦ adds c.put-2.result c.args.parts.now c.put-2.new.self _ _ refl (of_what _ _ w.in-DeviceDeath.is ∙ of_kind _ _ w.kind-is) c.put-2.ensures.stands c.put-2.ensures.named
    ]
