use Rattle.std.proofs.Common.{◌∙◌, ap, sym}
use Rattle.std.specs.List.{position}
use Rattle.spk_quota.specs.Step.{is_will_of}
use Rattle.spk_quota.proofs.Lists.{placed, unplaced}
use Rattle.spk_quota.proofs.Settling.{settled_by}
use Rattle.spk_quota.proofs.messages.settle_in.Goals as goal

pub returns-in-Some : goal.returns-in-Some
returns-in-Some c =
    let list = c.args.list.now.items in
    let there = placed (is_will_of c.args.conn) list c.in-Some.place (ap (position (is_will_of c.args.conn)) (sym c.deref.ensures.value) ∙ sym c.place_of.ensures ∙ c.in-Some.is) in
    c.settle_at.ensures there.0 there.1 there.2 ∙ ap (settled_by c.args.conn list) (sym there.3)

pub returns-in_default : goal.returns-in_default
returns-in_default c =
    let list = c.args.list.now.items in
    let none = ap (position (is_will_of c.args.conn)) (sym c.deref.ensures.value) ∙ sym c.place_of.ensures ∙ c.in_default.is in
    ap (settled_by c.args.conn list) (sym (unplaced (is_will_of c.args.conn) list none))
