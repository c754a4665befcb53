use Rattle.std.proofs.Common.{◌≡◌, ◌∙◌, inl, inr, length, arith, rules}
use Rattle.spk_plant.proofs.Starts.{edges_front, edges_last, edges_push, starts_push}
use Rattle.spk_plant.proofs.start.+starts_of.Goals as goal

pub returns-in-Err-clause-fault : goal.returns-in-Err-clause-fault
returns-in-Err-clause-fault t c = elim c.in-Err.ensures.fault [
  | inl memory ↦ inl memory
  | inr bad ↦ inr (bad.0, λ all. bad.1 (edges_last c.args.group.now c.args.host.now c.pop.new.self.items c.args.nodes.items c.in-Some.node c.in-Some.ensures.items all))
]

pub returns-in-Err-starts_of-clause-fault : goal.returns-in-Err-starts_of-clause-fault
returns-in-Err-starts_of-clause-fault t c = elim c.in-Err-starts_of.ensures.fault [
  | inl memory ↦ inl memory
  | inr bad ↦ inr (bad.0, λ all. bad.1 (edges_front c.args.group.now c.args.host.now c.pop.new.self.items c.args.nodes.items c.in-Some.node c.in-Some.ensures.items all))
]

pub returns-clause-starts : goal.returns-clause-starts
returns-clause-starts t c =
    let passes : length c.args.passes.items ≡ length c.args.nodes.items = first_of (omega arith, search rules) in
    let inlets : length c.args.inlets.items ≡ length c.args.nodes.items = first_of (omega arith, search rules) in
    let place : c.len-place.result ≡ length c.pop.new.self.items = search rules in
    starts_push c.args.group.now c.args.host.now c.pop.new.self.items c.args.nodes.items c.pop-2.new.self.items c.args.passes.items c.pop-3.new.self.items c.args.inlets.items
    c.in-Ok-starts_of.starts.items c.push.new.self.items c.in-Some.node c.in-Some-pop.pass c.in-Some-pop-2.inlet c.in-Ok.start
    c.in-Some.ensures.items c.in-Some-pop.ensures.items c.in-Some-pop-2.ensures.items c.in_ok-push.ensures.items passes inlets
    c.in-Ok.ensures.ends.0 c.in-Ok.ensures.ends.1 (c.in-Ok.ensures.place ∙ place) c.in-Ok.ensures.start c.in-Ok-starts_of.ensures.starts

pub returns-clause-good : goal.returns-clause-good
returns-clause-good t c =
    edges_push c.args.group.now c.args.host.now c.pop.new.self.items c.args.nodes.items c.in-Some.node c.in-Some.ensures.items c.in-Ok-starts_of.ensures.good c.in-Ok.ensures.good
