use Rattle.std.proofs.Common.{◌≡◌, ◌<◌, inl, inr, Some, length, refl, arith, rules}
use Rattle.spk_rings.specs.Ring.{all_offered, popped}
use Rattle.spk_plant.proofs.Chosen.{frames_left, left_is, missing_more, ring_left}
use Rattle.spk_plant.proofs.Ends.{all_is, passes_into, theirs_less, tied_is, token_at}
use Rattle.spk_plant.specs.Done.{lists_of}
use Rattle.spk_plant.proofs.tie.report_of.Goals as goal

pub left_after-requires : goal.left_after-requires
left_after-requires g c =
    c.requires.token c.in-Some.token
    (token_at c.args.ends.broker.tokens.items c.last_of.new.tokens.items c.in-Some.token (length c.args.ends.edges.items) c.in-Some.ensures.there c.requires.sized)

pub apart-requires-clause-theirs : goal.apart-requires-clause-theirs
apart-requires-clause-theirs g c =
    theirs_less c.args.ends.edges.items c.last_of.new.tokens.items c.args.ends.broker.tokens.items (Some c.in-Some.token) c.in-Some.ensures.there c.requires.tokens

pub settle-requires-clause-passes : goal.settle-requires-clause-passes
settle-requires-clause-passes g c =
    passes_into c.args.ingress (lists_of c.args.ends) c.args.ends.edges.items c.last_of.new.tokens.items c.in-Ok.parts.0.items c.in-Ok.parts.1.items c.push.new.self.items
    c.args.ends.host.pass c.requires.into c.in-Ok.ensures.apart c.requires.pass c.in_ok-push.ensures.items

pub returns-clause-tied : goal.returns-clause-tied
returns-clause-tied g c =
    let e = c.args.ends in
    let empty : c.left_after.result ≡ 0 = omega arith in
    tied_is e
    (record {
      taken = e.broker.taken;
      refusals = e.broker.refusals;
      nodes = c.in-Ok.parts.0;
      given = e.host.given;
      accepted = e.broker.accepted;
      refused = e.broker.refused;
      is_cut = e.broker.is_cut;
    })
    c.last_of.new.tokens.items c.in-Some.token c.in-Ok.parts.1.items c.push.new.self.items refl refl refl refl refl refl c.requires.sized c.in-Some.ensures.there
    (all_is c.left_after.result (popped c.left_after.new.self) (all_offered c.left_after.new.token) (popped e.host.inlet) (all_offered c.in-Some.token)
    c.left_after.ensures.shorter empty c.left_after.ensures.inlet.1 c.left_after.ensures.token.1)
    c.in-Ok.ensures.apart c.in_ok-push.ensures.items c.in-Ok-settle.ensures.settled.taken

pub returns-then-left_after-ne0-clause-fault : goal.returns-then-left_after-ne0-clause-fault
returns-then-left_after-ne0-clause-fault g c =
    let e = c.args.ends in
    let some : 0 < c.left_after.result = omega arith in
    inr (
      refl,
      inr (inl (ring_left e.host.inlet c.last_of.new.tokens.items e.broker.tokens.items (Some c.in-Some.token) (length e.edges.items) c.in-Some.ensures.there c.requires.sized
          (left_is c.left_after.result e.host.inlet c.in-Some.token (popped c.left_after.new.self) (all_offered c.left_after.new.token) c.left_after.ensures.shorter some
          c.left_after.ensures.inlet.1 c.left_after.ensures.token.1))),
    )

pub returns-in-Err-clause-fault : goal.returns-in-Err-clause-fault
returns-in-Err-clause-fault g c = elim c.in-Err.ensures.fault [
  | inl memory ↦ inl memory
  | inr missing ↦ inr (missing.0, inl (missing_more c.last_of.new.tokens.items c.args.ends.broker.tokens.items (Some c.in-Some.token) c.in-Some.ensures.there missing.1))
]

pub returns-in-Err-Unsettled-clause-fault : goal.returns-in-Err-Unsettled-clause-fault
returns-in-Err-Unsettled-clause-fault g c =
    inr (
      refl,
      inr (inr (frames_left c.args.ingress c.args.ends c.last_of.new.tokens.items c.in-Ok.parts.0.items c.in-Ok.parts.1.items c.push.new.self.items
          c.requires c.in-Ok.ensures.apart c.in_ok-push.ensures.items (c.in-Err-Unsettled.ensures.unsettled (search rules)))),
    )
