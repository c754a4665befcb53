use Rattle.std.proofs.Common.{refl, sym, ap, ◌∙◌, None, Some, if◌then◌else◌, ◌==◌, ◌++◌, ◌∷◌, [], length, subst}
use Rattle.spk_plant_broker.specs.declared.hub.Hub.{Hub}
use Rattle.spk_plant_broker.specs.Holding.{FitLines}
use Rattle.spk_broker.specs.Sent.{sent_view}
use Rattle.spk_plant_broker.specs.Step.{cuts_in, is_dropped, ring_of}
use Rattle.spk_plant_broker.specs.Log.{got_of, room_of, taken_of}
use Rattle.spk_plant_broker.proofs.Hubs.{accepted_offers, passed_offers, refused_offers}
use Rattle.spk_plant_broker.proofs.Rings.{opener_below, rings_same}
use Rattle.spk_plant_broker.proofs.hub.Hub.offer.Goals as goal

pub returns-in_default-clause-offers : goal.returns-in_default-clause-offers
returns-in_default-clause-offers g c s closed log sends closes f =
    passed_offers s closed log c.args.self.now _ (sent_view c.args.send) sends closes f
    (record { desk = refl; edges = refl; over = refl; taken = refl; sized = refl }) refl refl refl
    (ap (ring_of (is_dropped (room_of s.limit s.edges log).over closed)) (sym c.in_default.ensures)) f.holds.lines

pub returns-in_default-offer_to-clause-offers : goal.returns-in_default-offer_to-clause-offers
returns-in_default-offer_to-clause-offers g c s closed log sends closes f =
    let l = c.in_default-offer_to.ensures.gives s.outlets (is_dropped (room_of s.limit s.edges log).over closed) (λ j. got_of j log) (taken_of log) f.holds.lines in
    passed_offers s closed log c.args.self.now _ (sent_view c.args.send) sends closes f
    (record { desk = refl; edges = refl; over = refl; taken = refl; sized = c.offer_to.ensures.sized }) refl refl refl
    (ap (ring_of (is_dropped (room_of s.limit s.edges log).over closed)) (sym c.in-Some.ensures) ∙ ap (λ b. if b then None else Some c.in-Some.client) l.0) l.1

pub returns-then-passed-clause-offers : goal.returns-then-passed-clause-offers
returns-then-passed-clause-offers g c s closed log sends closes f =
    let gives = rw c.if-passed.true at c.in-Some-offer_to.ensures.gives in
    let l = gives s.outlets (is_dropped (room_of s.limit s.edges log).over closed) (λ j. got_of j log) (taken_of log) f.holds.lines in
    let n = c.in_ok-note_accepted.ensures in
    accepted_offers s closed log c.args.self.now c.note_accepted.new.self (sent_view c.args.send) sends closes c.in-Some.client f
    (record { desk = ap (λ (h : Hub). h.desk) n.same; edges = ap (λ (h : Hub). h.edges) n.same; over = ap (λ (h : Hub). h.over) n.same; taken = ap (λ (h : Hub). h.taken.items) n.same; sized = ap (λ (h : Hub). length h.lines.items) n.same ∙ c.offer_to.ensures.sized })
    (ap (λ (h : Hub). h.untold.items) n.same) (ap (λ (h : Hub). h.refusals.items) n.same) n.accepted
    c.in-Some.ensures l.0 (subst (λ (h : Hub). FitLines s.outlets (is_dropped (room_of s.limit s.edges log).over closed) (λ j. if c.in-Some.client == j then got_of j log ++ (record { bytes = c.args.send.bytes; cuts = cuts_in j (taken_of log) }) ∷ [] else got_of j log) (taken_of log) h.lines.items) (sym n.same) l.1)

pub returns-clause-offers : goal.returns-clause-offers
returns-clause-offers g c s closed log sends closes f =
    let gives = rw c.if-passed.false at c.in-Some-offer_to.ensures.gives in
    let l = gives s.outlets (is_dropped (room_of s.limit s.edges log).over closed) (λ j. got_of j log) (taken_of log) f.holds.lines in
    let n = c.in_ok-note_refused.ensures in
    refused_offers s closed log c.args.self.now c.note_refused.new.self (sent_view c.args.send) sends closes c.in-Some.client f
    (record { desk = ap (λ (h : Hub). h.desk) n.same; edges = ap (λ (h : Hub). h.edges) n.same; over = ap (λ (h : Hub). h.over) n.same; taken = ap (λ (h : Hub). h.taken.items) n.same; sized = ap (λ (h : Hub). length h.lines.items) n.same ∙ c.offer_to.ensures.sized })
    n.untold n.refusals (ap (λ (h : Hub). h.accepted.items) n.same)
    c.in-Some.ensures l.0 (subst (λ (h : Hub). FitLines s.outlets (is_dropped (room_of s.limit s.edges log).over closed) (λ j. got_of j log) (taken_of log) h.lines.items) (sym n.same) l.1) l.2

pub offer_to-requires : goal.offer_to-requires
offer_to-requires g c = opener_below (length c.args.self.now.lines.items) c.args.self.now.desk.openers.items c.args.send.conn c.in-Some.client c.requires.openers c.in-Some.ensures

pub returns-in_default-offer_to-clause-rings : goal.returns-in_default-offer_to-clause-rings
returns-in_default-offer_to-clause-rings g c = rings_same c.args.self.now _ refl c.offer_to.ensures.sized c.requires

pub returns-then-passed-clause-rings : goal.returns-then-passed-clause-rings
returns-then-passed-clause-rings g c =
    let n = c.in_ok-note_accepted.ensures in
    rings_same c.args.self.now c.note_accepted.new.self (ap (λ (h : Hub). h.desk.openers.items) n.same) (ap (λ (h : Hub). length h.lines.items) n.same ∙ c.offer_to.ensures.sized) c.requires

pub returns-clause-rings : goal.returns-clause-rings
returns-clause-rings g c =
    let n = c.in_ok-note_refused.ensures in
    rings_same c.args.self.now c.note_refused.new.self (ap (λ (h : Hub). h.desk.openers.items) n.same) (ap (λ (h : Hub). length h.lines.items) n.same ∙ c.offer_to.ensures.sized) c.requires
