use Rattle.std.proofs.Common.{◌∙◌, arith, map, subst, sym}
use Rattle.std.specs.List.{flat_map}
use Rattle.spk_broker.specs.Filing.{IsHeld}
use Rattle.spk_broker.specs.View.{session_now, session_was}
use Rattle.spk_broker.proofs.Follows.{one-held}
use Rattle.spk_broker.proofs.index.GrantIndex.follow_one.Goals as goal

pub returns : goal.returns
returns c o h =
    c.trim.ensures (flat_map session_now c.args.sessions.now)
    (one-held c.turned_one.result c.in-Some.tree c.args.self.now.size c.turned_one.new.size c.args.sessions.now c.args.place c.index-sessions-place.result c.requires (c.requires.low 0 (omega arith)) c.index-sessions-place.is
    c.turned_one.ensures.keyed c.turned_one.ensures.turned c.turned_one.ensures.size c.turned_one.ensures.small o
    (subst (λ i. IsHeld i c.args.self.now.size (map session_was c.args.sessions.now)) (sym c.take.ensures.value ∙ c.in-Some.is) h))
