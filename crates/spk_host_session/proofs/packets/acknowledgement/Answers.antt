use Rattle.std.proofs.Common.{rules, ◌≡◌, ◌/◌, ◌%◌, ◌∷◌, [], sym, subst, arith}
use Rattle.spk_packets.specs.Grammar.{Spells}
use Rattle.spk_packets.specs.Message.{PubAck}
use Rattle.spk_host_session.proofs.Writable.{puback_spells}
use Rattle.spk_host_session.proofs.packets.acknowledgement.Goals as goal

pub returns-clause-whole : goal.returns-clause-whole
returns-clause-whole c = λ above.
    let is : c.extend_from_slice.new.self.items ≡ 64 ∷ 2 ∷ c.args.id / 256 % 256 ∷ c.args.id % 256 ∷ [] = search rules in
    (PubAck c.args.id, subst (λ l. Spells l (PubAck c.args.id)) (sym is) (puback_spells c.args.id (omega (arith, c.ranges.id)) above))
