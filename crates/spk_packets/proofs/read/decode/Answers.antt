use Rattle.std.proofs.Common.{subst, arith}
use Rattle.spk_packets.specs.Fault.{Gives}
use Rattle.spk_packets.specs.View.{front_view}
use Rattle.spk_packets.proofs.Decoding.{is_clear, is_found, is_only, is_named}
use Rattle.spk_packets.proofs.read.decode.Goals as goal

pub returns-clause-found : goal.returns-clause-found
returns-clause-found c = is_found front_view c.args.bytes.now c.front.result (λ i. omega (arith, c.type_inv.bytes i)) c.front.ensures.given

pub returns-clause-only : goal.returns-clause-only
returns-clause-only c = λ p n le is. subst (λ r. Gives front_view c.front.result r) (is_only c.args.bytes.now p n le is) c.front.ensures.given

pub returns-clause-refused : goal.returns-clause-refused
returns-clause-refused c = is_named front_view c.args.bytes.now c.front.result (λ i. omega (arith, c.type_inv.bytes i)) c.front.ensures.given

pub returns-clause-not_refused : goal.returns-clause-not_refused
returns-clause-not_refused c = is_clear front_view c.args.bytes.now c.front.result c.front.ensures.given
