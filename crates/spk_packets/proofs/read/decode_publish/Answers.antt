use Rattle.std.proofs.Common.{subst, arith}
use Rattle.spk_packets.specs.Fault.{Gives}
use Rattle.spk_packets.specs.View.{lent_view}
use Rattle.spk_packets.proofs.Decoding.{is_clear, is_found, is_only, is_named}
use Rattle.spk_packets.proofs.read.decode_publish.Goals as goal

pub returns-clause-found : goal.returns-clause-found
returns-clause-found c = is_found lent_view c.args.bytes.now c.lent_front.result (λ i. omega (arith, c.type_inv.bytes i)) c.lent_front.ensures.given

pub returns-clause-only : goal.returns-clause-only
returns-clause-only c = λ p n le is. subst (λ r. Gives lent_view c.lent_front.result r) (is_only c.args.bytes.now p n le is) c.lent_front.ensures.given

pub returns-clause-refused : goal.returns-clause-refused
returns-clause-refused c = is_named lent_view c.args.bytes.now c.lent_front.result (λ i. omega (arith, c.type_inv.bytes i)) c.lent_front.ensures.given

pub returns-clause-not_refused : goal.returns-clause-not_refused
returns-clause-not_refused c = is_clear lent_view c.args.bytes.now c.lent_front.result c.lent_front.ensures.given
