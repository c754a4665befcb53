use Rattle.std.proofs.Common.{sym, ◌∙◌}
use Rattle.spk_bytes.proofs.Pieces.{alike, apart}
use Rattle.spk_bytes.proofs.packet.is_joined.Goals as goal

pub returns-then-eq : goal.returns-then-eq
returns-then-eq c =
    alike c.args.whole.now c.split_at.result.0.now c.split_at.result.1.now c.args.head.now c.args.body.now c.eq-then-eq.result
    c.split_at.ensures.by_index.0 c.split_at.ensures.front_len (sym c.eq.ensures ∙ c.if-eq.true) c.eq-then-eq.ensures

pub returns-else-eq : goal.returns-else-eq
returns-else-eq c =
    apart c.args.whole.now c.split_at.result.0.now c.split_at.result.1.now c.args.head.now c.args.body.now c.eq.result
    c.split_at.ensures.by_index.0 c.split_at.ensures.front_len c.eq.ensures c.if-eq.false
