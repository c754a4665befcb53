use Rattle.std.proofs.Common.{sym, ap, ◌∙◌, ◌++◌, append_assoc}
use Rattle.spk_bytes.proofs.Pieces.{alike-turned, apart-turned}
use Rattle.spk_bytes.proofs.packet.are_same.Goals as goal

pub returns-then-eq : goal.returns-then-eq
returns-then-eq c =
    let front = c.split_at.result.0.now in
    let rest = c.split_at.result.1.now in
    let last = c.args.other_body.now in
    alike-turned (c.args.other_head.now ++ last) front (rest ++ last) c.args.head.now c.args.body.now c.is_joined.result
    (ap (λ x. x ++ last) c.split_at.ensures.by_index.0 ∙ append_assoc front rest last) c.split_at.ensures.front_len (sym c.eq.ensures ∙ c.if-eq.true) c.is_joined.ensures

pub returns-else-eq : goal.returns-else-eq
returns-else-eq c =
    let front = c.split_at.result.0.now in
    let rest = c.split_at.result.1.now in
    let last = c.args.other_body.now in
    apart-turned (c.args.other_head.now ++ last) front (rest ++ last) c.args.head.now c.args.body.now c.eq.result
    (ap (λ x. x ++ last) c.split_at.ensures.by_index.0 ∙ append_assoc front rest last) c.split_at.ensures.front_len c.eq.ensures c.if-eq.false
