use Rattle.std.proofs.Common.{◌≡◌, length, refl, arith}
use Rattle.spk_ingress.specs.Passes.{frames_put}
use Rattle.spk_ingress.proofs.Steps.{puts_at}
use Rattle.spk_ingress.proofs.channel.Ingress.put.Goals as goal

pub send_as-requires-clause-rule : goal.send_as-requires-clause-rule
send_as-requires-clause-rule g c =
    let count : length (frames_put c.args.pass.now) ≡ c.args.pass.now.count = c.requires.count in
    let apart : c.args.pass.now.count ≡ 18446744073709551615 → ⊥ = c.if-pass.false in (
      (λ items views. puts_at _ c.args.pass.now.seat.id c.args.pass.now.sender (frames_put c.args.pass.now) (record { sender = c.args.pass.now.sender; frame = c.args.frame }) _ c.requires.sees refl (omega arith) items views),
      (λ items views h at. tt),
    )
