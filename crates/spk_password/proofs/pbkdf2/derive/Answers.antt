use Rattle.std.proofs.Common.{◌≡◌, ◌∙◌, ap, arith, suc, ◌+◌, ◌-◌}
use Rattle.spk_password.specs.Hmac.{hmac}
use Rattle.spk_password.specs.Pbkdf2.{sum_at, u_at, xored}
use Rattle.spk_password.proofs.pbkdf2.derive.Goals as goal

pub loop-done-preserved : goal.loop-done-preserved
loop-done-preserved c =
    let p = c.args.password.now in
    let s = c.args.salt.now in
    let n = c.loop-done._done - 1 in
    let on : suc n ≡ c.loop-done._done + 1 - 1 = omega (arith, c.loop-done.invariant.2) in
    let next : c.mac-last.result ≡ u_at p s (suc n) =
    c.mac-last.ensures p c.new-keyed.ensures.inner c.new-keyed.ensures.outer ∙ ap (hmac p) c.loop-done.invariant.0 in (
      next ∙ ap (u_at p s) on,
      c.xored-sum.ensures ∙ ap (λ x. xored x c.mac-last.result) c.loop-done.invariant.1 ∙ ap (xored (sum_at p s n)) next ∙ ap (sum_at p s) on,
      omega arith,
      omega (arith, c.loop-done-test.true),
    )
