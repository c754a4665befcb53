use Rattle.std.proofs.Common.{◌≡◌, ◌-◌, ◌∙◌, length, refl, arith}
use Rattle.spk_plant_broker.proofs.Begins.{begins}
use Rattle.spk_plant_broker.proofs.hub.Hub.new.Goals as goal

pub returns-clause-idle : goal.returns-clause-idle
returns-clause-idle c fresh =
    let count : c.len-count.result ≡ length c.args.outlets.items = omega (arith, c.len-count.ensures, c.args.outlets.ok.0) in
    let edges : c.saturating_sub.result ≡ length c.args.outlets.items - 1 = omega (arith, c.saturating_sub.ensures, count) in
    begins c.args.limit c.args.outlets.items _ c.in_ok-new.ensures.fits (c.in_ok-new.ensures.sized ∙ count) (c.in_ok-lines_of.ensures.fits fresh) c.in_ok-lines_of.ensures.sized
    edges refl c.new-2.ensures.items c.new-3.ensures.items c.new-4.ensures.items c.new-5.ensures.items
