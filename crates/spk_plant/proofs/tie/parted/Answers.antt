use Rattle.std.proofs.Common.{refl}
use Rattle.spk_rings.specs.Ring.{all_offered, popped}
use Rattle.spk_plant.proofs.Ends.{front_is}
use Rattle.spk_plant.proofs.tie.parted.Goals as goal

pub returns-clause-report : goal.returns-clause-report
returns-clause-report c = record { inputs = refl; published = refl; handed = c.in_ok-handed.ensures }

pub returns-clause-front : goal.returns-clause-front
returns-clause-front c =
    front_is c.left_after-left.result c.args.end c.args.token (popped c.left_after-left.new.self) (all_offered c.left_after-left.new.token)
    c.left_after-left.ensures.shorter c.left_after-left.ensures.inlet.1 c.left_after-left.ensures.token.1
