use Rattle.std.proofs.Common.{◌∙◌, ◌-◌, ◌*◌, sym, ap, ◌++◌, length, append-nil}
use Rattle.spk_plant_relay.specs.Shown.{count_numbered}
use Rattle.spk_plant_laws.specs.Places.{is_topic_at}
use Rattle.spk_plant_laws.specs.Standing.{since_at}
use Rattle.spk_plant_lossless.specs.Whole.{all_below}
use Rattle.spk_plant_lossless.proofs.Due.{due-none, since-all}
use Rattle.spk_plant_lossless.proofs.laws.due.Goals as goal

pub returns : goal.returns
returns c = λ p r k can made ran below uncut later before is s none stands.
    c.uncut.ensures.due p r k can made ran below uncut later before is s
    ∙ ap (λ xs. since_at p k later before ++ xs) (due-none (256 - 2 * p.width) (length p.nodes.items) (is_topic_at p k) k (length p.nodes.items) before none)
    ∙ append-nil (since_at p k later before)
    ∙ since-all (256 - 2 * p.width) (length p.nodes.items) (is_topic_at p k) k later before none stands
    ∙ ap all_below (ap (count_numbered (is_topic_at p k) k) (sym is) ∙ c.running.ensures.counted p r k can made ran below)
