use Rattle.std.proofs.Common.{◌∙◌, ap}
use Rattle.std.specs.Prelude.{◌*◌, ◌-◌, ◌/◌, ◌%◌, ◌^◌, min}
use Rattle.spk_view.specs.Keyed.{chain_of}
use Rattle.spk_view.proofs.keys.chain_of.Goals as goal

pub returns : goal.returns
unfolding chain_of
returns c =
    c.min.ensures ∙ ap (min _) c.saturating_sub.ensures
    ∙ ap (λ spread. min (((spread * c.args.count) % (2 ^ 64)) / (2 ^ 32)) (c.args.count - 1)) c.spread_of.ensures
