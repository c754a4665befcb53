use Rattle.std.proofs.Common.{◌∙◌, ap}
use Rattle.std.specs.Prelude.{◌/◌, ◌^◌, bit_and, bit_xor}
use Rattle.std.specs.Hash.{le_bytes}
use Rattle.std.specs.Hash.FoldHasher.{finish, write}
use Rattle.spk_view.specs.Keyed.{spread_of}
use Rattle.spk_view.proofs.keys.spread_of.Goals as goal

pub returns : goal.returns
unfolding spread_of
returns c =
    ap (λ hash. bit_and (bit_xor hash (hash / 2 ^ 32)) 0xffff_ffff)
    (c.finish-hash.ensures ∙ ap finish (c.write_u64.ensures ∙ ap (λ h. write h (le_bytes 8 c.args.key)) c.default-hasher.ensures))
