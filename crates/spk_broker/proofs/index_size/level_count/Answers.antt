use Rattle.std.proofs.Common.{◌+◌, ◌∙◌, ap, arith, count_by}
use Rattle.std.proofs.lemmas.List.{take_all}
use Rattle.spk_broker.proofs.Sizes.{is_slash, one-more}
use Rattle.spk_broker.proofs.index_size.level_count.Goals as goal

pub returns-clause-count : goal.returns-clause-count
returns-clause-count c =
    ap (λ n. n + 1) (c.loop-byte.invariant.0 ∙ ap (count_by is_slash) (take_all c.loop-byte.byte-index c.args.filter.now (omega arith)))
    ∙ one-more c.args.filter.now
