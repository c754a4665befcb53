use Rattle.std.proofs.Common.{◌∙◌, sym, ap, set, arith}
use Rattle.spk_host.specs.Step.{over_entry}
use Rattle.spk_host.proofs.Mapped.{mapped-all, mapped-more}
use Rattle.spk_host.proofs.nodes.end_all.Goals as goal

pub loop-entry-preserved : goal.loop-entry-preserved
loop-entry-preserved c =
    ap (set c.loop-entry.nodes c.loop-entry.entry-index) (c.over.ensures ∙ ap over_entry (sym c.entry-item.is))
    ∙ mapped-more over_entry c.args.nodes.now c.loop-entry.nodes c.loop-entry.entry-index c.entry-item.result
    c.loop-entry.invariant (omega arith) c.entry-item.is

pub returns : goal.returns
returns c = c.loop-entry.invariant ∙ mapped-all over_entry c.args.nodes.now c.loop-entry.entry-index (omega arith)
