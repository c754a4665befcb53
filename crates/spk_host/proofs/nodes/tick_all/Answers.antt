use Rattle.std.proofs.Common.{◌∙◌, sym, ap, set, arith}
use Rattle.spk_host.specs.Step.{tick_entry}
use Rattle.spk_host.proofs.Idle.{still-more}
use Rattle.spk_host.proofs.Mapped.{mapped-all, mapped-more}
use Rattle.spk_host.proofs.nodes.tick_all.Goals as goal

pub loop-entry-preserved : goal.loop-entry-preserved
loop-entry-preserved c = record {
  ticked = ap (set c.loop-entry.nodes c.loop-entry.entry-index) (c.tick.ensures ∙ ap (tick_entry c.args.now) (sym c.entry-item.is))
      ∙ mapped-more (tick_entry c.args.now) c.args.nodes.now c.loop-entry.nodes c.loop-entry.entry-index c.entry-item.result
      c.loop-entry.invariant.ticked (omega arith) c.entry-item.is;
  still = still-more c.loop-entry.nodes c.loop-entry.entry-index c.tick.new.self c.loop-entry.due c.due_of.result c.min-due.result
      c.loop-entry.invariant.still c.due_of.ensures c.min-due.ensures;
}

pub returns-clause-ticked : goal.returns-clause-ticked
returns-clause-ticked c =
    c.loop-entry.invariant.ticked ∙ mapped-all (tick_entry c.args.now) c.args.nodes.now c.loop-entry.entry-index (omega arith)
