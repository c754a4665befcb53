use Rattle.spk_history.specs.File.{head}
use Rattle.spk_history.proofs.Heads.{begins_not, cut_head, with_head}
use Rattle.spk_history.proofs.reading.head.Goals as goal

pub returns-then-starts_with : goal.returns-then-starts_with
unfolding head
returns-then-starts_with c = with_head c.args.bytes.now c.starts_with.result c.starts_with.ensures.value c.if-starts_with.true

pub returns-then-starts_with-2 : goal.returns-then-starts_with-2
unfolding head
returns-then-starts_with-2 c =
    cut_head c.args.bytes.now c.starts_with.result c.starts_with-else-starts_with.result c.starts_with.ensures.value c.if-starts_with.false
    c.starts_with-else-starts_with.ensures.value c.if-starts_with-2.true

pub returns-else-starts_with-2 : goal.returns-else-starts_with-2
unfolding head
returns-else-starts_with-2 c = (
  begins_not c.args.bytes.now head c.starts_with.result c.starts_with.ensures.value c.if-starts_with.false,
  begins_not head c.args.bytes.now c.starts_with-else-starts_with.result c.starts_with-else-starts_with.ensures.value c.if-starts_with-2.false,
)
