use Rattle.spk_record.proofs.Meanings.{read_found, read_only, read_bad}
use Rattle.spk_record.proofs.record.Record.decode.Goals as goal

pub returns-clause-found : goal.returns-clause-found
returns-clause-found c = read_found c.args.bytes.now c.read.result c.read.ensures.ok

pub returns-clause-only : goal.returns-clause-only
returns-clause-only c = read_only c.args.bytes.now c.read.result c.read.ensures.ok c.read.ensures.bad

pub returns-clause-bad : goal.returns-clause-bad
returns-clause-bad c = read_bad c.args.bytes.now c.read.result c.read.ensures.bad
