use Rattle.spk_device.proofs.ValueLemmas.{taken-written, value_eq-Decides, whole-alone, written-taken}
use Rattle.spk_device.proofs.laws.values.Goals as goal

pub returns-clause-equal : goal.returns-clause-equal
returns-clause-equal c = value_eq-Decides

pub returns-clause-taken : goal.returns-clause-taken
returns-clause-taken c = written-taken

pub returns-clause-whole : goal.returns-clause-whole
returns-clause-whole c = whole-alone

pub returns-clause-written : goal.returns-clause-written
returns-clause-written c = taken-written
