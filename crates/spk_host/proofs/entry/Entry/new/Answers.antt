use Rattle.spk_host.proofs.Parts.{same_entry}
use Rattle.spk_host.proofs.entry.Entry.new.Goals as goal

pub returns : goal.returns
returns c = same_entry c.in_ok-from_str.ensures.ok c.in_ok-from_str-2.ensures.ok c.in_ok-new.ensures
