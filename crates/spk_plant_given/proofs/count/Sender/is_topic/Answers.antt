use Rattle.std.proofs.Common.{◌∙◌, sym, ap, false, inl, inr}
use Rattle.std.specs.Option.{option_map_or}
use Rattle.spk_plant_relay.specs.Topics.{is_numbered_name, is_numbered_topic}
use Rattle.spk_plant_given.proofs.count.Sender.is_topic.Goals as goal

pub returns-in-Ok : goal.returns-in-Ok
unfolding is_numbered_topic
returns-in-Ok c =
    c.is_numbered_name.ensures ∙ sym (ap (λ o. option_map_or (is_numbered_name c.args.self.group.now c.args.self.name.now) o false) c.in-Ok.ensures.reads)

pub returns-in-Err-NotSparkplug : goal.returns-in-Err-NotSparkplug
unfolding is_numbered_topic
returns-in-Err-NotSparkplug c = elim c.in-Err-NotSparkplug.ensures.reads_none [
  | inl memory ↦ let e = c.in-Err-NotSparkplug.field-0-is in absurd (cc)
  | inr none ↦ sym (ap (λ o. option_map_or (is_numbered_name c.args.self.group.now c.args.self.name.now) o false) none.1)
]
