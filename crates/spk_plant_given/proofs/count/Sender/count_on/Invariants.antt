use Rattle.std.proofs.Common.{◌≤◌, take}
use Rattle.spk_plant_relay.specs.Topics.{is_numbered_topic}
use Rattle.spk_plant_given.specs.Numbered.{AreNumbered}
use Rattle.spk_plant_given.proofs.count.Sender.count_on.Given as goal

-- so many of the frames up to this one
abbrev pub invariant-loop-at : goal.invariant-loop-at
invariant-loop-at l = (l.numbered ≤ l.at) × AreNumbered (is_numbered_topic l.self.group.now l.self.name.now) l.self.place (take l.at l.taken) l.numbered
