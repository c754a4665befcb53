use Rattle.spk_world_shown.proofs.Seen.{seen}
use Rattle.spk_world_shown.proofs.laws.shown.Goals as goal

pub returns : goal.returns
returns c = seen (record {
  reads = c.messages.ensures;
  kept = c.any_list.ensures.kept;
  config = c.any_list.ensures.config;
  lawful = c.lawful.ensures;
  view = c.shown.ensures.view;
  messages = c.shown.ensures.messages;
  marked = c.shown.ensures.marked;
})
