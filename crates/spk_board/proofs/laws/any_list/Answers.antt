use Rattle.std.proofs.Common.{◌∙◌}
use Rattle.std.proofs.lemmas.List.{length-map}
use Rattle.spk_board.specs.Deeds.{story_of, tales}
use Rattle.spk_board.proofs.Asked.{count, story-at}
use Rattle.spk_board.proofs.laws.any_list.Goals as goal

pub returns-clause-count : goal.returns-clause-count
returns-clause-count c ds = length-map (tales ds) story_of ∙ count ds

pub returns-clause-stories : goal.returns-clause-stories
returns-clause-stories c = story-at
