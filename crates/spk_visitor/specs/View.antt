-- What contracts see of the crate's types.
use Rattle.std.specs.Prelude.{ℕ, List, [], Option, Some, None}
use Rattle.std.specs.Option.{option_map_or}
use Rattle.spk_door.specs.View.{rights_of}
use Rattle.spk_door.specs.declared.door.Door.{Door}
use Rattle.spk_door.specs.declared.door.Who.{Who}
use Rattle.spk_door.specs.declared.door.Who.TheVariants as who
use Rattle.spk_visitor.specs.Data.{AnswerData, StageData, Closes, Cuts, Goes, Inside, More, Outside, Over, Refuses}
use Rattle.spk_visitor.specs.declared.answer.Answer.{Answer}
use Rattle.spk_visitor.specs.declared.answer.Answer.TheVariants as answer
use Rattle.spk_visitor.specs.declared.visitor.Stage.{Stage}
use Rattle.spk_visitor.specs.declared.visitor.Stage.TheVariants as stage

-- how a client stands with a door
abbrev pub stage_view : Door → Stage → StageData
stage_view d (stage.Outside first) = Outside
stage_view d (stage.Inside who feed) = option_map_or Inside (rights_of d who) Over
stage_view d stage.Over = Over

-- the bytes that wait to be whole packets
abbrev pub unread_of : Stage → List ℕ
unread_of (stage.Outside first) = first.items
unread_of (stage.Inside who feed) = feed
unread_of stage.Over = []

-- the place of the user as which somebody came in
abbrev pub place_of : Who → Option ℕ
place_of (who.User place) = Some place
place_of (who.Client rights) = None

abbrev pub user_place : Stage → Option ℕ
user_place (stage.Outside first) = None
user_place (stage.Inside w feed) = place_of w
user_place stage.Over = None

abbrev pub answer_view : Answer → AnswerData
answer_view answer.More = More
answer_view answer.Goes = Goes
answer_view (answer.Cuts id allowed) = Cuts id allowed.items
answer_view (answer.Refuses code) = Refuses code
answer_view answer.Closes = Closes
