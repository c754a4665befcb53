-- Room for what is added, what an input does to a node, and that what it published can be read.
use Rattle.std.specs.Prelude.{◌≡◌, ℕ, ◌+◌, ◌≤◌, List, length, vec_len, vec_capacity, Ok}
use Rattle.std.specs.List.{AllByRecursion}
use Rattle.spk_payload.specs.Spelling.{PayloadFits}
use Rattle.spk_packets.specs.Grammar.{Spells}
use Rattle.spk_packets.specs.Spelling.{spelling}
use Rattle.spk_edge.specs.Sealing.{AreWhole}
use Rattle.spk_edge_rules.specs.Answers.{Answer}
use Rattle.spk_edge_rules.specs.Inputs.{Input}
use Rattle.spk_edge_rules.specs.Step.{answer_at}
use Rattle.spk_world_run.specs.Data.{NodePart, PublishedData}
use Rattle.spk_world_run.specs.Step.{after_input, messages_of, packet_of}
use Rattle.spk_world.specs.declared.log.Log.{Log}
use Rattle.spk_world.specs.declared.track.Track.{Track}

-- room for so many messages, and for one more session
pub record HasRoom (log : Log) (count : ℕ) : Type 0 where
  pub published : vec_len log.published + count ≤ vec_capacity log.published
  pub starts : vec_len log.starts + count ≤ vec_capacity log.starts
  pub opened : vec_len log.opened + 1 ≤ vec_capacity log.opened

-- room for what one message that is handed may add
pub record HasPlaces (track : Track) : Type 0 where
  pub births : vec_len track.births + 1 ≤ vec_capacity track.births
  pub consumed : vec_len track.consumed + 256 ≤ vec_capacity track.consumed

-- the node after an input, which published so many messages
pub record IsTaken (n : NodePart) (input : Input) (after : NodePart) (added : ℕ) : Type 0 where
  pub given : Answer
  pub answered : answer_at n.node.config n.node.standing input ≡ Ok given
  pub whole : AreWhole (messages_of n.node given)
  pub is : after ≡ after_input n input given
  pub count : added ≡ length given.given.drafts

-- Its packet's spelling spells its packet, and its payload has a spelling: who reads these bytes reads this message.
pub record IsReadable (m : PublishedData) : Type 0 where
  pub spelled : Spells (spelling (packet_of m)) (packet_of m)
  pub fits : PayloadFits m.payload

abbrev pub AreReadable : List PublishedData → Type 0
AreReadable messages = AllByRecursion IsReadable messages
