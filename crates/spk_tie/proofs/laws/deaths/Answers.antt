use Rattle.std.proofs.Common.{◌≡◌, false, ◌-◌, [], Some, refl, sym, subst, arith}
use Rattle.spk_payload.specs.declared.values.Values.TheVariants as choice
use Rattle.spk_packets.specs.Grammar.{Spells}
use Rattle.spk_packets.specs.Message as packet
use Rattle.spk_topics.specs.Spark.{is_name}
use Rattle.spk_topics.specs.Spark.Named.{of_node}
use Rattle.spk_topics.specs.declared.spark.Verb.TheVariants.{Death}
use Rattle.spk_edge_rules.specs.Packets.{death_payload, death_topic, will_of}
use Rattle.spk_edge_rules.specs.Run.{opened, opened_at, run_of, session_number}
use Rattle.spk_tie.specs.Tie.{death_text}
use Rattle.spk_tie.proofs.Ties.{both, reads-death}
use Rattle.spk_tie.proofs.laws.deaths.Goals as goal

pub returns-clause-read : goal.returns-clause-read
returns-clause-read c = λ s session time qos dup retain id bytes names moment spelled.
    let text = death_text s session time in
    let sent = packet.Publish dup qos retain (death_topic s.config) id text in
    let will = c.messages.ensures.will s.config (session_number s session) time (death_payload (session_number s session) time) (omega arith) moment in
    reads-death s session time dup qos retain id bytes
    ((c.reading.ensures (death_topic s.config) (of_node s.config.group Death s.config.node)).1 (both (is_name s.config.group) (is_name s.config.node) names.group names.node, refl))
    ((c.reading-2.ensures.meaning choice.All text (death_payload (session_number s session) time)).1 will.0)
    spelled
    (λ q spells. sym (c.prefix_free.ensures bytes bytes [] [] sent q spelled spells refl).1)

pub returns-clause-wills : goal.returns-clause-wills
returns-clause-wills c = λ s is i answer names act ack ok. record {
  will = will_of s.config (session_number s (opened (run_of s is))) i.now;
  is = c.messages.ensures.opens s is i answer act ack ok;
  read = λ dup qos retain id bytes spelled.
      returns-clause-read c s (opened (run_of s is)) i.now qos dup retain id bytes names (c.published.ensures.moments s is i answer ok) spelled;
}

pub returns-clause-farewells : goal.returns-clause-farewells
returns-clause-farewells c = λ s is first rest bytes names is_farewell spelled.
    let session = opened (run_of s is) - 1 in
    let time = opened_at (run_of s is) in
    let ours = packet.Publish false 1 false (death_topic s.config) (Some 2) (death_text s session time) in
    let same : first ≡ ours = cc in
    returns-clause-read c s session time 1 false false (Some 2) bytes names (c.published.ensures.opened_at s is) (subst (Spells bytes) same spelled)
