-- A host session by hand, worked out from the standard: an NBIRTH at position 0, the message of position 2, then that of position 1.
-- The one in between is waited for, and all three come out in their order.
use Rattle.std.proofs.Common.{◌≡◌, ℕ, List, [], ◌∷◌, Some, None, refl, codes}
use Rattle.std.proofs.lemmas.Bool.{eqb-false}
use Rattle.spk_payload.specs.declared.values.Values.TheVariants as choice
use Rattle.spk_payload.specs.Meaning.{MetricData, Int, Long}
use Rattle.spk_topics.specs.declared.spark.Verb.TheVariants as verb
use Rattle.spk_sequence.specs.declared.message.Kind.TheVariants.{Birth, Other}
use Rattle.spk_sequence.specs.Calls as call
use Rattle.spk_sequence.specs.HostRecord.{DeathComes, Input, MessageComes, TickComes, consumed_of, record_of}
use Rattle.spk_sequence.specs.NodeRecord.{Numbering, RunsOn, Restarts}
use Rattle.spk_order.specs.Step.{left_by}
use Rattle.spk_reading.specs.Data as said
use Rattle.spk_reading.specs.Data.{NumberedData}
use Rattle.spk_host_node.specs.Inputs as node
use Rattle.spk_host_node.specs.Inputs.{Comes, Dies, Ends, Ticks}
use Rattle.spk_edge_rules.specs.Config.{Setup}
use Rattle.spk_edge_rules.specs.Messages.{Draft}
use Rattle.spk_edge_rules.specs.Run as edge
use Rattle.spk_tie.specs.Tie.{host_setting}
use Rattle.spk_heard.specs.Read.{AreMessagesAt, AreRead, IsRead, all_taken}

-- Group G, node N; the next sequence number is 255 and the next bdSeq 7.
abbrev row : Numbering → Setup
row numbering = record {
  config = record { group = codes "G"; node = codes "N"; primary = None; keep = 60; numbering = numbering };
  capacity = 3;
  seq = 255;
  bd = 7;
  stamp = None;
  book = record { devices = []; gauges = []; values = choice.Whole };
}

abbrev metric : ℕ → ℕ → MetricData
metric stamp value = record { name = Some (codes "t"); alias = None; timestamp = Some stamp; datatype = Some 3; historical = None; transient = None; null = None; value = Some (Int value) }

abbrev session : MetricData
session = record { name = Some (codes "bdSeq"); alias = None; timestamp = Some 6; datatype = Some 4; historical = None; transient = None; null = None; value = Some (Long 7) }

abbrev post : Draft → edge.Message
post d = record { birth = 0; session = 0; draft = d }

abbrev published : List edge.Message
published =
    post (record { verb = verb.Birth; device = None; stamp = 6; metrics = session ∷ metric 6 1 ∷ [] })
    ∷ post (record { verb = verb.Data; device = None; stamp = 7; metrics = metric 7 2 ∷ [] })
    ∷ post (record { verb = verb.Data; device = None; stamp = 8; metrics = metric 8 3 ∷ [] })
    ∷ []

-- ---- what a host reads

abbrev birth : ℕ → NumberedData
birth number = record {
  group = codes "G";
  node = codes "N";
  subject = said.NodeBirth;
  number = number;
  kind = Birth 6 7;
  topic = codes "spBv1.0/G/NBIRTH/N";
  payload = record { timestamp = Some 6; metrics = session ∷ metric 6 1 ∷ []; seq = Some number };
}

abbrev sample : (number stamp value : ℕ) → NumberedData
sample number stamp value = record {
  group = codes "G";
  node = codes "N";
  subject = said.NodeData;
  number = number;
  kind = Other (Some stamp);
  topic = codes "spBv1.0/G/NDATA/N";
  payload = record { timestamp = Some stamp; metrics = metric stamp value ∷ []; seq = Some number };
}

-- newest first: a moment, position 1, an NDEATH of another session, position 2, position 0
abbrev inputs : List Input
inputs = TickComes 90 ∷ MessageComes 1 80 ∷ DeathComes 3 75 ∷ MessageComes 2 70 ∷ MessageComes 0 60 ∷ []

abbrev told : (first second third : ℕ) → List node.Input
told first second third =
    Ticks 90 ∷ Comes (sample second 7 2) 80 ∷ Dies 10 ∷ Comes (sample third 8 3) 70 ∷ Comes (birth first) 60 ∷ []

pub these_are_read : AreRead (row RunsOn) published inputs (told 255 0 1)
these_are_read = (
  refl,
  (
    (refl, (post (record { verb = verb.Data; device = None; stamp = 7; metrics = metric 7 2 ∷ [] }), record { there = refl; group = refl; node = refl; subject = refl; topic = refl; payload = refl; call = λ wait width now. refl })),
    (
      (λ wait width. refl),
      (
        (refl, (post (record { verb = verb.Data; device = None; stamp = 8; metrics = metric 8 3 ∷ [] }), record { there = refl; group = refl; node = refl; subject = refl; topic = refl; payload = refl; call = λ wait width now. refl })),
        (
          (refl, (post (record { verb = verb.Birth; device = None; stamp = 6; metrics = session ∷ metric 6 1 ∷ [] }), record { there = refl; group = refl; node = refl; subject = refl; topic = refl; payload = refl; call = λ wait width now. refl })),
          tt,
        ),
      ),
    ),
  ),
)

pub the_same_where_numbers_restart : AreRead (row Restarts) published inputs (told 0 1 2)
the_same_where_numbers_restart = (
  refl,
  (
    (refl, (post (record { verb = verb.Data; device = None; stamp = 7; metrics = metric 7 2 ∷ [] }), record { there = refl; group = refl; node = refl; subject = refl; topic = refl; payload = refl; call = λ wait width now. refl })),
    (
      (λ wait width. refl),
      (
        (refl, (post (record { verb = verb.Data; device = None; stamp = 8; metrics = metric 8 3 ∷ [] }), record { there = refl; group = refl; node = refl; subject = refl; topic = refl; payload = refl; call = λ wait width now. refl })),
        (
          (refl, (post (record { verb = verb.Birth; device = None; stamp = 6; metrics = session ∷ metric 6 1 ∷ [] }), record { there = refl; group = refl; node = refl; subject = refl; topic = refl; payload = refl; call = λ wait width now. refl })),
          tt,
        ),
      ),
    ),
  ),
)

-- all three positions are consumed, in order, and these messages come out
pub positions_are : consumed_of (record_of (host_setting (row RunsOn) published 2000 4) inputs) ≡ 0 ∷ 1 ∷ 2 ∷ []
positions_are = refl

pub positions_restart : consumed_of (record_of (host_setting (row Restarts) published 2000 4) inputs) ≡ 0 ∷ 1 ∷ 2 ∷ []
positions_restart = refl

pub these_come_out : all_taken 2000 4 (told 255 0 1) ≡ birth 255 ∷ sample 0 7 2 ∷ sample 1 8 3 ∷ []
unfolding left_by
these_come_out = refl

pub these_come_out_too : all_taken 2000 4 (told 0 1 2) ≡ birth 0 ∷ sample 1 7 2 ∷ sample 2 8 3 ∷ []
unfolding left_by
these_come_out_too = refl

-- ---- and what isn't so

same_bd : (a b : ℕ) → call.Death a ≡ call.Death b → a ≡ b
same_bd a b e = cc

-- messages in another order than that of the positions, or fewer
pub swapped : AreMessagesAt (row RunsOn) published (1 ∷ 0 ∷ []) (birth 255 ∷ sample 0 7 2 ∷ []) → ⊥
swapped are = let e = are.0.1.call 0 0 0 in cc

pub fewer : AreMessagesAt (row RunsOn) published (0 ∷ 1 ∷ []) (birth 255 ∷ []) → ⊥
fewer are = are.1

-- another moment, another session's bdSeq, and the end of the host's session
pub later : IsRead (row RunsOn) published (TickComes 90) (Ticks 91) → ⊥
later same = eqb-false 91 90 refl same

pub other_session : IsRead (row RunsOn) published (DeathComes 3 75) (Dies 7) → ⊥
other_session same = eqb-false 7 10 refl (same_bd 7 10 (same 0 0))

pub ended : AreRead (row RunsOn) published (DeathComes 3 75 ∷ []) (Ends ∷ []) → ⊥
ended are = are.0
