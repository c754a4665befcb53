-- Lives that are worked out by hand: a node with a metric `t`, no primary host, and numbers that restart.
use Rattle.std.proofs.Common.{◌≡◌, ℕ, List, [], ◌∷◌, Option, Some, None, refl, sym, pos, codes, inl, inr, arith, true≢false}
use Rattle.spk_packets.specs.Spelling as packet
use Rattle.spk_payload.specs.declared.values.Values.TheVariants as choice
use Rattle.spk_payload.specs.Spelling as payload
use Rattle.spk_payload.specs.Typing.{Signed}
use Rattle.spk_protobuf.specs.Spelling as wire
use Rattle.spk_device.specs.declared.owner.Owner.TheVariants.{Node}
use Rattle.spk_sequence.specs.HostRecord.{MessageComes, consumed_of, record_of}
use Rattle.spk_sequence.specs.NodeRecord.{Restarts, Setting}
use Rattle.spk_edge_rules.specs.Config.{Setup}
use Rattle.spk_edge_rules.specs.Inputs.{Accepted, Act, Change, Open}
use Rattle.spk_edge_rules.specs.Run.{outline}
use Rattle.spk_tie.specs.Tie.{host_setting}
use Rattle.spk_lives.specs.Order.{KeepsOrder}
use Rattle.spk_lives.specs.Lives.{AreLives, Begins, Deed, GoesOn, IsCareful, IsLife, Keeps, Life, MayDo, Reserve, Says, bds_of, end_to_end}

-- made with this bdSeq and behind that stamp
abbrev node : ℕ → Option ℕ → Setup
node bd stamp = record {
  config = record { group = codes "G"; node = codes "N"; primary = None; keep = 60; numbering = Restarts };
  capacity = 3;
  seq = 0;
  bd = bd;
  stamp = stamp;
  book = record { devices = []; gauges = (record { owner = Node; name = codes "t"; datatype = 3; value = Some (Signed (pos 7)) }) ∷ []; values = choice.Whole };
}

abbrev says : ℕ → Act → Deed
says now act = Says (record { now = now; ack = None; act = act })

abbrev reserve : ℕ → Option ℕ → Reserve
reserve sessions stamp = record { sessions = sessions; stamp = stamp }

abbrev life : Setup → List Deed → Reserve → Life
life s deeds left = record { setup = s; deeds = deeds; left = left }

-- ---- two lives, the first one killed between its CONNECT and its birth

-- a node's very first life, at 1000: its session's bdSeq is 254
abbrev killed : Life
killed = life (node 254 None) (says 1000 Open ∷ Keeps ∷ Begins 1 6000 ∷ []) (reserve 1 (Some 6000))

-- a second later it goes on with bdSeq 255, and its NBIRTH is behind all that the first might have said
abbrev reborn : Life
reborn = life (node 255 (Some 6000)) (says 2001 Accepted ∷ says 2000 Open ∷ Keeps ∷ Begins 1 11001 ∷ []) (reserve 1 (Some 11001))

two_lives : AreLives (reborn ∷ killed ∷ [])
unfolding packet.spelling packet.body packet.shortest packet.has_bad_text packet.has_bad_body packet.is_qos_two payload.spelling payload.metric_spelling wire.varint wire.groups_of wire.bytes_field
two_lives = (
  record {
    careful = (
      (record { sessions = omega arith; stamp = omega arith }, tt),
      ((record { sessions = omega arith; stamp = omega arith }, tt), (tt, (record { sessions = omega arith; stamp = omega arith }, tt))),
    );
    survived = inl refl;
  },
  record { config = refl; bd = refl; stamp = refl },
  (record { careful = ((record { sessions = omega arith; stamp = tt }, tt), (tt, (record { sessions = omega arith; stamp = tt }, tt))); survived = inl refl }, tt, tt),
)

-- one NBIRTH, of the second session
what_two_published : outline (end_to_end (reborn ∷ killed ∷ [])) ≡ (record { birth = 0; session = 1; stamp = 6001 }) ∷ []
unfolding packet.spelling packet.body packet.shortest packet.has_bad_text packet.has_bad_body packet.is_qos_two payload.spelling payload.metric_spelling wire.varint wire.groups_of wire.bytes_field
what_two_published = refl

bds_of_two : bds_of (reborn ∷ killed ∷ []) ≡ 254 ∷ 255 ∷ []
bds_of_two = refl

-- ---- a life that was cut before anything, and one that was cut while its first record was written

-- what it finds is what it leaves
abbrev idle : Life
idle = life (node 0 (Some 11001)) [] (reserve 0 (Some 11001))

idle_lives : IsLife idle
idle_lives = record { careful = tt; survived = inl refl }

idle_goes_on : GoesOn (node 0 (Some 11001)) reborn
idle_goes_on = record { config = refl; bd = refl; stamp = refl }

-- either record may have survived: the next bdSeq is 1 or 0 then
abbrev writing : Reserve → Life
writing left = life (node 0 (Some 11001)) (Begins 1 16002 ∷ []) left

writing_survives : IsLife (writing (reserve 1 (Some 16002)))
writing_survives = record { careful = (record { sessions = omega arith; stamp = omega arith }, tt); survived = inl refl }

writing_is_lost : IsLife (writing (reserve 0 (Some 11001)))
writing_is_lost = record { careful = (record { sessions = omega arith; stamp = omega arith }, tt); survived = inr (inl refl) }

next_of_writing : GoesOn (node 1 (Some 16002)) (writing (reserve 1 (Some 16002)))
next_of_writing = record { config = refl; bd = refl; stamp = refl }

next_of_lost : GoesOn (node 0 (Some 11001)) (writing (reserve 0 (Some 11001)))
next_of_lost = record { config = refl; bd = refl; stamp = refl }

-- ---- a life that used its stamp up to the reserved one

abbrev change : ℕ → Deed
change now = says now (Change 1 (Some (Signed (pos now))))

abbrev used_up : List Deed
used_up = change 200 ∷ says 160 Accepted ∷ says 150 Open ∷ Keeps ∷ Begins 1 200 ∷ []

used_up_is_careful : IsCareful (node 7 (Some 100)) used_up
unfolding packet.spelling packet.body packet.shortest packet.has_bad_text packet.has_bad_body packet.is_qos_two payload.spelling payload.metric_spelling wire.varint wire.groups_of wire.bytes_field
used_up_is_careful = (
  (record { sessions = omega arith; stamp = omega arith }, tt),
  (
    (record { sessions = omega arith; stamp = omega arith }, tt),
    ((record { sessions = omega arith; stamp = omega arith }, tt), (tt, (record { sessions = omega arith; stamp = omega arith }, tt))),
  ),
)

-- a millisecond later nothing may be said before another record is kept: one that is only begun isn't enough
one_past_it : MayDo (node 7 (Some 100)) used_up (change 201) → ⊥
unfolding packet.spelling packet.body packet.shortest packet.has_bad_text packet.has_bad_body packet.is_qos_two payload.spelling payload.metric_spelling wire.varint wire.groups_of wire.bytes_field
one_past_it may = let e = may.0.stamp in omega (arith, e)

only_begun : MayDo (node 7 (Some 100)) (Begins 1 5201 ∷ used_up) (change 201) → ⊥
unfolding packet.spelling packet.body packet.shortest packet.has_bad_text packet.has_bad_body packet.is_qos_two payload.spelling payload.metric_spelling wire.varint wire.groups_of wire.bytes_field
only_begun may = let e = may.1.0.stamp in omega (arith, e)

kept_first : MayDo (node 7 (Some 100)) (Keeps ∷ Begins 1 5201 ∷ used_up) (change 201)
unfolding packet.spelling packet.body packet.shortest packet.has_bad_text packet.has_bad_body packet.is_qos_two payload.spelling payload.metric_spelling wire.varint wire.groups_of wire.bytes_field
kept_first = (record { sessions = omega arith; stamp = omega arith }, tt)

-- killed then, and begun anew in the same millisecond: the NBIRTH is one past the reserved stamp
abbrev behind_it : List Life
behind_it = life (node 8 (Some 200)) (says 200 Accepted ∷ says 200 Open ∷ Keeps ∷ Begins 1 5201 ∷ []) (reserve 1 (Some 5201))
    ∷ life (node 7 (Some 100)) used_up (reserve 1 (Some 200)) ∷ []

what_they_published : outline (end_to_end behind_it) ≡ (record { birth = 0; session = 0; stamp = 160 }) ∷ (record { birth = 0; session = 0; stamp = 200 }) ∷ (record { birth = 1; session = 1; stamp = 201 }) ∷ []
unfolding packet.spelling packet.body packet.shortest packet.has_bad_text packet.has_bad_body packet.is_qos_two payload.spelling payload.metric_spelling wire.varint wire.groups_of wire.bytes_field
what_they_published = refl

behind_lives : AreLives behind_it
unfolding packet.spelling packet.body packet.shortest packet.has_bad_text packet.has_bad_body packet.is_qos_two payload.spelling payload.metric_spelling wire.varint wire.groups_of wire.bytes_field
behind_lives = (
  record {
    careful = (
      (record { sessions = omega arith; stamp = omega arith }, tt),
      ((record { sessions = omega arith; stamp = omega arith }, tt), (tt, (record { sessions = omega arith; stamp = omega arith }, tt))),
    );
    survived = inl refl;
  },
  record { config = refl; bd = refl; stamp = refl },
  (record { careful = used_up_is_careful; survived = inl refl }, tt, tt),
)

-- ---- a host that is handed what both of them published consumes all of it, and one that misses the first birth the second alone

abbrev at_a_host : Setting
at_a_host = host_setting (node 7 (Some 100)) (end_to_end behind_it) 2000 1

all_is_consumed : consumed_of (record_of at_a_host (MessageComes 2 30 ∷ MessageComes 1 20 ∷ MessageComes 0 10 ∷ [])) ≡ 0 ∷ 1 ∷ 2 ∷ []
unfolding packet.spelling packet.body packet.shortest packet.has_bad_text packet.has_bad_body packet.is_qos_two payload.spelling payload.metric_spelling wire.varint wire.groups_of wire.bytes_field
all_is_consumed = refl

late_is_consumed : consumed_of (record_of at_a_host (MessageComes 2 30 ∷ MessageComes 1 20 ∷ [])) ≡ 2 ∷ []
unfolding packet.spelling packet.body packet.shortest packet.has_bad_text packet.has_bad_body packet.is_qos_two payload.spelling payload.metric_spelling wire.varint wire.groups_of wire.bytes_field
late_is_consumed = refl

order_is_kept : KeepsOrder at_a_host (MessageComes 2 30 ∷ MessageComes 1 20 ∷ MessageComes 0 10 ∷ [])
unfolding packet.spelling packet.body packet.shortest packet.has_bad_text packet.has_bad_body packet.is_qos_two payload.spelling payload.metric_spelling wire.varint wire.groups_of wire.bytes_field
order_is_kept = record {
  some_places = omega arith;
  few_places = omega arith;
  published = (omega arith, (omega arith, (omega arith, tt)));
  rising = (omega arith, (omega arith, (omega arith, tt)));
  few = ((λ on. omega arith), ((λ on. omega arith), ((λ on. omega arith), tt)));
  deaths = (tt, (tt, (tt, tt)));
  births = λ e. ((λ on. inl refl), ((λ on. inr refl), ((λ on. inl refl), tt)));
  near = λ e. ((λ o. (omega arith, omega arith)), ((λ o. absurd (true≢false (sym o))), ((λ o. tt), tt)));
}
