use Rattle.std.proofs.Common.{◌≡◌, sym, ap, subst, refl, []}
use Rattle.spk_payload.specs.declared.values.Values.TheVariants as choice
use Rattle.spk_payload.specs.Meaning.{MeansPayload, PayloadData}
use Rattle.spk_packets.specs.Message as packets
use Rattle.spk_edge_rules.specs.Claims.{payload_in, topic_in}
use Rattle.spk_edge_rules.specs.Messages.{named_by, payload_of, wire}
use Rattle.spk_edge_rules.specs.Packets.{death_payload}
use Rattle.spk_edge_rules.proofs.Bytes.{death-fits, same-node}
use Rattle.spk_edge_rules.proofs.Farewells.{disconnects, stops}
use Rattle.spk_edge_rules.proofs.laws.messages.Goals as goal

pub returns-clause-alone : goal.returns-clause-alone
returns-clause-alone c = λ config number d bytes other x y p whole spelled same.
    let found = c.prefix_free.ensures bytes other x y (wire config number d) p whole.spelled spelled same in
    (found.0, sym found.1)

pub returns-clause-read : goal.returns-clause-read
returns-clause-read c = λ config number d bytes p q whole spelled means.
    let found = c.prefix_free.ensures bytes bytes [] [] (wire config number d) p whole.spelled spelled refl in
    let here = subst (λ (p : packets.Message). MeansPayload choice.All (payload_in p) q) (sym found.1) means in
    let same : q ≡ payload_of number d = c.canonical.ensures.only (payload_of number d) q whole.fits here in (
      ap topic_in (sym found.1),
      ap (λ (q : PayloadData). q.seq) same,
      ap (λ (q : PayloadData). q.timestamp) same,
      ap (λ (q : PayloadData). q.metrics) same,
    )

pub returns-clause-will : goal.returns-clause-will
returns-clause-will c = λ config bd time q byte moment.
    let fits = death-fits bd time byte moment in
    (c.canonical.ensures.means (death_payload bd time) fits, c.canonical.ensures.only (death_payload bd time) q fits)

pub returns-clause-topics : goal.returns-clause-topics
returns-clause-topics c = λ b config d e has_d has_e same.
    same-node b config d e (c.one_topic.ensures (named_by b d) (named_by config e) has_d has_e same)

pub returns-clause-ends : goal.returns-clause-ends
returns-clause-ends c = stops

pub returns-clause-disconnects : goal.returns-clause-disconnects
returns-clause-disconnects c = disconnects
