-- What can be spelled, and whose a topic is.
use Rattle.std.proofs.Common.{◌≡◌, ℕ, zero, suc, ◌+◌, ◌/◌, ◌%◌, ◌<◌, ◌≤◌, ◌^◌, Bool, true, false, cond, List, [], ◌∷◌, ◌++◌, length, Option, Some, None, refl, sym, ◌∙◌, ap, arith, codes, nat_lt, length-append, All}
use Rattle.std.specs.Str.{is_utf8, chars}
use lib.Utf8.{encode}
use Rattle.std.proofs.lemmas.Str.{IsUtf8-from_is_utf8}
use Rattle.spk_protobuf.specs.Spelling as wire
use Rattle.spk_payload.specs.Spelling as payload
use Rattle.spk_topics.specs.Spark.{Named}
use Rattle.spk_topics.specs.Spark.Named.{of_node, of_device, of_state}
use Rattle.spk_topics.specs.declared.spark.Verb.{Verb}
use Rattle.spk_edge_rules.specs.Config.{Config}
use Rattle.spk_edge_rules.specs.Messages.{Draft, named_by, spark_of}
use Rattle.spk_edge_rules.specs.Packets.{death_payload, session_metric}

-- at most one group and k more
groups-short : (k n : ℕ) → length (wire.groups_of k n) ≤ k + 1
unfolding wire.groups_of
groups-short zero n = omega arith
groups-short (suc k) n = by (nat_lt n 128) (groups-short k (n / 128))
  where
    by : (b : Bool) → length (wire.groups_of k (n / 128)) ≤ k + 1 → length (cond b (n ∷ []) ((n % 128 + 128) ∷ wire.groups_of k (n / 128))) ≤ suc k + 1
    by true short = omega arith
    by false short = omega (arith, short)

varint-short : (n : ℕ) → length (wire.varint n) ≤ 10
unfolding wire.varint
varint-short n = let short = groups-short 9 n in omega (arith, short)

-- the metric `bdSeq` takes a few bytes
session-shape : (bd : ℕ) → payload.metric_spelling (session_metric bd None) ≡ (10 ∷ 5 ∷ 98 ∷ 100 ∷ 83 ∷ 101 ∷ 113 ∷ 32 ∷ 4 ∷ 88 ∷ []) ++ wire.varint bd
unfolding payload.metric_spelling wire.bytes_field wire.varint wire.groups_of
session-shape bd = refl

session-short : (bd : ℕ) → length (payload.metric_spelling (session_metric bd None)) < 2 ^ 64
session-short bd =
    let size : length (payload.metric_spelling (session_metric bd None)) ≡ 10 + length (wire.varint bd) =
    ap (λ (l : List ℕ). length l) (session-shape bd) ∙ length-append (10 ∷ 5 ∷ 98 ∷ 100 ∷ 83 ∷ 101 ∷ 113 ∷ 32 ∷ 4 ∷ 88 ∷ []) (wire.varint bd) in
    let short = varint-short bd in
    omega (arith, size, short)

session-fits : (bd : ℕ) → bd < 256 → payload.MetricFits (session_metric bd None)
unfolding is_utf8 chars encode
session-fits bd byte = record {
  name = (IsUtf8-from_is_utf8 (codes "bdSeq") refl, omega arith);
  alias = tt;
  timestamp = tt;
  datatype = omega arith;
  value = omega (arith, byte);
  short = session-short bd;
}

all-one : {X : Type 0} (P : X → Type 0) (x : X) → P x → All P (x ∷ [])
all-one P x p zero d below = p
all-one P x p (suc k) d below = absurd (omega arith)

pub death-fits : (bd time : ℕ) → bd < 256 → time < 2 ^ 63 → payload.PayloadFits (death_payload bd time)
death-fits bd time byte moment = record {
  timestamp = omega (arith, moment);
  metrics = all-one payload.MetricFits (session_metric bd None) (session-fits bd byte);
  seq = tt;
}

-- ---- topics

abbrev group_in : Named → List ℕ
group_in (of_node group verb node) = group
group_in (of_device group verb node device) = group
group_in (of_state host) = []

abbrev node_in : Named → List ℕ
node_in (of_node group verb node) = node
node_in (of_device group verb node device) = node
node_in (of_state host) = []

group-of : (c : Config) (verb : Verb) (device : Option (List ℕ)) → group_in (spark_of c verb device) ≡ c.group
group-of c verb None = refl
group-of c verb (Some device) = refl

node-of : (c : Config) (verb : Verb) (device : Option (List ℕ)) → node_in (spark_of c verb device) ≡ c.node
node-of c verb None = refl
node-of c verb (Some device) = refl

pub same-node : (b c : Config) (d e : Draft) → named_by b d ≡ named_by c e → (b.group ≡ c.group) × (b.node ≡ c.node)
same-node b c d e same = (
  sym (group-of b d.verb d.device) ∙ ap group_in same ∙ group-of c e.verb e.device,
  sym (node-of b d.verb d.device) ∙ ap node_in same ∙ node-of c e.verb e.device,
)
