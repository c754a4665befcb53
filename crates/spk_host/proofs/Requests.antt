-- Requests to a node: one more, and those of a longer list.
use Rattle.std.proofs.Common.{◌≡◌, ◌∙◌, sym, ap, refl, ℕ, zero, suc, ◌+◌, ◌≤◌, Bool, true, false, List, [], ◌∷◌, ◌++◌, map, length, take, append_assoc, None}
use Rattle.std.specs.Prelude.{replicate, if◌then◌else◌}
use Rattle.std.proofs.lemmas.List.{length-map, map-append, replicate-append-replicate, take-map, take-replicate}
use Rattle.std.proofs.Math.Seq.{take-append-add}
use Rattle.spk_packets.specs.Message.{Message}
use Rattle.spk_packets.specs.Spelling.{spelling}
use Rattle.spk_sequence.specs.declared.answer.Step.{Step}
use Rattle.spk_topics.specs.Spark.{Named}
use Rattle.spk_reading.specs.Data.{NumberedData}
use Rattle.spk_host_session.specs.Data.{is_address}
use Rattle.spk_host_session.specs.Packets.{rebirth_of}
use Rattle.spk_host.specs.Data.{OutData}
use Rattle.spk_host.specs.Step.{requests_to, spelled, topics_to}

more : {X : Type 0} (b : Bool) (k : ℕ) (x : X) → (if b then replicate (k + 1) x else []) ≡ (if b then replicate k x else []) ++ (if b then replicate 1 x else [])
more true k x = sym (replicate-append-replicate k 1 x)
more false k x = refl

take_none : {X : Type 0} (k : ℕ) → take {A = X} k [] ≡ []
take_none zero = refl
take_none (suc k) = refl

cut : {X : Type 0} (b : Bool) (k most : ℕ) (x : X) → k ≤ most → take k (if b then replicate most x else []) ≡ (if b then replicate k x else [])
cut true k most x few = take-replicate k most x few
cut false k most x few = take_none k

pub topics_more : {X : Type 0} (see : X → Named) (new old first : List X) (group node : List ℕ) (k : ℕ) →
    map see old ≡ map see first ++ topics_to group node k → map see new ≡ map see old ++ topics_to group node 1 →
    map see new ≡ map see first ++ topics_to group node (k + 1)
topics_more see new old first group node k so is =
    is ∙ ap (λ l. l ++ topics_to group node 1) so ∙ append_assoc (map see first) (topics_to group node k) (topics_to group node 1)
    ∙ ap (λ l. map see first ++ l) (sym (more (is_address group node) k _))

pub requests_more : {X : Type 0} (see : X → List ℕ) (new old first : List X) (group node : List ℕ) (now k : ℕ) →
    map see old ≡ map see first ++ spelled (requests_to group node now k) →
    map see new ≡ map see old ++ spelled (requests_to group node now 1) →
    map see new ≡ map see first ++ spelled (requests_to group node now (k + 1))
requests_more see new old first group node now k so is =
    is ∙ ap (λ l. l ++ spelled (requests_to group node now 1)) so
    ∙ append_assoc (map see first) (spelled (requests_to group node now k)) (spelled (requests_to group node now 1))
    ∙ ap (λ l. map see first ++ l) (sym (map-append spelling (requests_to group node now k) (requests_to group node now 1))
    ∙ ap spelled (sym (more (is_address group node) k _)))

written : (m : Message) (k : ℕ) → replicate k (spelling m) ≡ map spelling (replicate k m)
written m zero = refl
written m (suc k) = ap (λ l. spelling m ∷ l) (written m k)

-- copies of the bytes of one request are so many requests
pub copied : (group node : List ℕ) (now count : ℕ) (bytes : List ℕ) → is_address group node ≡ true → bytes ≡ spelling (rebirth_of group node now) →
    replicate count bytes ≡ spelled (requests_to group node now count)
copied group node now count bytes good is =
    ap (replicate count) is ∙ written (rebirth_of group node now) count
    ∙ sym (ap (λ b. spelled (if b then replicate count (rebirth_of group node now) else [])) good)

pub topics_cut : {X : Type 0} (see : X → Named) (new all : List X) (group node : List ℕ) (k most : ℕ) → new ≡ take k all →
    map see all ≡ topics_to group node most → k ≤ most → map see new ≡ topics_to group node k
topics_cut see new all group node k most is are few =
    ap (map see) is ∙ sym (take-map see k all) ∙ ap (take k) are ∙ cut (is_address group node) k most _ few

pub requests_cut : {X : Type 0} (see : X → List ℕ) (new all first : List X) (acks : List Message) (group node : List ℕ) (now k most size : ℕ) →
    new ≡ take (size + k) all → map see all ≡ map see first ++ spelled (requests_to group node now most) →
    map see first ≡ spelled acks → size ≡ length first → k ≤ most →
    map see new ≡ spelled (acks ++ requests_to group node now k)
requests_cut see new all first acks group node now k most size is are acked sized few =
    let long : size ≡ length (map see first) = sized ∙ sym (length-map first see) in
    ap (map see) is ∙ sym (take-map see (size + k) all) ∙ ap (take (size + k)) are
    ∙ ap (λ s. take (s + k) (map see first ++ spelled (requests_to group node now most))) long
    ∙ take-append-add (map see first) (spelled (requests_to group node now most)) k
    ∙ ap (λ l. map see first ++ l) (take-map spelling k (requests_to group node now most) ∙ ap spelled (cut (is_address group node) k most _ few))
    ∙ ap (λ l. l ++ spelled (requests_to group node now k)) acked
    ∙ sym (map-append spelling acks (requests_to group node now k))

abbrev pub out_of : List NumberedData → List Step → List ℕ → List Named → List (List ℕ) → OutData
out_of cs ss gs rs ps = record { consumed = cs; steps = ss; gaps = gs; death = None; rebirths = rs; packets = ps }

pub same_out : {cs ds : List NumberedData} {ss ts : List Step} {gs hs : List ℕ} {rs qs : List Named} {ps os : List (List ℕ)} → cs ≡ ds → ss ≡ ts →
    gs ≡ hs → rs ≡ qs → ps ≡ os → out_of cs ss gs rs ps ≡ out_of ds ts hs qs os
same_out {cs} {ds} {ss} {ts} {gs} {hs} {rs} {qs} {ps} {os} a b g c d =
    ap (λ x. out_of x ss gs rs ps) a ∙ ap (λ x. out_of ds x gs rs ps) b ∙ ap (λ x. out_of ds ts x rs ps) g ∙ ap (λ x. out_of ds ts hs x ps) c ∙ ap (out_of ds ts hs qs) d
