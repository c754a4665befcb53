use Rattle.std.proofs.Common.{◌≡◌, List, ◌++◌, [], Some, sym, ap, subst, refl, ◌∙◌}
use Rattle.std.specs.Prelude.{slice_get}
use Rattle.std.proofs.lemmas.Option.{slice_get_within}
use Rattle.spk_payload.specs.declared.values.Values.TheVariants as choice
use Rattle.spk_payload.specs.Spelling as payload
use Rattle.spk_topics.specs.Spark.{topic_of}
use Rattle.spk_edge_rules.specs.Claims.{IsWhole}
use Rattle.spk_edge_rules.specs.Messages.{named_by, payload_of}
use Rattle.spk_edge_rules.specs.Run.{Message, number_at, published, run_of}
use Rattle.spk_tie.proofs.Ties.{number-still, reads, there-still}
use Rattle.spk_tie.proofs.laws.messages.Goals as goal

pub returns : goal.returns
returns c = λ s later is p m bytes names free there written.
    let before = published (run_of s is) in
    let all = published (run_of s (later ++ is)) in
    let grown = c.published.ensures.grows s later is in
    let now : slice_get all p ≡ Some m = subst (λ (ms : List Message). slice_get ms p ≡ Some m) (sym grown.1) (there-still before grown.0 p m there) in
    let same : number_at s before p ≡ number_at s all p =
    sym (ap (λ (ms : List Message). number_at s ms p) grown.1 ∙ number-still c.records.ensures.same_number s before grown.0 p (slice_get_within before p m there)) in
    let whole : IsWhole bytes s.config (number_at s all p) m.draft = subst (λ n. IsWhole bytes s.config n m.draft) same written in
    let named = named_by s.config m.draft in
    reads s all p m bytes now
    (c.published.ensures.kinds s (later ++ is) p m now)
    (c.published.ensures.numbers s (later ++ is) p)
    ((c.reading.ensures (topic_of named) named).1 (c.published.ensures.names s (later ++ is) p m names now, refl))
    ((c.reading-2.ensures.meaning choice.All (payload.spelling (payload_of (number_at s all p) m.draft)) (payload_of (number_at s all p) m.draft)).1
    (c.messages.ensures.means s.config (number_at s all p) m.draft bytes whole))
    (c.published.ensures.one_session s (later ++ is) p m free now)
    (c.any_list.ensures.openings s (later ++ is) p m now)
    whole.spelled
    (λ q spelled. (c.messages.ensures.alone s.config (number_at s all p) m.draft bytes bytes [] [] q whole spelled refl).1)
