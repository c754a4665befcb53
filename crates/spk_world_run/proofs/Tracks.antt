-- What comes to a host of a node, and the track of that node after it.
use Rattle.std.proofs.Common.{◌≡◌, ◌∙◌, ap, sym, refl, subst, ℕ, zero, suc, ◌+◌, ◌<◌, ◌≤◌, Bool, true, false, not, ◌&&◌, ◌||◌, cond, List, [], ◌∷◌, ◌++◌, Option, Some}
use Rattle.std.specs.Prelude.{max, ◌==◌}
use Rattle.std.specs.List.{range_with_len}
use Rattle.std.specs.Option.{option_map}
use Rattle.std.proofs.lemmas.Bool.{true≢false, eqb-true}
use Rattle.std.proofs.lemmas.List.{append-nil}
use Rattle.std.proofs.lemmas.List.Folds.{list_any-append}
use Rattle.spk_sequence.specs.declared.answer.Step.TheVariants as step
use Rattle.spk_sequence.specs.Calls as call
use Rattle.spk_sequence.specs.Claims.{IsLawful, taken_by}
use Rattle.spk_sequence.specs.Following.{contains, is_empty, taken}
use Rattle.spk_sequence.specs.HostRecord as order
use Rattle.spk_sequence.specs.HostRecord.{DeathComes, HostRecord, MessageComes, TickComes, reach}
use Rattle.spk_sequence.specs.NodeRecord.{Setting, opens, session_at}
use Rattle.spk_sequence.specs.Positions.{right_at, right_consumed}
use Rattle.spk_sequence.specs.Window.{handed_of}
use Rattle.spk_payload.specs.Meaning.{PayloadData}
use Rattle.spk_topics.specs.Spark.{topic_of}
use Rattle.spk_reading.specs.Data.{NumberedData}
use Rattle.spk_edge_rules.specs.Config.{Setup}
use Rattle.spk_edge_rules.specs.Messages.{named_by}
use Rattle.spk_edge_rules.specs.Run.{Message, outline}
use Rattle.spk_heard.specs.Read.{AreMessagesAt, AreRead, IsRead}
use Rattle.spk_host.specs.Inputs.{Call, node_calls}
use Rattle.spk_host_node.specs.Inputs as host
use Rattle.spk_host_node.specs.Inputs.{Comes, Dies, Ticks, order_after, since_end}
use Rattle.spk_host_node.specs.Step.{taken_of}
use Rattle.spk_tie.specs.Tie.{IsMessageAt, host_setting}
use Rattle.spk_world_rules.specs.Events.{Deed, World, host_at, node_at}
use Rattle.spk_world_rules.specs.Queries.{inputs_of, published_of}
use Rattle.spk_world_run.specs.Data.{ConsumedData, Track, no_track}
use Rattle.spk_world_run.specs.Run.{AreConsumed, IsTrack}
use Rattle.spk_world_run.specs.Step.{handed_track, is_some_of, placed}

-- ---- a track, by what came and what was told

pub record Tracked (s : Setup) (published : List Message) (wait width : ℕ) (is : List order.Input) (js : List host.Input) (track : Track) : Type 0 where
  pub read : AreRead s published is js
  pub reaches : track.reach ≡ reach (order.record_of (host_setting s published wait width) is)
  pub session : track.session ≡ option_map (session_at (outline published)) (taken (host_setting s published wait width) (order.record_of (host_setting s published wait width) is))
  pub births : (p : ℕ) → contains p track.births ≡ (contains p (handed_of (order.record_of (host_setting s published wait width) is)) && opens (outline published) p)
  pub consumed : AreConsumed s published (order.consumed_of (order.record_of (host_setting s published wait width) is)) track.consumed

-- what a host was told of a node in its present session
abbrev pub told_of : World → ℕ → List Call → List host.Input
told_of w n calls = since_end (node_calls calls (node_at w n).config.group (node_at w n).config.node)

pub tracked-of : (w : World) (done : List Deed) (h n : ℕ) (calls : List Call) (track : Track) → IsTrack w done h n calls track
    → Tracked (node_at w n) (published_of w done n) (host_at w h).wait (host_at w h).width (inputs_of done h n) (told_of w n calls) track
tracked-of w done h n calls track t = record { read = t.read; reaches = t.reaches; session = t.session; births = t.births; consumed = t.consumed }

track-of : (w : World) (done : List Deed) (h n : ℕ) (calls : List Call) (track : Track)
    → Tracked (node_at w n) (published_of w done n) (host_at w h).wait (host_at w h).width (inputs_of done h n) (told_of w n calls) track
    → IsTrack w done h n calls track
track-of w done h n calls track t = record { read = t.read; reaches = t.reaches; session = t.session; births = t.births; consumed = t.consumed }

pub track-from : (w : World) (done : List Deed) (h n : ℕ) (calls : List Call) (track : Track) (is : List order.Input) (js : List host.Input)
    → inputs_of done h n ≡ is → told_of w n calls ≡ js
    → Tracked (node_at w n) (published_of w done n) (host_at w h).wait (host_at w h).width is js track → IsTrack w done h n calls track
track-from w done h n calls track is js came told t =
    let s = node_at w n in
    let published = published_of w done n in
    track-of w done h n calls track
    (subst (λ (i : List order.Input). Tracked s published (host_at w h).wait (host_at w h).width i (told_of w n calls) track) (sym came)
    (subst (λ (j : List host.Input). Tracked s published (host_at w h).wait (host_at w h).width is j track) (sym told) t))

-- ---- what the laws below give

abbrev pub TakenBy : Type 0
TakenBy = (s : Setting) (inputs : List order.Input) (input : order.Input) → IsLawful s (input ∷ inputs)
    → taken s (order.record_of s (input ∷ inputs))
    ≡ taken_by s (order.record_of s inputs) input (order.done_at s (order.record_of s inputs) (order.standing_of s inputs) input).consumed

abbrev pub Consumes : Type 0
Consumes = (s : Setup) (published : List Message) (wait width : ℕ) (is : List order.Input) (js : List host.Input) (p now : ℕ) (m : Message) (read : NumberedData)
    → 0 < width → width ≤ 96 → AreRead s published is js → IsMessageAt s published p m read
    → AreMessagesAt s published
    (order.done_at (host_setting s published wait width) (order.record_of (host_setting s published wait width) is)
    (order.standing_of (host_setting s published wait width) is) (MessageComes p now)).consumed
    (taken_of (order_after wait width js) read now)

-- ---- consumed messages

consumed-append : (s : Setup) (published : List Message) (ps qs : List ℕ) (cs ds : List ConsumedData) → AreConsumed s published ps cs → AreConsumed s published qs ds
    → AreConsumed s published (ps ++ qs) (cs ++ ds)
consumed-append s published [] qs [] ds first second = second
consumed-append s published [] qs (c ∷ cs) ds first second = absurd first
consumed-append s published (p ∷ ps) qs [] ds first second = absurd first
consumed-append s published (p ∷ ps) qs (c ∷ cs) ds first second = (first.0, consumed-append s published ps qs cs ds first.1 second)

abbrev consumed_data : ℕ → List ℕ → PayloadData → ConsumedData
consumed_data p topic payload = record { position = p; topic = topic; payload = payload }

placed-consumed : (s : Setup) (published : List Message) (p k : ℕ) (reads : List NumberedData) → AreMessagesAt s published (range_with_len p k) reads
    → AreConsumed s published (range_with_len p k) (placed p reads)
placed-consumed s published p zero [] are = tt
placed-consumed s published p zero (read ∷ reads) are = absurd are
placed-consumed s published p (suc k) [] are = absurd are
placed-consumed s published p (suc k) (read ∷ reads) are =
    let m = are.0.0 in
    let at = are.0.1 in (
      (
        m,
        at.there,
        ap (λ (x : List ℕ). consumed_data p x read.payload) at.topic
            ∙ ap (consumed_data p (topic_of (named_by s.config m.draft))) at.payload,
      ),
      placed-consumed s published (p + 1) k reads are.1,
    )

-- what an event consumes stands in a row behind the one handed
right-row : (p now : ℕ) (r : call.Reply) → (k : ℕ) × (right_consumed (MessageComes p now) r ≡ range_with_len p k)
right-row p now (call.Stepped (step.Consumed n)) = (n, refl)
right-row p now (call.Stepped step.Held) = (0, refl)
right-row p now (call.Stepped step.Old) = (0, refl)
right-row p now (call.Stepped step.Gap) = (0, refl)
right-row p now (call.Stepped step.OldBirth) = (0, refl)
right-row p now (call.Stepped step.DeadSession) = (0, refl)
right-row p now (call.Stepped step.NotLive) = (0, refl)
right-row p now (call.Ticked gap) = (0, refl)
right-row p now (call.Told match) = (0, refl)

row-consumed : (s : Setup) (published : List Message) (p k : ℕ) (ps : List ℕ) (reads : List NumberedData) → ps ≡ range_with_len p k → AreMessagesAt s published ps reads
    → AreConsumed s published ps (placed p reads)
row-consumed s published p k ps reads row are =
    subst (λ (l : List ℕ). AreConsumed s published l (placed p reads)) (sym row)
    (placed-consumed s published p k reads (subst (λ (l : List ℕ). AreMessagesAt s published l reads) row are))

same-some : (s : Setup) (published : List Message) (ps : List ℕ) (reads : List NumberedData) → AreMessagesAt s published ps reads → is_some_of reads ≡ not (is_empty ps)
same-some s published [] [] are = refl
same-some s published [] (read ∷ reads) are = absurd are
same-some s published (p ∷ ps) [] are = absurd are
same-some s published (p ∷ ps) (read ∷ reads) are = refl

-- ---- births

or-false : (x : Bool) → (x || false) ≡ x
or-false true = refl
or-false false = refl

or-true : (x : Bool) → (x || true) ≡ true
or-true true = refl
or-true false = refl

and-false : (x : Bool) → (x && false) ≡ false
and-false true = refl
and-false false = refl

births-test : (x handed o c b : Bool) → x ≡ (handed && o) → (c ≡ true → o ≡ b) → cond b (x || (c || false)) x ≡ ((c || handed) && o)
births-test x handed o false true e same = or-false x ∙ e
births-test x handed o false false e same = e
births-test x handed true true true e same = or-true x
births-test x handed false true true e same = absurd (true≢false (sym (same refl)))
births-test x handed true true false e same = absurd (true≢false (same refl))
births-test x handed false true false e same = e ∙ and-false handed

births-step : (o : ℕ → Bool) (b : Bool) (births handed : List ℕ) (p q : ℕ) → b ≡ o p → contains q births ≡ (contains q handed && o q)
    → contains q (cond b (births ++ (p ∷ [])) births) ≡ (contains q (p ∷ handed) && o q)
births-step o b births handed p q opening before =
    split b
    ∙ births-test (contains q births) (contains q handed) (o q) (p == q) b before (λ same. ap o (sym (eqb-true p q same)) ∙ sym opening)
  where
    split : (c : Bool) → contains q (cond c (births ++ (p ∷ [])) births) ≡ cond c (contains q births || ((p == q) || false)) (contains q births)
    split true = list_any-append (λ r. r == q) births (p ∷ [])
    split false = refl

-- ---- the session of the birth taken

option-cond : (f : ℕ → ℕ) (b : Bool) (p : ℕ) (o : Option ℕ) → cond b (Some (f p)) (option_map f o) ≡ option_map f (cond b (Some p) o)
option-cond f true p o = refl
option-cond f false p o = refl

-- ---- one input more

pub hand-tracked : TakenBy → Consumes → (s : Setup) (published : List Message) (wait width : ℕ) (is : List order.Input) (js : List host.Input) (track : Track)
    (p now : ℕ) (m : Message) (read : NumberedData) (opening : Bool) (session : ℕ)
    → IsLawful (host_setting s published wait width) (MessageComes p now ∷ is)
    → order.done_at (host_setting s published wait width) (order.record_of (host_setting s published wait width) is)
    (order.standing_of (host_setting s published wait width) is) (MessageComes p now)
    ≡ right_at (host_setting s published wait width) (order.record_of (host_setting s published wait width) is) (MessageComes p now)
    → IsMessageAt s published p m read → opening ≡ opens (outline published) p → session ≡ session_at (outline published) p
    → Tracked s published wait width is js track
    → Tracked s published wait width (MessageComes p now ∷ is) (Comes read now ∷ js)
    (handed_track track p opening session (taken_of (order_after wait width js) read now))
hand-tracked takes consumes s published wait width is js track p now m read opening session lawful right at opens-so session-so t =
    let setting = host_setting s published wait width in
    let r = order.record_of setting is in
    let e = order.done_at setting r (order.standing_of setting is) (MessageComes p now) in
    let reads = taken_of (order_after wait width js) read now in
    let are = consumes s published wait width is js p now m read lawful.some_places lawful.few_places t.read at in
    let row = right-row p now (right_at setting r (MessageComes p now)).reply in
    record {
      read = ((refl, (m, at)), t.read);
      reaches = ap (max (p + 1)) t.reaches;
      session =
          ap (λ b. cond (b && is_some_of reads) (Some session) track.session) opens-so
          ∙ ap (λ b. cond (opens (outline published) p && b) (Some session) track.session) (same-some s published e.consumed reads are)
          ∙ ap (λ x. cond (opens (outline published) p && not (is_empty e.consumed)) (Some x) track.session) session-so
          ∙ ap (cond (opens (outline published) p && not (is_empty e.consumed)) (Some (session_at (outline published) p))) t.session
          ∙ option-cond (session_at (outline published)) (opens (outline published) p && not (is_empty e.consumed)) p (taken setting r)
          ∙ ap (option_map (session_at (outline published))) (sym (takes setting is (MessageComes p now) lawful));
      births = λ q. births-step (opens (outline published)) opening track.births (handed_of r) p q opens-so (t.births q);
      consumed = consumed-append s published (order.consumed_of r) e.consumed track.consumed (placed p reads) t.consumed
          (row-consumed s published p row.0 e.consumed reads (ap (λ (d : order.Done). d.consumed) right ∙ row.1) are);
    }

-- what consumes nothing leaves the track
pub death-tracked : (s : Setup) (published : List Message) (wait width : ℕ) (is : List order.Input) (js : List host.Input) (track : Track) (session now bd : ℕ)
    → IsRead s published (DeathComes session now) (Dies bd) → Tracked s published wait width is js track
    → Tracked s published wait width (DeathComes session now ∷ is) (Dies bd ∷ js) track
death-tracked s published wait width is js track session now bd read t =
    let r = order.record_of (host_setting s published wait width) is in
    record {
      read = (read, t.read);
      reaches = t.reaches;
      session = t.session;
      births = t.births;
      consumed = subst (λ (l : List ℕ). AreConsumed s published l track.consumed) (sym (append-nil (order.consumed_of r))) t.consumed;
    }

pub tick-tracked : (s : Setup) (published : List Message) (wait width : ℕ) (is : List order.Input) (js : List host.Input) (track : Track) (now : ℕ)
    → Tracked s published wait width is js track → Tracked s published wait width (TickComes now ∷ is) (Ticks now ∷ js) track
tick-tracked s published wait width is js track now t =
    let r = order.record_of (host_setting s published wait width) is in
    record {
      read = (refl, t.read);
      reaches = t.reaches;
      session = t.session;
      births = t.births;
      consumed = subst (λ (l : List ℕ). AreConsumed s published l track.consumed) (sym (append-nil (order.consumed_of r))) t.consumed;
    }

-- a session begins with nothing
pub fresh-tracked : (s : Setup) (published : List Message) (wait width : ℕ) → Tracked s published wait width [] [] no_track
fresh-tracked s published wait width = record { read = tt; reaches = refl; session = refl; births = λ q. refl; consumed = tt }
