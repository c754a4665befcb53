-- An input comes to a node: the data after it are those of the longer list, and what each host kept of each node stays true.
use Rattle.std.proofs.Common.{◌≡◌, ◌⊎◌, inl, inr, ◌∙◌, ap, sym, refl, subst, ℕ, zero, suc, ◌+◌, ◌-◌, ◌<◌, length, arith, Bool, true, false, ◌&&◌, cond, List, [], ◌∷◌, ◌++◌, Option, Some, None, Ok}
use Rattle.std.specs.Prelude.{slice_get, ◌==◌}
use Rattle.std.specs.Option.{option_map}
use Rattle.std.proofs.lemmas.Bool.{true≢false, eq-eqb, eqb-true}
use Rattle.std.proofs.lemmas.List.{length-set}
use Rattle.std.proofs.lemmas.Option.{slice_get_within}
use Rattle.spk_sequence.specs.Claims.{IsLawful, IsOpening, IsSameWithMore, with_more}
use Rattle.spk_sequence.specs.Following.{contains, taken}
use Rattle.spk_sequence.specs.HostRecord as order
use Rattle.spk_sequence.specs.HostRecord.{HostRecord, reach}
use Rattle.spk_sequence.specs.NodeRecord as sequence
use Rattle.spk_sequence.specs.NodeRecord.{NodeRecord, Setting, opens, session_at}
use Rattle.spk_sequence.specs.Window.{AllMayCome, handed_of}
use Rattle.spk_edge_rules.specs.Answers as edge
use Rattle.spk_edge_rules.specs.Config.{Setup}
use Rattle.spk_edge_rules.specs.Inputs.{Input}
use Rattle.spk_edge_rules.specs.Run.{Message, outline, published, right_at, run_of}
use Rattle.spk_heard.specs.Read.{AreRead}
use Rattle.spk_host.specs.Inputs.{Call, node_calls}
use Rattle.spk_host_node.specs.Inputs as host
use Rattle.spk_host_node.specs.Inputs.{since_end}
use Rattle.spk_tie.specs.Tie.{host_setting}
use Rattle.spk_world_rules.specs.Answers.{Answer, Added, answer_of}
use Rattle.spk_world_rules.specs.Events.{Deed, AtNode, World, host_at, node_at}
use Rattle.spk_world_rules.specs.Queries.{calls_of, inputs_of, published_of}
use Rattle.spk_world_rules.specs.Refusals.{refusal_of}
use Rattle.spk_world_run.specs.Data.{ConsumedData, NodePart, Track, WorldData}
use Rattle.spk_world_run.specs.Run.{AreConsumed, IsNodeRun, IsRun, IsTrack, consumed_as}
use Rattle.spk_world_run.specs.Step.{IsInput, after_input}
use Rattle.spk_world_run.proofs.Dying.{Connects}
use Rattle.spk_world_run.proofs.Lists.{set-sees}
use Rattle.spk_world_run.proofs.Nodes.{IsNumbered, Moments, Openings, SameStart, SameSteps, StaysWhole, answered-right, node-after}
use Rattle.spk_world_run.proofs.Places.{SameNumber, new_messages, number-stays, outline-append, published-after}
use Rattle.spk_world_run.proofs.Writable.{Alone}
use Rattle.spk_world_run.proofs.Refused.{LawfulPairs}

-- ---- what the laws below give

abbrev pub Grows : Type 0
Grows = (s : Setting) (more : NodeRecord) (inputs : List order.Input) → IsLawful s inputs → IsSameWithMore s more inputs

abbrev pub TakenOpens : Type 0
TakenOpens = (s : Setting) (inputs : List order.Input) (b : ℕ) → IsLawful s inputs → taken s (order.record_of s inputs) ≡ Some b → IsOpening s.published b

abbrev pub SameMessage : Type 0
SameMessage = (published more : NodeRecord) (p : ℕ) → p < length published → sequence.message_at (published ++ more) p ≡ sequence.message_at published p

abbrev pub SameOpens : Type 0
SameOpens = (published more : NodeRecord) (p : ℕ) → p < length published → opens (published ++ more) p ≡ opens published p

abbrev pub HandedThere : Type 0
HandedThere = (s : Setting) (inputs : List order.Input) (p : ℕ) → AllMayCome s inputs → contains p (handed_of (order.record_of s inputs)) ≡ true → p < length s.published

abbrev pub StaysRead : Type 0
StaysRead = (s : Setup) (published more : List Message) (is : List order.Input) (js : List host.Input) → AreRead s published is js → AreRead s (published ++ more) is js

abbrev pub Lengths : Type 0
Lengths = (s : Setup) (is : List Input) (i : Input) (answer : edge.Answer) → right_at s (run_of s is) i ≡ Ok answer
    → length (published (run_of s (i ∷ is))) ≡ length (published (run_of s is)) + length answer.given.drafts

-- ---- what a host kept of a node, when the node published more

-- a track, by what was published and what came
pub record IsTrackOf (s : Setup) (messages : List Message) (wait width : ℕ) (inputs : List order.Input) (js : List host.Input) (track : Track) : Type 0 where
  pub read : AreRead s messages inputs js
  pub reaches : track.reach ≡ reach (order.record_of (host_setting s messages wait width) inputs)
  pub session : track.session ≡ option_map (session_at (outline messages))
      (taken (host_setting s messages wait width) (order.record_of (host_setting s messages wait width) inputs))
  pub births : (p : ℕ) → contains p track.births
      ≡ (contains p (handed_of (order.record_of (host_setting s messages wait width) inputs)) && opens (outline messages) p)
  pub consumed : AreConsumed s messages (order.consumed_of (order.record_of (host_setting s messages wait width) inputs)) track.consumed

within-append : {X : Type 0} (xs ys : List X) (p : ℕ) (x : X) → slice_get xs p ≡ Some x → slice_get (xs ++ ys) p ≡ Some x
within-append [] ys p x e = absurd (let z : ⊥ = cc in z)
within-append (y ∷ xs) ys zero x e = e
within-append (y ∷ xs) ys (suc p) x e = within-append xs ys p x e

-- what was consumed stays as it was published
consumed-grows : SameNumber → (s : Setup) (old more : List Message) (ps : List ℕ) (cs : List ConsumedData) → AreConsumed s old ps cs → AreConsumed s (old ++ more) ps cs
consumed-grows stays s old more [] [] all = tt
consumed-grows stays s old more [] (c ∷ cs) all = all
consumed-grows stays s old more (p ∷ ps) [] all = all
consumed-grows stays s old more (p ∷ ps) (c ∷ cs) all =
    let m = all.0.0 in
    let below = slice_get_within old p m all.0.1 in
    let same : consumed_as s (old ++ more) p m ≡ consumed_as s old p m =
    ap (λ n. record (consumed_as s old p m) { payload = record { timestamp = Some m.draft.stamp; metrics = m.draft.metrics; seq = Some n } }) (number-stays stays s old more p below) in
    ((m, within-append old more p m all.0.1, all.0.2 ∙ sym same), consumed-grows stays s old more ps cs all.1)

session-grows : SameMessage → (old more : NodeRecord) (o : Option ℕ) → ((b : ℕ) → o ≡ Some b → b < length old)
    → option_map (session_at (old ++ more)) o ≡ option_map (session_at old) o
session-grows same old more None inside = refl
session-grows same old more (Some b) inside = ap (λ (m : sequence.Message). Some m.session) (same old more b (inside b refl))

births-grow : SameOpens → (old more : NodeRecord) (p : ℕ) (b : Bool) → (b ≡ true → p < length old) → (b && opens (old ++ more) p) ≡ (b && opens old p)
births-grow same old more p true inside = same old more p (inside refl)
births-grow same old more p false inside = refl

track-grows : Grows → TakenOpens → SameMessage → SameOpens → HandedThere → SameNumber → StaysRead
    → (s : Setup) (old more : List Message) (wait width : ℕ) (inputs : List order.Input) (js : List host.Input) (track : Track)
    → IsLawful (host_setting s old wait width) inputs → IsTrackOf s old wait width inputs js track → IsTrackOf s (old ++ more) wait width inputs js track
track-grows grows opened messages openings handed number read s old more wait width inputs js track lawful t =
    let st = host_setting s old wait width in
    let r = order.record_of st inputs in
    let same = grows st (outline more) inputs lawful in
    let setting : host_setting s (old ++ more) wait width ≡ with_more st (outline more) = ap (λ (o : NodeRecord). record st { published = o }) (outline-append old more) in
    let record-same : order.record_of (host_setting s (old ++ more) wait width) inputs ≡ r = ap (λ (x : Setting). order.record_of x inputs) setting ∙ same.same_record in
    let taken-same : taken (host_setting s (old ++ more) wait width) (order.record_of (host_setting s (old ++ more) wait width) inputs) ≡ taken st r =
    ap (λ (x : Setting). taken x (order.record_of x inputs)) setting ∙ same.same_taken in
    record {
      read = read s old more inputs js t.read;
      reaches = t.reaches ∙ ap reach (sym record-same);
      session = t.session
          ∙ sym (session-grows messages (outline old) (outline more) (taken st r) (λ b e. (opened st inputs b lawful e).within))
          ∙ ap (λ (o : NodeRecord). option_map (session_at o) (taken st r)) (sym (outline-append old more))
          ∙ ap (option_map (session_at (outline (old ++ more)))) (sym taken-same);
      births = λ p. t.births p
          ∙ sym (births-grow openings (outline old) (outline more) p (contains p (handed_of r)) (λ e. handed st inputs p lawful.may_come e))
          ∙ ap (λ (o : NodeRecord). contains p (handed_of r) && opens o p) (sym (outline-append old more))
          ∙ ap (λ (x : HostRecord). contains p (handed_of x) && opens (outline (old ++ more)) p) (sym record-same);
      consumed = subst (λ (x : HostRecord). AreConsumed s (old ++ more) (order.consumed_of x) track.consumed) (sym record-same)
          (consumed-grows number s old more (order.consumed_of r) track.consumed t.consumed);
    }

-- ---- an input

to-track : (w : World) (done : List Deed) (h n : ℕ) (calls : List Call) (track : Track) → IsTrack w done h n calls track
    → IsTrackOf (node_at w n) (published_of w done n) (host_at w h).wait (host_at w h).width (inputs_of done h n)
    (since_end (node_calls calls (node_at w n).config.group (node_at w n).config.node)) track
to-track w done h n calls track t = record { read = t.read; reaches = t.reaches; session = t.session; births = t.births; consumed = t.consumed }

-- a track after an input of any node
track-after : Grows → TakenOpens → SameMessage → SameOpens → HandedThere → SameNumber → StaysRead → LawfulPairs
    → (w : World) (done : List Deed) (d : WorldData) (h m n : ℕ) (input : Input) (given : edge.Answer) (calls : List Call) (track : Track) → IsRun w done d
    → right_at (node_at w n) (run_of (node_at w n) (calls_of done n)) input ≡ Ok given
    → IsTrack w done h m calls track → IsTrack w (AtNode n input ∷ done) h m calls track
track-after grows opened messages openings handed number read lawful w done d h m n input given calls track run ok t =
    let all = by (n == m) refl (to-track w done h m calls track t) in
    record { read = all.read; reaches = all.reaches; session = all.session; births = all.births; consumed = all.consumed }
  where
    After : Bool → Type 0
    After b = IsTrackOf (node_at w m) (published (run_of (node_at w m) (cond b (input ∷ calls_of done m) (calls_of done m)))) (host_at w h).wait (host_at w h).width (inputs_of done h m)
        (since_end (node_calls calls (node_at w m).config.group (node_at w m).config.node)) track

    by : (b : Bool) → (n == m) ≡ b → After false → After b
    by false e before = before
    by true e before =
        let same : n ≡ m = eqb-true n m e in
        let s = node_at w m in
        let here : right_at s (run_of s (calls_of done m)) input ≡ Ok given = subst (λ k. right_at (node_at w k) (run_of (node_at w k) (calls_of done k)) input ≡ Ok given) same ok in
        let more = new_messages s (calls_of done m) given in
        subst (λ (l : List Message). IsTrackOf s l (host_at w h).wait (host_at w h).width (inputs_of done h m)
        (since_end (node_calls calls s.config.group s.config.node)) track)
        (sym (published-after s (calls_of done m) input given here))
        (track-grows grows opened messages openings handed number read s (published_of w done m) more (host_at w h).wait (host_at w h).width (inputs_of done h m)
        (since_end (node_calls calls s.config.group s.config.node)) track (lawful w done h m run.world.widths run.all).lawful before)

pub input-run : SameSteps → SameNumber → SameStart → IsNumbered → StaysWhole → Openings → Moments → Connects → Alone
    → Grows → TakenOpens → SameMessage → SameOpens → HandedThere → StaysRead → LawfulPairs
    → (w : World) (done : List Deed) (d after : WorldData) (n : ℕ) (input : Input) (answer : Answer) → IsRun w done d
    → refusal_of w done (AtNode n input) ≡ None → IsInput d n input after answer → IsRun w (AtNode n input ∷ done) after
input-run steps number start numbered whole openings moments connects alone grows opened messages same-opens handed read lawful w done d after n input answer run passed step =
    subst (λ (x : WorldData). IsRun w (AtNode n input ∷ done) x) (sym step.leaves) (record {
      world = run.world;
      all = (passed, run.all);
      node_count = length-set d.nodes n (after_input step.part input step.given) ∙ run.node_count;
      host_count = run.host_count;
      nodes = λ m x there. by-node m x (set-sees d.nodes n (after_input step.part input step.given) m x there);
      hosts = λ h x there. let host-run = run.hosts h x there in record {
        config = host-run.config;
        calls = host-run.calls;
        is = host-run.is;
        began = host-run.began;
        waits = host-run.waits;
        wide = host-run.wide;
        count = host-run.count;
        tracks = λ m track e. track-after grows opened messages same-opens handed number read lawful w done d h m n input step.given host-run.calls track run ok (host-run.tracks m track e);
      };
    })
  where
    node-run : IsNodeRun (node_at w n) (calls_of done n) step.part
    node-run = run.nodes n step.part step.there

    ok : right_at (node_at w n) (run_of (node_at w n) (calls_of done n)) input ≡ Ok step.given
    ok = answered-right steps (node_at w n) (calls_of done n) input step.given step.part node-run.node step.answered

    grown : IsNodeRun (node_at w n) (input ∷ calls_of done n) (after_input step.part input step.given)
    grown =
        let below : n < length w.nodes = let b = slice_get_within d.nodes n step.part step.there in let size = run.node_count in omega (arith, b, size) in
        node-after steps number start numbered whole openings moments connects alone (node_at w n) (calls_of done n) input step.given step.part node-run (run.world.nodes n below).bd step.plain
        step.answered step.whole

    same-node : (m : ℕ) (x : NodePart) (b : Bool) → (n == m) ≡ b → (m ≡ n → ⊥) → IsNodeRun (node_at w m) (calls_of done m) x
        → IsNodeRun (node_at w m) (cond b (input ∷ calls_of done m) (calls_of done m)) x
    same-node m x true e other old = absurd (other (sym (eqb-true n m e)))
    same-node m x false e other old = old

    this-node : (b : Bool) → (n == n) ≡ b → IsNodeRun (node_at w n) (cond b (input ∷ calls_of done n) (calls_of done n)) (after_input step.part input step.given)
    this-node true e = grown
    this-node false e = absurd (true≢false (sym (eq-eqb n n refl) ∙ e))

    by-node : (m : ℕ) (x : NodePart) → ((m ≡ n) × (x ≡ after_input step.part input step.given)) ⊎ ((m ≡ n → ⊥) × (slice_get d.nodes m ≡ Some x))
        → IsNodeRun (node_at w m) (calls_of (AtNode n input ∷ done) m) x
    by-node m x (inl here) =
        subst (λ k. IsNodeRun (node_at w k) (calls_of (AtNode n input ∷ done) k) x) (sym here.0)
        (subst (λ (y : NodePart). IsNodeRun (node_at w n) (calls_of (AtNode n input ∷ done) n) y) (sym here.1) (this-node (n == n) refl))
    by-node m x (inr there) = same-node m x (n == m) refl there.0 (run.nodes m x there.1)

pub input-answer : SameSteps → Lengths → (w : World) (done : List Deed) (d after : WorldData) (n : ℕ) (input : Input) (answer : Answer) → IsRun w done d
    → IsInput d n input after answer → answer ≡ answer_of w done (AtNode n input)
input-answer steps lengths w done d after n input answer run step =
    let s = node_at w n in
    let ok = answered-right steps s (calls_of done n) input step.given step.part (run.nodes n step.part step.there).node step.answered in
    let long = lengths s (calls_of done n) input step.given ok in
    step.added ∙ ap Added (by (n == n) refl (omega (arith, long)))
  where
    by : (b : Bool) → (n == n) ≡ b
        → length step.given.given.drafts ≡ length (published (run_of (node_at w n) (input ∷ calls_of done n))) - length (published_of w done n)
        → length step.given.given.drafts ≡ length (published (run_of (node_at w n) (cond b (input ∷ calls_of done n) (calls_of done n)))) - length (published_of w done n)
    by true e same = same
    by false e same = absurd (true≢false (sym (eq-eqb n n refl) ∙ e))
