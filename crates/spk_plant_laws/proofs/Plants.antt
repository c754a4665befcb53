-- A report meets what the laws on a plant's log ask.
use Rattle.std.proofs.Common.{◌≡◌, ◌∙◌, ℕ, zero, suc, ◌<◌, ◌≤◌, Bool, true, false, not, ◌&&◌, ◌||◌, List, [], ◌∷◌, ◌++◌, length, map, Some, refl, sym, ap, subst, arith, nat_le}
use Rattle.std.specs.List.{AllByRecursion, list_all, list_any, slice_get}
use Rattle.std.specs.Str.{bytes_eq}
use Rattle.std.proofs.lemmas.Slice.Eq.{bytes_eq-Decides}
use Rattle.std.specs.Option.{option_map_or}
use Rattle.std.specs.String.{string_bytes}
use Rattle.std.proofs.lemmas.Str.{IsUtf8-string_bytes}
use Rattle.spk_device.specs.Lawful.{IsLawful}
use Rattle.spk_edge.specs.Along.{AllWhole, messages_from}
use Rattle.spk_edge.specs.View.{message_view}
use Rattle.spk_edge_rules.specs.Inputs.{Input}
use Rattle.spk_edge_rules.specs.Run.{opened, published, run_of}
use Rattle.spk_topics.specs.Spark.{is_name}
use Rattle.spk_ingress.specs.Lanes.{share_of}
use Rattle.spk_ingress.specs.declared.frame.Frame.{Frame}
use Rattle.spk_ingress.specs.declared.frame.Frame.TheVariants.{End}
use Rattle.spk_plant_edge.specs.Frames.{frames_of}
use Rattle.spk_plant_edge.specs.Log.{inputs_of}
use Rattle.spk_plant_edge.specs.Told.{newest_first}
use Rattle.spk_plant_broker.specs.Data.{Entry}
use Rattle.spk_plant_broker.specs.Log.{got_of, taken_of}
use Rattle.spk_plant_host.specs.Told.{told_in}
use Rattle.spk_plan.specs.declared.plan.Plan.{Plan}
use Rattle.spk_plan.specs.declared.plan.PlanNode.{PlanNode}
use Rattle.spk_plan.specs.declared.script.Step.TheVariants.{Stop}
use Rattle.spk_plan_rules.specs.Plan.{CanRun, IsMade, are_distinct, fits, has_name, host_in, is_edge, setup_in}
use Rattle.spk_plant.specs.Report.{IsNode, IsNodeAt, RunsAs}
use Rattle.spk_plant.specs.declared.report.NodeReport.{NodeReport}
use Rattle.spk_plant.specs.declared.report.Report.{Report}
use Rattle.spk_plant_relay.specs.Speech.{IsHostSpeech, IsNodeSpeech, IsPlant}
use Rattle.spk_plant_laws.specs.Places.{inputs_at, no_setup, published_at, setup_at}
use Rattle.spk_plant_laws.proofs.Opens.{fits_opens, leads_opens, log_opens, run_opens, stop_opens}

-- ---- places

pub some_at : {X : Type 0} (xs : List X) (k : ℕ) → k < length xs → (x : X) × (slice_get xs k ≡ Some x)
some_at [] k below = absurd (omega (arith, below))
some_at (x ∷ xs) zero below = (x, refl)
some_at (x ∷ xs) (suc k) below = some_at xs k (omega (arith, below))

pub all_at : {X : Type 0} (P : X → Type 0) (xs : List X) (k : ℕ) (x : X) → AllByRecursion P xs → slice_get xs k ≡ Some x → P x
all_at P [] k x all at = absurd (cc)
all_at P (y ∷ xs) zero x all at = let same : y ≡ x = cc in subst P same all.0
all_at P (y ∷ xs) (suc k) x all at = all_at P xs k x all.1 at

both : (a b : Bool) → (a && b) ≡ true → (a ≡ true) × (b ≡ true)
both true b e = (refl, e)
both false b e = absurd (let f : ⊥ = cc in f)

pub true_at : {X : Type 0} (p : X → Bool) (xs : List X) (k : ℕ) (x : X) → list_all p xs ≡ true → slice_get xs k ≡ Some x → p x ≡ true
true_at p [] k x all at = absurd (cc)
true_at p (y ∷ xs) zero x all at = let same : y ≡ x = cc in subst (λ z. p z ≡ true) same (both (p y) (list_all p xs) all).0
true_at p (y ∷ xs) (suc k) x all at = true_at p xs k x (both (p y) (list_all p xs) all).1 at

-- ---- one node

pub record Names (group node host : List ℕ) : Type 0 where
  pub group_is : is_name group ≡ true
  pub node_is : is_name node ≡ true
  pub host_is : is_name host ≡ true

three : (a b c d e : Bool) → (a && b && c && d && e) ≡ true → (a ≡ true) × (b ≡ true) × (c ≡ true)
three true true true d e h = (refl, refl, refl)
three true true false d e h = absurd (let f : ⊥ = cc in f)
three true false c d e h = absurd (let f : ⊥ = cc in f)
three false b c d e h = absurd (let f : ⊥ = cc in f)

names_of : (group host : List ℕ) (n : PlanNode) → is_edge group host n ≡ true → Names group (string_bytes n.node) host
names_of group host n good =
    let t = three (is_name group) (is_name (string_bytes n.node)) (is_name host) (nat_le 1 n.capacity) (nat_le n.capacity 4096) good in
    record { group_is = t.0; node_is = t.1; host_is = t.2 }

-- the node of a plan speaks as its rules give for its inputs
speech : (p : Plan) (n : PlanNode) (inputs : List Input) (frames : List Frame) → is_edge (string_bytes p.group) (string_bytes p.host) n ≡ true → IsLawful n.registry
    → AllWhole (setup_in p n) (published (run_of (setup_in p n) inputs)) → frames ≡ frames_of (setup_in p n) inputs ++ End ∷ []
    → IsNodeSpeech (setup_in p n) inputs frames
speech p n inputs frames good lawful whole put =
    let names = names_of (string_bytes p.group) (string_bytes p.host) n good in
    record {
      names = record { group = names.group_is; node = names.node_is; devices = lawful.levels };
      texts = record {
        group = IsUtf8-string_bytes p.group;
        node = IsUtf8-string_bytes n.node;
        primary = (names.host_is, IsUtf8-string_bytes p.host);
        keep = omega arith;
      };
      unreserved = lawful.unreserved;
      runs_on = refl;
      whole = whole;
      put = put;
    }

-- the node of a place, with its report
pub record NodeOf (p : Plan) (r : Report) (log : List Entry) (k : ℕ) : Type 0 where
  pub node : PlanNode
  pub there : slice_get p.nodes.items k ≡ Some node
  pub report : NodeReport
  pub reported : slice_get r.nodes.items k ≡ Some report
  pub runs : IsNode (setup_in p node) node.script.items (share_of k (taken_of log)) (got_of k log) report

pub node_at : (p : Plan) (r : Report) (ran : RunsAs p r) (k : ℕ) (x : NodeReport) → slice_get r.nodes.items k ≡ Some x → NodeOf p r ran.log k
node_at p r ran k x is =
    let at : IsNodeAt p ran.log k x = ran.nodes k x is in
    record { node = at.element; there = at.there; report = x; reported = is; runs = at.holds }

pub node_below : (p : Plan) (r : Report) (ran : RunsAs p r) (k : ℕ) → k < length p.nodes.items → NodeOf p r ran.log k
node_below p r ran k below =
    let x = some_at r.nodes.items k (omega (arith, below, ran.sized)) in
    node_at p r ran k x.0 x.1

-- what it is made of, and what it was told
pub setup_is : (p : Plan) (r : Report) (log : List Entry) (k : ℕ) (n : NodeOf p r log k) → setup_in p n.node ≡ setup_at p k
setup_is p r log k n = sym (ap (λ o. option_map_or (setup_in p) o no_setup) n.there)

pub inputs_are : (p : Plan) (r : Report) (log : List Entry) (k : ℕ) (n : NodeOf p r log k) → inputs_of n.runs.log ≡ inputs_at r k
inputs_are p r log k n = sym n.runs.inputs ∙ sym (ap (λ o. option_map_or (λ (x : NodeReport). newest_first x.inputs.items) o []) n.reported)

pub speaks : (p : Plan) (r : Report) → CanRun p → IsMade p → (ran : RunsAs p r) → (k : ℕ) → k < length p.nodes.items
    → IsNodeSpeech (setup_at p k) (inputs_at r k) (share_of k (taken_of ran.log))
speaks p r can made ran k below =
    let n = node_below p r ran k below in
    subst (λ s. IsNodeSpeech s (inputs_at r k) (share_of k (taken_of ran.log))) (setup_is p r ran.log k n)
    (subst (λ is. IsNodeSpeech (setup_in p n.node) is (share_of k (taken_of ran.log))) (inputs_are p r ran.log k n)
    (speech p n.node (inputs_of n.runs.log) (share_of k (taken_of ran.log)) (can.edges k n.node n.there)
    (all_at (λ (m : PlanNode). IsLawful m.registry) p.nodes.items k n.node made.lawful n.there) n.runs.whole n.runs.frames))

-- what it published
pub publishes : (p : Plan) (r : Report) (k : ℕ) (x : NodeReport) → RunsAs p r → slice_get r.nodes.items k ≡ Some x
    → map message_view x.published.items ≡ messages_from (setup_at p k) (published_at p r k) 0
publishes p r k x ran is =
    let at : IsNodeAt p ran.log k x = ran.nodes k x is in
    let n : NodeOf p r ran.log k = record { node = at.element; there = at.there; report = x; reported = is; runs = at.holds } in
    at.holds.messages ∙ (ap (λ inputs. messages_from (setup_in p n.node) (published (run_of (setup_in p n.node) inputs)) 0) (inputs_are p r ran.log k n)
    ∙ ap (λ s. messages_from s (published (run_of s (inputs_at r k))) 0) (setup_is p r ran.log k n))

-- how many connections it opened
pub opens_few : (p : Plan) (r : Report) (k : ℕ) → CanRun p → RunsAs p r → k < length p.nodes.items → opened (run_of (setup_at p k) (inputs_at r k)) ≤ 200
opens_few p r k can ran below =
    let n = node_below p r ran k below in
    let s = setup_in p n.node in
    let steps = n.node.script.items in
    let led = leads_opens s (steps ++ Stop ∷ []) [] n.runs.log n.runs.script in
    let asked = log_opens s n.runs.log n.runs.lawful in
    let stop = stop_opens steps in
    let fit = fits_opens n.node (true_at fits p.nodes.items k n.node can.within.scripts n.there) in
    let run = run_opens s (inputs_of n.runs.log) in
    let few : opened (run_of s (inputs_of n.runs.log)) ≤ 200 = omega (arith, run, asked, led, stop, fit) in
    subst (λ z. opened (run_of z (inputs_at r k)) ≤ 200) (setup_is p r ran.log k n)
    (subst (λ is. opened (run_of s is) ≤ 200) (inputs_are p r ran.log k n) few)

-- fewer than a session number has values
pub few_sessions : (p : Plan) (r : Report) (k : ℕ) → opened (run_of (setup_at p k) (inputs_at r k)) ≤ 200 → opened (run_of (setup_at p k) (inputs_at r k)) ≤ 256
few_sessions p r k few = omega (arith, few)

-- ---- the plant

not_not : (b : Bool) → not b ≡ true → b ≡ true → ⊥
not_not true h e = let f : ⊥ = cc in f
not_not false h e = let f : ⊥ = cc in f

or_here : (a b : Bool) → a ≡ true → a || b ≡ true
or_here true b h = refl
or_here false b h = cc

or_there : (a b : Bool) → b ≡ true → a || b ≡ true
or_there true b h = refl
or_there false b h = h

-- one of these has the name
named : (name : List ℕ) (ns : List PlanNode) (k : ℕ) (n : PlanNode) → slice_get ns k ≡ Some n → string_bytes n.node ≡ name → list_any (has_name name) ns ≡ true
named name [] k n at is = absurd (cc)
named name (m ∷ ns) zero n at is =
    let same : m ≡ n = cc in
    or_here (bytes_eq (string_bytes m.node) name) (list_any (has_name name) ns)
    ((bytes_eq-Decides (string_bytes m.node) name).1 (ap (λ (x : PlanNode). string_bytes x.node) same ∙ is))
named name (m ∷ ns) (suc k) n at is = or_there (bytes_eq (string_bytes m.node) name) (list_any (has_name name) ns) (named name ns k n at is)

-- the first of these and a later one have two names
first_apart : (m : PlanNode) (ns : List PlanNode) (k : ℕ) (n : PlanNode) → are_distinct (m ∷ ns) ≡ true → slice_get ns k ≡ Some n → string_bytes n.node ≡ string_bytes m.node → ⊥
first_apart m ns k n distinct at is =
    not_not (list_any (has_name (string_bytes m.node)) ns) (both (not (list_any (has_name (string_bytes m.node)) ns)) (are_distinct ns) distinct).0
    (named (string_bytes m.node) ns k n at is)

places_apart : (ns : List PlanNode) (i j : ℕ) (m n : PlanNode) → are_distinct ns ≡ true → slice_get ns i ≡ Some m → slice_get ns j ≡ Some n → string_bytes m.node ≡ string_bytes n.node → i ≡ j
places_apart [] i j m n distinct first second is = absurd (cc)
places_apart (x ∷ ns) zero zero m n distinct first second is = refl
places_apart (x ∷ ns) zero (suc j) m n distinct first second is =
    let same : x ≡ m = cc in
    absurd (first_apart x ns j n distinct second (sym (ap (λ (y : PlanNode). string_bytes y.node) same ∙ is)))
places_apart (x ∷ ns) (suc i) zero m n distinct first second is =
    let same : x ≡ n = cc in
    absurd (first_apart x ns i m distinct first (is ∙ sym (ap (λ (y : PlanNode). string_bytes y.node) same)))
places_apart (x ∷ ns) (suc i) (suc j) m n distinct first second is =
    ap suc (places_apart ns i j m n (both (not (list_any (has_name (string_bytes x.node)) ns)) (are_distinct ns) distinct).1 first second is)

-- no two nodes have one name
pub apart : (p : Plan) → CanRun p → (i j : ℕ) → i < length p.nodes.items → j < length p.nodes.items → (setup_at p i).config.node ≡ (setup_at p j).config.node → i ≡ j
apart p can i j first second same =
    let m = some_at p.nodes.items i first in
    let n = some_at p.nodes.items j second in
    let one : (setup_at p i).config.node ≡ string_bytes m.0.node = ap (λ o. (option_map_or (setup_in p) o no_setup).config.node) m.1 in
    let other : (setup_at p j).config.node ≡ string_bytes n.0.node = ap (λ o. (option_map_or (setup_in p) o no_setup).config.node) n.1 in
    places_apart p.nodes.items i j m.0 n.0 can.within.distinct m.1 n.1 (sym one ∙ (same ∙ other))

pub host_speaks : (p : Plan) (r : Report) → CanRun p → (ran : RunsAs p r)
    → IsHostSpeech (host_in p) (told_in r.given.items) (share_of (length p.nodes.items) (taken_of ran.log))
host_speaks p r can ran = record {
  good = can.host;
  name = IsUtf8-string_bytes p.host;
  group = IsUtf8-string_bytes p.group;
  keep = omega arith;
  put = ran.host.frames;
}

pub is_plant : (p : Plan) (r : Report) → CanRun p → IsMade p → (ran : RunsAs p r)
    → IsPlant p.width (length p.nodes.items) (setup_at p) (inputs_at r) (host_in p) (told_in r.given.items) ran.log
is_plant p r can made ran = record {
  is_log = ran.logged.is_log;
  senders = record { few = can.within.most; senders = ran.logged.senders; counted = ran.logged.counted };
  distinct = λ i j first second group node. apart p can i j first second node;
  nodes = speaks p r can made ran;
  host = host_speaks p r can ran;
}
