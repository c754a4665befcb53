-- Which fault is answered of several, and why a plant is unsettled whose threads ran to their ends.
use Rattle.std.proofs.Common.{◌≡◌, ◌∙◌, ◌⊎◌, inl, inr, ℕ, zero, suc, ◌+◌, ◌<◌, true, eqb, List, [], ◌∷◌, ◌++◌, length, Option, Some, None, Result, Ok, Err, IfOk, IfErr, Vec, refl, sym, ap, subst, arith, length-append}
use Rattle.std.proofs.lemmas.Bool.{eq-eqb, or_left, or_right}
use Rattle.std.proofs.lemmas.List.{append_assoc}
use Rattle.std.proofs.lemmas.Result.{IfErr-weaker, IfOk-weaker}
use Rattle.std.specs.List.{slice_get}
use Rattle.std.specs.declared.alloc.Global.{Global}
use Rattle.spk_ingress.specs.Passes.{AllTaken, IsSettled, frames_taken, has_sender}
use Rattle.spk_ingress.specs.declared.channel.Ingress.{Ingress}
use Rattle.spk_ingress.specs.declared.channel.PutPass.{PutPass}
use Rattle.spk_rings.specs.Ring.{IsShorterBy, all_offered, popped}
use Rattle.spk_rings.specs.declared.inlet.Inlet.{Inlet}
use Rattle.spk_rings.specs.declared.item.Item.{Item}
use Rattle.spk_rings.specs.declared.token.Token.{Token}
use Rattle.spk_plan.specs.declared.fault.PlantFault.{PlantFault}
use Rattle.spk_plan.specs.declared.fault.PlantFault.TheVariants as fault
use Rattle.spk_plan.specs.declared.plan.Plan.{Plan}
use Rattle.spk_plan_rules.specs.Plan.{CanRun}
use Rattle.spk_plant_edge.specs.Done.{EdgeFailed}
use Rattle.spk_plant_edge.specs.Fault.{fault_of as edge_fault}
use Rattle.spk_plant_edge.specs.declared.fault.EdgeCause.{EdgeCause}
use Rattle.spk_plant_edge.specs.declared.fault.EdgeCause.TheVariants as edge_why
use Rattle.spk_plant_edge.specs.declared.edge.EdgeStart.{EdgeStart}
use Rattle.spk_plant_edge.specs.declared.edge.EdgeEnd.{EdgeEnd}
use Rattle.spk_plant_edge.specs.declared.edge.EdgeFailure.{EdgeFailure}
use Rattle.spk_plant_broker.specs.Fault.{fault_of as broker_fault}
use Rattle.spk_plant_broker.specs.declared.fault.BrokerFailed.{BrokerFailed}
use Rattle.spk_plant_broker.specs.declared.fault.BrokerFailed.TheVariants as failed
use Rattle.spk_plant_broker.specs.declared.part.BrokerStart.{BrokerStart}
use Rattle.spk_plant_broker.specs.declared.part.BrokerEnd.{BrokerEnd}
use Rattle.spk_plant_host.specs.Fault.{fault_of as host_fault}
use Rattle.spk_plant_host.specs.declared.fault.HostCause.{HostCause}
use Rattle.spk_plant_host.specs.declared.fault.HostCause.TheVariants as why
use Rattle.spk_plant_host.specs.declared.ends.HostStart.{HostStart}
use Rattle.spk_plant_host.specs.declared.ends.HostEnd.{HostEnd}
use Rattle.spk_plant_host.specs.declared.ends.HostFailed.{HostFailed}
use Rattle.spk_plant.specs.Choice.{AreJoined, HasFramesLeft, IsChosen, IsFault, IsFirst, IsLeft, IsMissing, IsOfEdges, IsThreads, IsUnsettled, fault_of_all, fault_of_edges, passes_of}
use Rattle.spk_plant.specs.Done.{AllDone, AreApart, AreDone, AreTied, IsEdgeDone, lists_of}
use Rattle.spk_plant.specs.Start.{AreParts, HasAt}
use Rattle.spk_plant.specs.declared.choice.Ends.{Ends}
use Rattle.spk_plant.specs.declared.report.NodeReport.{NodeReport}
use Rattle.spk_plant.specs.declared.start.Parts.{Parts}
use Rattle.spk_plant.proofs.Ends.{done_push}
use Rattle.spk_plant.proofs.Places.{get_last, get_more, get_parts, has_last}

-- ---- the edges' threads

first_more : (n : Ingress) (ss ts : List EdgeStart) (s : EdgeStart) (e : PlantFault) → ts ≡ ss ++ s ∷ [] → IsFirst n ss e → IsFirst n ts e
first_more n ss ts s e is f = record {
  before = f.before;
  start = f.start;
  after = f.after ++ s ∷ [];
  parts = is ∙ (ap (λ xs. xs ++ s ∷ []) f.parts ∙ append_assoc f.before (f.start ∷ f.after) (s ∷ []));
  ends = f.ends;
  done = f.done;
  failure = f.failure;
  failed = f.failed;
  is = f.is;
}

first_last : (n : Ingress) (ss ts : List EdgeStart) (s : EdgeStart) (es : List EdgeEnd) (f : EdgeFailure) (e : PlantFault)
    → ts ≡ ss ++ s ∷ [] → AreDone n ss es → EdgeFailed s f → edge_fault f.cause ≡ e → IsFirst n ts e
first_last n ss ts s es f e is all failed of = record {
  before = ss;
  start = s;
  after = [];
  parts = is;
  ends = es;
  done = all;
  failure = f;
  failed = failed;
  is = of;
}

edges_more : (n : Ingress) (ss ts : List EdgeStart) (s : EdgeStart) (e : PlantFault) → ts ≡ ss ++ s ∷ [] → IsOfEdges n ss e → IsOfEdges n ts e
edges_more n ss ts s e is of = elim of [ inl memory ↦ inl memory | inr first ↦ inr (first_more n ss ts s e is first) ]

joined_done : (n : Ingress) (ss ts : List EdgeStart) (s : EdgeStart) (others : Result (Vec EdgeEnd Global) PlantFault) (last : Result EdgeEnd EdgeFailure) (all : List EdgeEnd)
    → ts ≡ ss ++ s ∷ [] → IfOk others (λ v. AreDone n ss v.items) → IfOk last (λ e. IsEdgeDone n s e) → AreJoined others last all → AreDone n ts all
joined_done n ss ts s (Err f) last all is done one joined = absurd joined
joined_done n ss ts s (Ok v) (Err f) all is done one joined = absurd joined
joined_done n ss ts s (Ok v) (Ok e) all is done one joined = done_push n ss ts v.items all s e done one is joined

joined_fault : (n : Ingress) (ss ts : List EdgeStart) (s : EdgeStart) (others : Result (Vec EdgeEnd Global) PlantFault) (last : Result EdgeEnd EdgeFailure) (e : PlantFault)
    → ts ≡ ss ++ s ∷ [] → IfOk others (λ v. AreDone n ss v.items) → IfErr others (IsOfEdges n ss) → IfErr last (EdgeFailed s)
    → fault_of_edges others last ≡ Some e → IsOfEdges n ts e
joined_fault n ss ts s (Err f) last e is done failed one chosen =
    let same : f ≡ e = cc in
    edges_more n ss ts s e is (subst (λ x. IsOfEdges n ss x) same failed)
joined_fault n ss ts s (Ok v) (Err f) e is done failed one chosen =
    let same : edge_fault f.cause ≡ e = cc in
    inr (first_last n ss ts s v.items f e is done one same)
joined_fault n ss ts s (Ok v) (Ok x) e is done failed one chosen = absurd (cc)

-- the edges and one more, from what was joined of them
pub edges_done : (n : Ingress) (ss ts : List EdgeStart) (s : EdgeStart) (others : Result (Vec EdgeEnd Global) PlantFault) (last : Result EdgeEnd EdgeFailure)
    (r : Result (Vec EdgeEnd Global) PlantFault) → ts ≡ ss ++ s ∷ [] → IfOk others (λ v. AreDone n ss v.items) → IfOk last (λ e. IsEdgeDone n s e)
    → IfOk r (λ v. AreJoined others last v.items) → IfOk r (λ v. AreDone n ts v.items)
edges_done n ss ts s others last r is done one joined =
    IfOk-weaker r (λ v. AreJoined others last v.items) (λ v. AreDone n ts v.items) (λ v all. joined_done n ss ts s others last v.items is done one all) joined

pub edges_fault : (n : Ingress) (ss ts : List EdgeStart) (s : EdgeStart) (others : Result (Vec EdgeEnd Global) PlantFault) (last : Result EdgeEnd EdgeFailure)
    (r : Result (Vec EdgeEnd Global) PlantFault) → ts ≡ ss ++ s ∷ [] → IfOk others (λ v. AreDone n ss v.items) → IfErr others (IsOfEdges n ss)
    → IfErr last (EdgeFailed s)
    → IfErr r (λ e. (fault_of_edges others last ≡ Some e) ⊎ ((fault_of_edges others last ≡ None) × (e ≡ fault.NoMemory)))
    → IfErr r (IsOfEdges n ts)
edges_fault n ss ts s others last r is done failed one why =
    IfErr-weaker r (λ e. (fault_of_edges others last ≡ Some e) ⊎ ((fault_of_edges others last ≡ None) × (e ≡ fault.NoMemory))) (IsOfEdges n ts)
    (λ e w. elim w [ inl chosen ↦ joined_fault n ss ts s others last e is done failed one chosen | inr memory ↦ inl memory.1 ]) why

-- ---- what a thread may fail with

edge_threads : (c : EdgeCause) → IsThreads (edge_fault c)
edge_threads edge_why.NoMemory = inl refl
edge_threads (edge_why.Closed gone) = inr refl

broker_threads : (f : BrokerFailed) → IsThreads (broker_fault f)
broker_threads failed.NoMemory = inl refl
broker_threads (failed.Closed gone) = inr refl

edges_threads : (n : Ingress) (ss : List EdgeStart) (e : PlantFault) → IsOfEdges n ss e → IsThreads e
edges_threads n ss e of = elim of [
  | inl memory ↦ inl memory
  | inr first ↦ subst IsThreads first.is (edge_threads first.failure.cause)
]

host_threads : (e : HostCause) → IsThreads (host_fault e)
host_threads why.NoMemory = inl refl
host_threads (why.Closed gone) = inr refl

chosen_of : (n : Ingress) (ss : List EdgeStart) (e : PlantFault)
    (broker : Result BrokerEnd BrokerFailed) (edges : Result (Vec EdgeEnd Global) PlantFault) (host : Result HostEnd HostFailed)
    → IfErr edges (IsOfEdges n ss) → fault_of_all broker edges host ≡ Some e → IsThreads e
chosen_of n ss e (Err x) edges host of_edges is =
    let same : broker_fault x ≡ e = cc in
    subst IsThreads same (broker_threads x)
chosen_of n ss e (Ok y) (Err x) host of_edges is =
    let same : x ≡ e = cc in
    subst IsThreads same (edges_threads n ss x of_edges)
chosen_of n ss e (Ok y) (Ok z) (Err f) of_edges is =
    let same : host_fault f.cause ≡ e = cc in
    subst IsThreads same (host_threads f.cause)
chosen_of n ss e (Ok y) (Ok z) (Ok x) of_edges is = absurd (cc)

-- ---- all threads ran to their ends

pub missing_last : (ts us : List (Option Token)) (t : Option Token) → us ≡ ts ++ t ∷ [] → t ≡ None → IsMissing us
missing_last ts us t is none = (length ts, subst (λ xs. slice_get xs (length ts) ≡ Some None) (sym is) (get_last ts t ∙ ap Some none))

pub missing_more : (ts us : List (Option Token)) (t : Option Token) → us ≡ ts ++ t ∷ [] → IsMissing ts → IsMissing us
missing_more ts us t is missing =
    (missing.0, subst (λ xs. slice_get xs missing.0 ≡ Some None) (sym is) (get_more ts (t ∷ []) missing.0 None missing.1))

-- items are left in a ring whose count isn't 0
pub left_is : (n : ℕ) (i : Inlet) (t : Token) (xs ys : List Item) → IsShorterBy n xs ys → 0 < n → xs ≡ popped i → ys ≡ all_offered t → IsLeft i (Some t)
left_is n i t xs ys shorter some out got = record {
  token = t;
  there = refl;
  items = shorter.0;
  left = ap (λ zs. zs ++ shorter.0) (sym out) ∙ (shorter.1 ∙ got);
  some = subst (λ m. 0 < m) (sym shorter.2) some;
}

pub ring_left : (i : Inlet) (ts us : List (Option Token)) (t : Option Token) (k : ℕ) → us ≡ ts ++ t ∷ [] → length us ≡ k + 1 → IsLeft i t
    → HasAt (Option Token) (IsLeft i) us k
ring_left i ts us t k is sized left =
    let more : length us ≡ length ts + 1 = ap length is ∙ length-append ts (t ∷ []) in
    let place : length ts ≡ k = omega arith in
    subst (λ xs. HasAt (Option Token) (IsLeft i) xs k) (sym is) (subst (λ j. HasAt (Option Token) (IsLeft i) (ts ++ t ∷ []) j) place (has_last (IsLeft i) ts t left))

get_below : {X : Type 0} (xs : List X) (k : ℕ) → k < length xs → (x : X) × (slice_get xs k ≡ Some x)
get_below [] k l = absurd (omega arith)
get_below (x ∷ xs) zero l = (x, refl)
get_below (x ∷ xs) (suc k) l = get_below xs k (omega arith)

has_at : (ps : List PutPass) (k j : ℕ) (p : PutPass) → slice_get ps k ≡ Some p → p.sender ≡ j → has_sender j ps ≡ true
has_at [] k j p at is = absurd (cc)
has_at (q ∷ ps) zero j p at is =
    let same : q ≡ p = cc in
    or_left (eqb q.sender j) (has_sender j ps) (eq-eqb q.sender j (ap (λ (x : PutPass). x.sender) same ∙ is))
has_at (q ∷ ps) (suc k) j p at is = or_right (eqb q.sender j) (has_sender j ps) (has_at ps k j p at is)

-- all senders are there
all_there : (n : Ingress) (ends : Ends) (ts : List (Option Token)) (rs : List NodeReport) (ps qs : List PutPass) → AreTied n ends → AreApart (lists_of ends) ends.edges.items ts rs ps
    → qs ≡ ps ++ ends.host.pass ∷ [] → (i : ℕ) → i < n.senders → has_sender i qs ≡ true
all_there n ends ts rs ps qs tied apart is i below =
    let more : length qs ≡ length ps + 1 = ap length is ∙ length-append ps (ends.host.pass ∷ []) in
    let same : length ps ≡ length ends.edges.items = apart.same in
    let senders : n.senders ≡ length ends.edges.items + 1 = tied.senders in
    let found : (p : PutPass) × (slice_get qs i ≡ Some p) = get_below qs i (omega (arith, below)) in
    let at : slice_get (ps ++ ends.host.pass ∷ []) i ≡ Some found.0 = subst (λ xs. slice_get xs i ≡ Some found.0) is found.1 in
    has_at qs i i found.0 found.1 (elim (get_parts ps ends.host.pass i found.0 at) [
      | inl before ↦
          let owner = apart.owners i found.0 before in
          ap (λ (x : PutPass). x.sender) (sym owner.holds) ∙ tied.places i owner.element owner.there
      | inr last ↦ ap (λ (x : PutPass). x.sender) last.1 ∙ (tied.place ∙ (sym same ∙ sym last.0))
    ])

-- a settling that is refused: frames are left
pub frames_left : (n : Ingress) (ends : Ends) (ts : List (Option Token)) (rs : List NodeReport) (ps qs : List PutPass) → AreTied n ends → AreApart (lists_of ends) ends.edges.items ts rs ps
    → qs ≡ ps ++ ends.host.pass ∷ [] → (IsSettled n ends.broker.pass qs → ⊥) → HasFramesLeft ends
frames_left n ends ts rs ps qs tied apart is not all =
    let own : qs ≡ passes_of ends = is ∙ ap (λ xs. xs ++ ends.host.pass ∷ []) apart.all in
    not (record {
      there = all_there n ends ts rs ps qs tied apart is;
      taken = subst (λ xs. AllTaken (frames_taken ends.broker.pass) xs) (sym own) all;
    })

-- ---- the plant

pub of_threads : (p : Plan) (begun : Parts) (e : PlantFault) → CanRun p → AreParts p begun.ingress begun.edges.items begun.broker begun.host
    → (e ≡ fault.NoMemory) ⊎ IsChosen begun.ingress begun.edges.items begun.broker begun.host e → IsFault p e
of_threads p begun e can parts why = elim why [
  | inl memory ↦ inl (inl memory)
  | inr of ↦ inr (record {
    can = can;
    begun = begun;
    parts = parts;
    why = inl (of, chosen_of begun.ingress begun.edges.items e of.broker of.edges of.host of.edges_failed of.chosen);
  })
]

pub of_left : (p : Plan) (begun : Parts) (ends : Ends) (e : PlantFault) → CanRun p → AreParts p begun.ingress begun.edges.items begun.broker begun.host
    → AllDone begun.ingress begun.edges.items begun.broker begun.host ends → (e ≡ fault.NoMemory) ⊎ ((e ≡ fault.Unsettled) × IsUnsettled ends) → IsFault p e
of_left p begun ends e can parts done why = elim why [
  | inl memory ↦ inl (inl memory)
  | inr left ↦ inr (record {
    can = can;
    begun = begun;
    parts = parts;
    why = inr (record { is = left.0; ends = ends; done = done; left = left.1 });
  })
]
