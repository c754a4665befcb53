-- The threads' promises and what ties them are what the report says.
use Rattle.std.proofs.Common.{◌≡◌, ◌∙◌, ℕ, ◌+◌, ◌-◌, ◌*◌, ◌<◌, ◌≤◌, List, [], ◌∷◌, ◌++◌, length, map, Option, Some, sym, ap, subst, arith}
use Rattle.std.specs.List.{AllByRecursion, slice_get}
use Rattle.spk_ingress.specs.declared.rule.Message.{Message}
use Rattle.spk_ingress.specs.Lanes.{share_of}
use Rattle.spk_ingress.specs.Passes.{frames_put}
use Rattle.spk_ingress.specs.declared.channel.Ingress.{Ingress}
use Rattle.spk_rings.specs.Ring as rings
use Rattle.spk_rings.specs.Ring.{FinishedFrom, SameInlet, all_offered, free, popped}
use Rattle.spk_rings.specs.declared.inlet.Inlet.{Inlet}
use Rattle.spk_rings.proofs.Ends.{ends_finish, token_take}
use Rattle.spk_rings.specs.declared.item.Item.{Item}
use Rattle.spk_rings.specs.declared.outlet.Outlet.{Outlet}
use Rattle.spk_rings.specs.declared.token.Token.{Token}
use Rattle.spk_plan.specs.declared.plan.Plan.{Plan}
use Rattle.spk_plan.specs.declared.plan.PlanNode.{PlanNode}
use Rattle.spk_edge_rules.specs.Config.{Config, Setup}
use Rattle.spk_plant_given.specs.Handed.{IsOfNode}
use Rattle.spk_edge.specs.View.{message_view}
use Rattle.spk_ingress.specs.declared.frame.Frame.TheVariants.{End}
use Rattle.spk_plant_edge.specs.Frames.{frames_of}
use Rattle.spk_plant_edge.specs.Log.{inputs_of, items_of}
use Rattle.spk_plant_edge.specs.Told.{newest_first}
use Rattle.spk_plant_edge.specs.Done.{EdgeDone}
use Rattle.spk_plant_edge.specs.declared.edge.EdgeStart.{EdgeStart}
use Rattle.spk_plant_edge.specs.declared.edge.EdgeEnd.{EdgeEnd}
use Rattle.spk_plant_broker.specs.Data.{Entry, Took, Accepted, Refused, Passed, Told}
use Rattle.spk_plant_broker.specs.Done.{AreTokens, BrokerDone, IsTokenAt}
use Rattle.spk_plant_broker.specs.Log.{AtRefusals, HasFilled, got_of, taken_of}
use Rattle.spk_plant_broker.specs.declared.part.BrokerStart.{BrokerStart}
use Rattle.spk_plant_host.specs.declared.ends.HostStart.{HostStart}
use Rattle.spk_plant.specs.Done.{AllDone, AreReady, AreTheirs, AreTied, IsEdgeDone, IsFront, IsReportOf, IsTied, Lists, lists, lists_of}
use Rattle.spk_plan_rules.specs.Plan.{host_in, setup_in}
use Rattle.std.specs.String.{string_bytes}
use Rattle.spk_host.specs.Data.{HostData}
use Rattle.spk_ingress.specs.declared.frame.Frame.TheVariants as frame
use Rattle.spk_plant_host.specs.Calls.{packets_of}
use Rattle.spk_plant_host.specs.Ends.{config_of}
use Rattle.spk_plant_host.specs.Told.{AreToldBy, calls_of, heard_in, told_in}
use Rattle.spk_plant.specs.Report.{IsHandedAt, IsHost, IsLogged, IsNode, IsNodeAt, RunsAs}
use Rattle.spk_plant.specs.Start.{AreParts, HasAt, IsPass, IsRing, IsStart}
use Rattle.spk_plant.specs.declared.report.NodeReport.{NodeReport}
use Rattle.spk_plant.specs.declared.report.Report.{Report}
use Rattle.spk_plant.specs.declared.choice.Ends.{Ends}

-- what a token holds is what its ring got
pub token_gives : (os : List Outlet) (got : ℕ → List Item) (ts : List (Option Token)) (k : ℕ) (t : Option Token) (token : Token)
    → AreTokens os got ts → slice_get ts k ≡ Some t → t ≡ Some token → all_offered token ≡ got k
token_gives os got ts k t token h at is =
    let found : IsTokenAt os got k (Some token) = subst (IsTokenAt os got k) is (h k t at) in
    found.2.1

-- one edge's share, report and ring
pub node_is : (ls : Lists) (s : Setup) (n : Ingress) (start : EdgeStart) (end : EdgeEnd) (k : ℕ) (log : List Entry) (t : Option Token) (x : NodeReport)
    → EdgeDone s start end → frames_put start.pass ≡ [] → popped start.inlet ≡ []
    → share_of k (taken_of log) ≡ frames_put end.pass → IsFront (popped end.inlet) (got_of k log) → IsReportOf ls k end x
    → IsNode s start.script.items (share_of k (taken_of log)) (got_of k log) x
node_is ls s n start end k log t x d fresh none share front of = record {
  log = d.log;
  lawful = d.lawful;
  script = d.script;
  inputs = ap (λ v. newest_first v.items) of.inputs ∙ d.inputs;
  messages = ap (λ v. map message_view v.items) of.published ∙ d.messages;
  whole = d.whole;
  frames = share ∙ (d.frames ∙ ap (λ fs. fs ++ frames_of s (inputs_of d.log) ++ End ∷ []) fresh);
  heard = subst (λ is. IsFront is (got_of k log)) (d.items ∙ ap (λ is. is ++ items_of d.log) none) front;
}

-- the broker's log is the report's
pub logged_is : (n : Ingress) (b : BrokerStart) (ends : Ends) (r : Report) (edges : ℕ) (d : BrokerDone n b ends.broker)
    → n.senders ≡ edges + 1 → IsTied ends r → IsLogged (256 - 2 * b.width) edges d.log r
logged_is n b ends r edges d senders tied =
    let less : n.senders - 1 ≡ edges = omega (arith, senders) in
    subst (λ m. IsLogged (256 - 2 * b.width) m d.log r) less (record {
      is_log = d.is_log;
      offered = d.offered;
      told = d.told;
      ended = λ k below. d.ended k (omega (arith, below, senders));
      taken = ap (λ v. v.items) tied.taken ∙ d.taken;
      senders = subst (λ m. AllByRecursion (λ (x : Message). x.sender < m) (taken_of d.log)) (senders ∙ ap (λ m. m + 1) (sym less)) d.senders;
      counted = d.counted;
      refusals = ap (λ v. v.items) tied.refusals ∙ d.refusals;
      refused = tied.refused ∙ d.refused;
      accepted = ap (λ v. v.items) tied.accepted ∙ d.accepted;
      is_cut = tied.is_cut ∙ d.is_cut;
    })

-- the node of one place
pub node_at : (p : Plan) (n : Ingress) (ss : List EdgeStart) (b : BrokerStart) (h : HostStart) (ends : Ends) (r : Report)
    → AreParts p n ss b h → (d : AllDone n ss b h ends) → IsTied ends r
    → (k : ℕ) (x : NodeReport) → slice_get r.nodes.items k ≡ Some x → IsNodeAt p d.broker.log k x
node_at p n ss b h ends r parts d tied k x at =
    let log = d.broker.log in
    let ended : HasAt EdgeEnd (λ e. IsReportOf (lists_of ends) k e x) ends.edges.items k = tied.nodes k x at in
    let begun : HasAt EdgeStart (λ s. IsEdgeDone n s ended.element) ss k = d.edges.each k ended.element ended.there in
    let start = begun.element in
    let node : HasAt PlanNode (λ m. IsStart (string_bytes p.group) (string_bytes p.host) m start) p.nodes.items k = parts.edges k start begun.there in
    let pass : IsPass n k start.pass = parts.passes k start begun.there in
    let ring = parts.rings k start begun.there in
    let front = tied.fronts k ended.element ended.there in
    let got : all_offered front.holds.token ≡ got_of k log =
    token_gives b.outlets.items (λ j. got_of j log) ends.broker.tokens.items k front.element front.holds.token d.broker.tokens front.there front.holds.there in
    let sender : ended.element.pass.sender ≡ k = begun.holds.sender ∙ pass.sender in
    let share : share_of k (taken_of log) ≡ frames_put ended.element.pass =
    sym (ap (λ j. share_of j (taken_of log)) sender) ∙ (sym (ap (λ ms. share_of ended.element.pass.sender ms) d.broker.frames) ∙ tied.shares k ended.element ended.there) in
    let is = node_is (lists_of ends) (setup_in p node.element) n start ended.element k log front.element x
    (begun.holds.done (setup_in p node.element) node.holds.node) pass.fresh ring.holds.popped share
    (subst (λ items. IsFront (popped ended.element.inlet) items) got front.holds.front) ended.holds in
    record {
      element = node.element;
      there = node.there;
      holds = subst (λ steps. IsNode (setup_in p node.element) steps (share_of k (taken_of log)) (got_of k log) x) (ap (λ v. v.items) node.holds.script) is;
    }

-- by which lists
same_lists : (ends : Ends) (r : Report) → IsTied ends r → lists_of ends ≡ lists r.taken.items r.accepted.items r.given.items
same_lists ends r tied =
    ap (λ v. lists v.items ends.broker.accepted.items ends.host.given.items) (sym tied.taken)
    ∙ (ap (λ v. lists r.taken.items v.items ends.host.given.items) (sym tied.accepted)
    ∙ ap (λ v. lists r.taken.items r.accepted.items v.items) (sym tied.given))

of_config : (a b : Config) (k : ℕ) (ls : Lists) (x : NodeReport) → a ≡ b → IsOfNode a.group a.node k ls.taken ls.accepted ls.given x.given.items x.consumed.items
    → IsOfNode b.group b.node k ls.taken ls.accepted ls.given x.given.items x.consumed.items
of_config a b k ls x same is = subst (λ c. IsOfNode c.group c.node k ls.taken ls.accepted ls.given x.given.items x.consumed.items) same is

-- what the host was handed of the node of one place
pub handed_at : (p : Plan) (n : Ingress) (ss : List EdgeStart) (b : BrokerStart) (h : HostStart) (ends : Ends) (r : Report)
    → AreParts p n ss b h → (d : AllDone n ss b h ends) → IsTied ends r
    → (k : ℕ) (x : NodeReport) → slice_get r.nodes.items k ≡ Some x → IsHandedAt p r k x
handed_at p n ss b h ends r parts d tied k x at =
    let ended : HasAt EdgeEnd (λ e. IsReportOf (lists_of ends) k e x) ends.edges.items k = tied.nodes k x at in
    let begun : HasAt EdgeStart (λ s. IsEdgeDone n s ended.element) ss k = d.edges.each k ended.element ended.there in
    let start = begun.element in
    let node : HasAt PlanNode (λ m. IsStart (string_bytes p.group) (string_bytes p.host) m start) p.nodes.items k = parts.edges k start begun.there in
    let done : EdgeDone (setup_in p node.element) start ended.element = begun.holds.done (setup_in p node.element) node.holds.node in
    record {
      element = node.element;
      there = node.there;
      holds = subst (λ ls. IsOfNode (string_bytes p.group) (string_bytes node.element.node) k ls.taken ls.accepted ls.given x.given.items x.consumed.items) (same_lists ends r tied)
          (of_config ended.element.node.config (setup_in p node.element).config k (lists_of ends) x (ap (λ v. v.config) done.node) ended.holds.handed);
    }

-- the host
pub host_is : (p : Plan) (n : Ingress) (ss : List EdgeStart) (b : BrokerStart) (h : HostStart) (ends : Ends) (r : Report)
    → AreParts p n ss b h → (d : AllDone n ss b h ends) → IsTied ends r
    → IsHost (host_in p) (share_of (length p.nodes.items) (taken_of d.broker.log)) (got_of (length p.nodes.items) d.broker.log) r.given.items
host_is p n ss b h ends r parts d tied =
    let log = d.broker.log in
    let edges = length p.nodes.items in
    let config : config_of h ≡ host_in p = ap (λ (x : HostData). x.session.config) parts.host in
    let size : length ends.edges.items ≡ edges = d.edges.sized ∙ parts.sized in
    let got : all_offered tied.all.holds.token ≡ got_of (length ends.edges.items) log =
    token_gives b.outlets.items (λ j. got_of j log) ends.broker.tokens.items (length ends.edges.items) tied.all.element tied.all.holds.token d.broker.tokens tied.all.there tied.all.holds.there in
    let items : d.host.items ≡ got_of edges log =
    sym (d.host.taken ∙ ap (λ xs. xs ++ d.host.items) parts.ring.holds.popped) ∙ (tied.all.holds.all ∙ (got ∙ ap (λ j. got_of j log) size)) in
    let sender : ends.host.pass.sender ≡ edges = d.host.sender ∙ parts.pass.sender in
    let share : share_of edges (taken_of log) ≡ frames_put ends.host.pass =
    sym (ap (λ j. share_of j (taken_of log)) sender) ∙ (sym (ap (λ ms. share_of ends.host.pass.sender ms) d.broker.frames) ∙ tied.share) in
    let given : r.given.items ≡ ends.host.given.items = ap (λ v. v.items) tied.given in
    subst (λ gs. IsHost (host_in p) (share_of edges (taken_of log)) (got_of edges log) gs) (sym given)
    (subst (λ c. IsHost c (share_of edges (taken_of log)) (got_of edges log) ends.host.given.items) config (record {
      told = subst (λ xs. AreToldBy xs (map heard_in ends.host.given.items)) items d.host.told;
      frames = share ∙ (d.host.put ∙ ap (λ fs. fs ++ (map frame.Packet (packets_of (config_of h) (calls_of (config_of h) (told_in ends.host.given.items))) ++ frame.End ∷ [])) parts.pass.fresh);
      consumed = d.host.consumed;
    }))

-- all rings have room for the same number of items
has_room : (c : ℕ) (os : List Outlet) (log : List Entry) → ((k : ℕ) (o : Outlet) → slice_get os k ≡ Some o → free o ≡ c)
    → AtRefusals (HasFilled os) log → AtRefusals (λ k got. c ≤ length got) log
has_room c os [] room all = tt
has_room c os (Took m i ∷ l) room all = has_room c os l room all
has_room c os (Accepted k o ∷ l) room all = has_room c os l room all
has_room c os (Refused k o ∷ l) room all =
    (subst (λ n. n ≤ length (got_of k l)) (room k all.0.0 all.0.1) all.0.2, has_room c os l room all.1)
has_room c os (Passed o ∷ l) room all = has_room c os l room all
has_room c os (Told o ∷ l) room all = has_room c os l room all

pub runs : (p : Plan) (n : Ingress) (ss : List EdgeStart) (b : BrokerStart) (h : HostStart) (ends : Ends) (r : Report)
    → AreParts p n ss b h → AllDone n ss b h ends → IsTied ends r → RunsAs p r
runs p n ss b h ends r parts d tied = record {
  log = d.broker.log;
  logged = subst (λ w. IsLogged (256 - 2 * w) (length p.nodes.items) d.broker.log r) parts.width (logged_is n b ends r (length p.nodes.items) d.broker parts.senders tied);
  room = has_room p.ring b.outlets.items d.broker.log parts.room d.broker.full;
  sized = tied.sized ∙ (d.edges.sized ∙ parts.sized);
  nodes = node_at p n ss b h ends r parts d tied;
  handed = handed_at p n ss b h ends r parts d tied;
  host = host_is p n ss b h ends r parts d tied;
}

-- ---- what the threads may begin with, and what their ends are tied by

pub ready_is : (p : Plan) (n : Ingress) (ss : List EdgeStart) (b : BrokerStart) (h : HostStart) → AreParts p n ss b h → AreReady n ss
ready_is p n ss b h parts k s at = (parts.passes k s at).into

-- the token of a ring is of its other end, also after it was used
token_is : (os : List Outlet) (got : ℕ → List Item) (ts : List (Option Token)) (k : ℕ) (t : Token) (i j : Inlet)
    → AreTokens os got ts → slice_get ts k ≡ Some (Some t) → HasAt Outlet (λ o. IsRing o i) os k → SameInlet i j → rings.IsTokenOf t j
token_is os got ts k t i j all at ends same =
    let found : IsTokenAt os got k (Some t) = all k (Some t) at in
    let there : Some found.0 ≡ Some ends.element = sym found.1 ∙ ends.there in
    let one : found.0 ≡ ends.element = cc in
    let finished : FinishedFrom ends.element t = subst (λ o. FinishedFrom o t) one found.2.0 in
    token_take t i j (ends_finish ends.element i t ends.holds.ends finished) same

theirs_is : (p : Plan) (n : Ingress) (ss : List EdgeStart) (b : BrokerStart) (h : HostStart) (ends : Ends)
    → AreParts p n ss b h → (d : AllDone n ss b h ends) → AreTheirs ends.edges.items ends.broker.tokens.items
theirs_is p n ss b h ends parts d k e t there at =
    let begun : HasAt EdgeStart (λ s. IsEdgeDone n s e) ss k = d.edges.each k e there in
    let start = begun.element in
    let node : HasAt PlanNode (λ m. IsStart (string_bytes p.group) (string_bytes p.host) m start) p.nodes.items k = parts.edges k start begun.there in
    let done : EdgeDone (setup_in p node.element) start e = begun.holds.done (setup_in p node.element) node.holds.node in
    token_is b.outlets.items (λ j. got_of j d.broker.log) ends.broker.tokens.items k t start.inlet e.inlet d.broker.tokens at (parts.rings k start begun.there) done.inlet

pub ties : (p : Plan) (n : Ingress) (ss : List EdgeStart) (b : BrokerStart) (h : HostStart) (ends : Ends)
    → AreParts p n ss b h → AllDone n ss b h ends → AreTied n ends
ties p n ss b h ends parts d =
    let size : length ends.edges.items ≡ length p.nodes.items = d.edges.sized ∙ parts.sized in
    record {
      sized = d.broker.sized ∙ (parts.senders ∙ ap (λ m. m + 1) (sym size));
      tokens = theirs_is p n ss b h ends parts d;
      token = λ t at. token_is b.outlets.items (λ j. got_of j d.broker.log) ends.broker.tokens.items (length ends.edges.items) t h.inlet ends.host.inlet d.broker.tokens at
          (subst (λ k. HasAt Outlet (λ o. IsRing o h.inlet) b.outlets.items k) (sym size) parts.ring) d.host.inlet;
      taker = d.broker.pass;
      into = λ k e at. (d.edges.each k e at).holds.into;
      pass = d.host.puts_into;
      senders = parts.senders ∙ ap (λ m. m + 1) (sym size);
      places = λ k e at. (d.edges.each k e at).holds.sender ∙ (parts.passes k (d.edges.each k e at).element (d.edges.each k e at).there).sender;
      place = d.host.sender ∙ (parts.pass.sender ∙ sym size);
    }
