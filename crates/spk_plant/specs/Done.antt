-- What the threads of a plant hand on when they are joined.
use Rattle.std.specs.Prelude.{◌≡◌, ℕ, ◌+◌, List, [], ◌++◌, length, map, Option, Some}
use Rattle.std.specs.List.{slice_get}
use Rattle.spk_edge.specs.Along.{node_of}
use Rattle.spk_edge_rules.specs.Config.{Setup}
use Rattle.spk_ingress.specs.Lanes.{share_of}
use Rattle.spk_ingress.specs.Passes.{PutsInto, TakesFrom, frames_put, frames_taken}
use Rattle.spk_ingress.specs.declared.channel.Ingress.{Ingress}
use Rattle.spk_ingress.specs.declared.channel.PutPass.{PutPass}
use Rattle.spk_rings.specs.Ring.{IsTokenOf, all_offered, popped}
use Rattle.spk_rings.specs.declared.item.Item.{Item}
use Rattle.spk_rings.specs.declared.token.Token.{Token}
use Rattle.spk_plant_edge.specs.Done.{EdgeDone}
use Rattle.spk_plant_edge.specs.declared.edge.EdgeStart.{EdgeStart}
use Rattle.spk_plant_edge.specs.declared.edge.EdgeEnd.{EdgeEnd}
use Rattle.spk_plant_broker.specs.Done.{BrokerDone}
use Rattle.spk_plant_host.specs.Ends.{HostDone}
use Rattle.spk_plant_host.specs.declared.ends.Given.{Given}
use Rattle.spk_plant_given.specs.Handed.{IsOfNode}
use Rattle.spk_ingress.specs.declared.rule.Message.{Message}
use Rattle.spk_plant.specs.Start.{HasAt}
use Rattle.spk_plant.specs.declared.report.NodeReport.{NodeReport}
use Rattle.spk_plant.specs.declared.report.Report.{Report}
use Rattle.spk_plant_broker.specs.declared.part.BrokerStart.{BrokerStart}
use Rattle.spk_plant_host.specs.declared.ends.HostStart.{HostStart}
use Rattle.spk_rings.specs.declared.inlet.Inlet.{Inlet}
use Rattle.spk_plant.specs.declared.choice.Ends.{Ends}

-- the pass may be used where the thread begins
abbrev pub AreReady : Ingress → List EdgeStart → Type 0
AreReady n ss = (k : ℕ) (s : EdgeStart) → slice_get ss k ≡ Some s → PutsInto n s.pass

-- what an edge's thread hands on, whatever its node was made with
pub record IsEdgeDone (n : Ingress) (start : EdgeStart) (end : EdgeEnd) : Type 0 where
  pub done : (s : Setup) → start.node ≡ node_of s [] → EdgeDone s start end
  pub into : PutsInto n end.pass
  pub sender : end.pass.sender ≡ start.pass.sender

-- those of these threads, place by place
pub record AreDone (n : Ingress) (ss : List EdgeStart) (es : List EdgeEnd) : Type 0 where
  pub sized : length es ≡ length ss
  pub each : (k : ℕ) (e : EdgeEnd) → slice_get es k ≡ Some e → HasAt EdgeStart (λ s. IsEdgeDone n s e) ss k

-- all threads ran to their ends
pub record AllDone (n : Ingress) (ss : List EdgeStart) (b : BrokerStart) (h : HostStart) (ends : Ends) : Type 0 where
  pub edges : AreDone n ss ends.edges.items
  pub broker : BrokerDone n b ends.broker
  pub host : HostDone n h ends.host

-- ---- after the joins

-- a front of a list
abbrev pub IsFront : List Item → List Item → Type 0
IsFront xs ys = (rest : List Item) × (xs ++ rest ≡ ys)

-- the tokens are those of the edges' rings, place by place
abbrev pub AreTheirs : List EdgeEnd → List (Option Token) → Type 0
AreTheirs es ts = (k : ℕ) (e : EdgeEnd) (t : Token) → slice_get es k ≡ Some e → slice_get ts k ≡ Some (Some t) → IsTokenOf t e.inlet

abbrev pub AllInto : Ingress → List EdgeEnd → Type 0
AllInto n es = (k : ℕ) (e : EdgeEnd) → slice_get es k ≡ Some e → PutsInto n e.pass

-- passes and tokens are of this ingress and of these rings, and each sender has its pass
pub record AreTied (n : Ingress) (ends : Ends) : Type 0 where
  pub sized : length ends.broker.tokens.items ≡ length ends.edges.items + 1
  pub tokens : AreTheirs ends.edges.items ends.broker.tokens.items
  pub token : (t : Token) → slice_get ends.broker.tokens.items (length ends.edges.items) ≡ Some (Some t) → IsTokenOf t ends.host.inlet
  pub taker : TakesFrom n ends.broker.pass
  pub into : AllInto n ends.edges.items
  pub pass : PutsInto n ends.host.pass
  pub senders : n.senders ≡ length ends.edges.items + 1
  pub places : (k : ℕ) (e : EdgeEnd) → slice_get ends.edges.items k ≡ Some e → e.pass.sender ≡ k
  pub place : ends.host.pass.sender ≡ length ends.edges.items

-- what was taken out of a ring is a front of what it got
pub record IsFrontOf (e : EdgeEnd) (t : Option Token) : Type 0 where
  pub token : Token
  pub there : t ≡ Some token
  pub front : IsFront (popped e.inlet) (all_offered token)

-- what tells what the host was handed of each edge node: the frames taken, how many of them before each item of the host's ring, the items
pub record Lists : Type 0 where
  pub taken : List Message
  pub accepted : List ℕ
  pub given : List Given

abbrev pub lists : List Message → List ℕ → List Given → Lists
lists taken accepted given = record { taken = taken; accepted = accepted; given = given }

abbrev pub lists_of : Ends → Lists
lists_of ends = lists ends.broker.taken.items ends.broker.accepted.items ends.host.given.items

-- the report of the end of an edge, the sender at place k
pub record IsReportOf (ls : Lists) (k : ℕ) (e : EdgeEnd) (r : NodeReport) : Type 0 where
  pub inputs : r.inputs ≡ e.inputs
  pub published : r.published ≡ e.published
  pub handed : IsOfNode e.node.config.group e.node.config.node k ls.taken ls.accepted ls.given r.given.items r.consumed.items

-- edges' ends, taken apart
pub record AreApart (ls : Lists) (es : List EdgeEnd) (ts : List (Option Token)) (rs : List NodeReport) (ps : List PutPass) : Type 0 where
  pub sized : length rs ≡ length es
  pub same : length ps ≡ length es
  pub reports : (k : ℕ) (r : NodeReport) → slice_get rs k ≡ Some r → HasAt EdgeEnd (λ e. IsReportOf ls k e r) es k
  pub passes : (k : ℕ) (e : EdgeEnd) → slice_get es k ≡ Some e → slice_get ps k ≡ Some e.pass
  pub owners : (k : ℕ) (p : PutPass) → slice_get ps k ≡ Some p → HasAt EdgeEnd (λ e. e.pass ≡ p) es k
  pub fronts : (k : ℕ) (e : EdgeEnd) → slice_get es k ≡ Some e → HasAt (Option Token) (IsFrontOf e) ts k
  pub all : ps ≡ map (λ (e : EdgeEnd). e.pass) es

-- the host's ring is empty: what was taken out is what it got
pub record IsAllOf (i : Inlet) (t : Option Token) : Type 0 where
  pub token : Token
  pub there : t ≡ Some token
  pub all : popped i ≡ all_offered token

-- The lists of the threads, tied: the report holds them, the rings' items are fronts, and each sender's share is what it put.
pub record IsTied (ends : Ends) (r : Report) : Type 0 where
  pub taken : r.taken ≡ ends.broker.taken
  pub refusals : r.refusals ≡ ends.broker.refusals
  pub refused : r.refused ≡ ends.broker.refused
  pub accepted : r.accepted ≡ ends.broker.accepted
  pub is_cut : r.is_cut ≡ ends.broker.is_cut
  pub given : r.given ≡ ends.host.given
  pub sized : length r.nodes.items ≡ length ends.edges.items
  pub nodes : (k : ℕ) (x : NodeReport) → slice_get r.nodes.items k ≡ Some x → HasAt EdgeEnd (λ e. IsReportOf (lists_of ends) k e x) ends.edges.items k
  pub fronts : (k : ℕ) (e : EdgeEnd) → slice_get ends.edges.items k ≡ Some e → HasAt (Option Token) (IsFrontOf e) ends.broker.tokens.items k
  pub all : HasAt (Option Token) (IsAllOf ends.host.inlet) ends.broker.tokens.items (length ends.edges.items)
  pub shares : (k : ℕ) (e : EdgeEnd) → slice_get ends.edges.items k ≡ Some e
      → share_of e.pass.sender (frames_taken ends.broker.pass) ≡ frames_put e.pass
  pub share : share_of ends.host.pass.sender (frames_taken ends.broker.pass) ≡ frames_put ends.host.pass
