-- What the threads begin with is of the plan, of one ingress and of new rings.
use Rattle.std.proofs.Common.{◌≡◌, ◌∙◌, inl, inr, ℕ, zero, suc, ◌+◌, true, List, [], ◌∷◌, ◌++◌, length, map, Some, sym, ap, subst, arith, length-append, string_bytes, add-zero}
use Rattle.std.specs.List.{slice_get}
use Rattle.spk_host.specs.Inputs.{new_host}
use Rattle.spk_ingress.specs.Passes.{AllFresh, AllPutInto, ArePasses, TakesFrom, frames_taken}
use Rattle.spk_ingress.specs.declared.channel.Ingress.{Ingress}
use Rattle.spk_ingress.specs.declared.channel.PutPass.{PutPass}
use Rattle.spk_rings.specs.Ring.{free, offered}
use Rattle.spk_rings.specs.declared.inlet.Inlet.{Inlet}
use Rattle.spk_rings.specs.declared.outlet.Outlet.{Outlet}
use Rattle.spk_plan.specs.declared.plan.Plan.{Plan}
use Rattle.spk_plan.specs.declared.plan.PlanNode.{PlanNode}
use Rattle.spk_plant_edge.specs.declared.edge.EdgeStart.{EdgeStart}
use Rattle.spk_plant_broker.specs.declared.part.BrokerStart.{BrokerStart}
use Rattle.spk_plant_host.specs.declared.ends.HostStart.{HostStart}
use Rattle.spk_plan_rules.specs.Plan.{AreEdges, host_in, is_edge}
use Rattle.spk_plant.specs.Start.{AreParts, AreRings, AreStarts, HasAt, IsPass, IsRing, IsStart, names_in}
use Rattle.spk_plant.proofs.Places.{get_last, get_more, get_parts, has_last, has_more}

-- ---- rings

rings_snoc : (c n : ℕ) (os : List Outlet) (is : List Inlet) (o : Outlet) (i : Inlet) → AreRings c n os is → IsRing o i → free o ≡ c
    → AreRings c (n + 1) (os ++ o ∷ []) (is ++ i ∷ [])
rings_snoc c n os is o i all one room =
    let more : length (os ++ o ∷ []) ≡ length os + 1 = length-append os (o ∷ []) in
    let ends : length (is ++ i ∷ []) ≡ length is + 1 = length-append is (i ∷ []) in
    record {
      outlets = more ∙ ap (λ m. m + 1) all.outlets;
      inlets = ends ∙ ap (λ m. m + 1) all.inlets;
      each = λ k x at. elim (get_parts is i k x at) [
        | inl before ↦ has_more (λ p. IsRing p x) os o k (all.each k x before)
        | inr last ↦
            let place : length os ≡ k = all.outlets ∙ (sym all.inlets ∙ sym last.0) in
            subst (λ j. HasAt Outlet (λ p. IsRing p x) (os ++ o ∷ []) j) place (has_last (λ p. IsRing p x) os o (subst (λ y. IsRing o y) (sym last.1) one))
      ];
      fresh = λ k x at. elim (get_parts os o k x at) [
        | inl before ↦ all.fresh k x before
        | inr last ↦ ap offered last.1 ∙ one.offered
      ];
      room = λ k x at. elim (get_parts os o k x at) [
        | inl before ↦ all.room k x before
        | inr last ↦ ap free last.1 ∙ room
      ];
    }

pub rings_push : (c n : ℕ) (os ps : List Outlet) (is js : List Inlet) (o : Outlet) (i : Inlet) → AreRings c n os is → IsRing o i → free o ≡ c
    → ps ≡ os ++ o ∷ [] → js ≡ is ++ i ∷ [] → AreRings c (n + 1) ps js
rings_push c n os ps is js o i all one room more ends =
    subst (λ xs. AreRings c (n + 1) xs js) (sym more) (subst (λ ys. AreRings c (n + 1) (os ++ o ∷ []) ys) (sym ends) (rings_snoc c n os is o i all one room))

-- ---- edges

pub edges_front : (group host : List ℕ) (ns ms : List PlanNode) (n : PlanNode) → ms ≡ ns ++ n ∷ [] → AreEdges group host ms → AreEdges group host ns
edges_front group host ns ms n is all k m at = all k m (subst (λ xs. slice_get xs k ≡ Some m) (sym is) (get_more ns (n ∷ []) k m at))

pub edges_last : (group host : List ℕ) (ns ms : List PlanNode) (n : PlanNode) → ms ≡ ns ++ n ∷ [] → AreEdges group host ms → is_edge group host n ≡ true
edges_last group host ns ms n is all = all (length ns) n (subst (λ xs. slice_get xs (length ns) ≡ Some n) (sym is) (get_last ns n))

edges_snoc : (group host : List ℕ) (ns : List PlanNode) (n : PlanNode) → AreEdges group host ns → is_edge group host n ≡ true → AreEdges group host (ns ++ n ∷ [])
edges_snoc group host ns n all one k m at = elim (get_parts ns n k m at) [
  | inl before ↦ all k m before
  | inr last ↦ ap (λ x. is_edge group host x) last.1 ∙ one
]

pub edges_push : (group host : List ℕ) (ns ms : List PlanNode) (n : PlanNode) → ms ≡ ns ++ n ∷ [] → AreEdges group host ns → is_edge group host n ≡ true → AreEdges group host ms
edges_push group host ns ms n is all one = subst (λ xs. AreEdges group host xs) (sym is) (edges_snoc group host ns n all one)

-- ---- what the edges' threads begin with

starts_snoc : (group host : List ℕ) (ns : List PlanNode) (ps : List PutPass) (is : List Inlet) (ss : List EdgeStart) (n : PlanNode) (p : PutPass) (i : Inlet) (s : EdgeStart)
    → length ps ≡ length ns → length is ≡ length ns → s.pass ≡ p → s.inlet ≡ i → s.place ≡ length ns → IsStart group host n s → AreStarts group host ns ps is ss
    → AreStarts group host (ns ++ n ∷ []) (ps ++ p ∷ []) (is ++ i ∷ []) (ss ++ s ∷ [])
starts_snoc group host ns ps is ss n p i s passes inlets own ring at_end one all =
    let more : length (ss ++ s ∷ []) ≡ length ss + 1 = length-append ss (s ∷ []) in
    let whole : length (ns ++ n ∷ []) ≡ length ns + 1 = length-append ns (n ∷ []) in
    record {
      sized = more ∙ (ap (λ m. m + 1) all.sized ∙ sym whole);
      nodes = λ k x at. elim (get_parts ss s k x at) [
        | inl before ↦ has_more (λ m. IsStart group host m x) ns n k (all.nodes k x before)
        | inr last ↦
            let place : length ns ≡ k = sym all.sized ∙ sym last.0 in
            subst (λ j. HasAt PlanNode (λ m. IsStart group host m x) (ns ++ n ∷ []) j) place (has_last (λ m. IsStart group host m x) ns n (subst (λ y. IsStart group host n y) (sym last.1) one))
      ];
      passes = λ k x at. elim (get_parts ss s k x at) [
        | inl before ↦ get_more ps (p ∷ []) k x.pass (all.passes k x before)
        | inr last ↦
            let place : length ps ≡ k = passes ∙ (sym all.sized ∙ sym last.0) in
            let same : p ≡ x.pass = sym own ∙ ap (λ (y : EdgeStart). y.pass) (sym last.1) in
            subst (λ j. slice_get (ps ++ p ∷ []) j ≡ Some x.pass) place (get_last ps p ∙ ap Some same)
      ];
      inlets = λ k x at. elim (get_parts ss s k x at) [
        | inl before ↦ get_more is (i ∷ []) k x.inlet (all.inlets k x before)
        | inr last ↦
            let place : length is ≡ k = inlets ∙ (sym all.sized ∙ sym last.0) in
            let same : i ≡ x.inlet = sym ring ∙ ap (λ (y : EdgeStart). y.inlet) (sym last.1) in
            subst (λ j. slice_get (is ++ i ∷ []) j ≡ Some x.inlet) place (get_last is i ∙ ap Some same)
      ];
      places = λ k x at. elim (get_parts ss s k x at) [
        | inl before ↦ all.places k x before
        | inr last ↦ ap (λ (y : EdgeStart). y.place) last.1 ∙ (at_end ∙ (sym all.sized ∙ sym last.0))
      ];
    }

pub starts_push : (group host : List ℕ) (ns ms : List PlanNode) (ps qs : List PutPass) (is js : List Inlet) (ss ts : List EdgeStart) (n : PlanNode) (p : PutPass) (i : Inlet) (s : EdgeStart)
    → ms ≡ ns ++ n ∷ [] → qs ≡ ps ++ p ∷ [] → js ≡ is ++ i ∷ [] → ts ≡ ss ++ s ∷ []
    → length qs ≡ length ms → length js ≡ length ms → s.pass ≡ p → s.inlet ≡ i → s.place ≡ length ns → IsStart group host n s → AreStarts group host ns ps is ss
    → AreStarts group host ms qs js ts
starts_push group host ns ms ps qs is js ss ts n p i s nodes passes inlets starts sized same own ring at_end one all =
    let longer : length ms ≡ length ns + 1 = ap length nodes ∙ length-append ns (n ∷ []) in
    let more : length qs ≡ length ps + 1 = ap length passes ∙ length-append ps (p ∷ []) in
    let ends : length js ≡ length is + 1 = ap length inlets ∙ length-append is (i ∷ []) in
    let snoc : AreStarts group host (ns ++ n ∷ []) (ps ++ p ∷ []) (is ++ i ∷ []) (ss ++ s ∷ []) =
    starts_snoc group host ns ps is ss n p i s (omega arith) (omega arith) own ring at_end one all in
    subst (λ xs. AreStarts group host xs qs js ts) (sym nodes)
    (subst (λ xs. AreStarts group host (ns ++ n ∷ []) xs js ts) (sym passes)
    (subst (λ xs. AreStarts group host (ns ++ n ∷ []) (ps ++ p ∷ []) xs ts) (sym inlets)
    (subst (λ xs. AreStarts group host (ns ++ n ∷ []) (ps ++ p ∷ []) (is ++ i ∷ []) xs) (sym starts) snoc)))

-- ---- all threads

-- a new pass at its place
pub pass_at : (n : Ingress) (first : ℕ) (ps : List PutPass) (k : ℕ) (p : PutPass) → AllPutInto n ps → AllFresh first ps → slice_get ps k ≡ Some p → IsPass n (first + k) p
pass_at n first [] k p into fresh at = absurd (cc)
pass_at n first (q ∷ ps) zero p into fresh at =
    let same : q ≡ p = cc in
    let one : IsPass n (first + 0) q = record { into = into.0; sender = fresh.0 ∙ sym (add-zero first); fresh = fresh.1 } in
    subst (λ x. IsPass n (first + 0) x) same one
pass_at n first (q ∷ ps) (suc k) p into fresh at =
    let place : suc first + k ≡ first + suc k = omega arith in
    subst (λ j. IsPass n j p) place (pass_at n (suc first) ps k p into.1 fresh.2 at)

first_pass : (n : Ingress) (ps : List PutPass) (k : ℕ) (p : PutPass) → ArePasses n ps → slice_get ps k ≡ Some p → IsPass n k p
first_pass n ps k p passes at =
    let same : 0 + k ≡ k = omega arith in
    subst (λ j. IsPass n j p) same (pass_at n 0 ps k p passes.puts_into passes.fresh at)

pub parts_are : (p : Plan) (n : Ingress) (all ps : List PutPass) (js is : List Inlet) (ss : List EdgeStart) (b : BrokerStart) (h : HostStart)
    → n.senders ≡ length p.nodes.items + 1 → ArePasses n all → all ≡ ps ++ h.pass ∷ []
    → AreRings p.ring (length p.nodes.items + 1) b.outlets.items js → js ≡ is ++ h.inlet ∷ []
    → AreStarts (string_bytes p.group) (string_bytes p.host) p.nodes.items ps is ss
    → b.width ≡ p.width → TakesFrom n b.pass → frames_taken b.pass ≡ [] → h.host ≡ new_host (host_in p)
    → map (λ name. string_bytes name) h.nodes.items ≡ names_in p.nodes.items → AreParts p n ss b h
parts_are p n all ps js is ss b h senders passes split rings ends starts width taker none host names =
    let longer : length all ≡ length ps + 1 = ap length split ∙ length-append ps (h.pass ∷ []) in
    let more : length js ≡ length is + 1 = ap length ends ∙ length-append is (h.inlet ∷ []) in
    let sized : length all ≡ n.senders = passes.sized in
    let inlets : length js ≡ length p.nodes.items + 1 = rings.inlets in
    let own : length ps ≡ length p.nodes.items = omega arith in
    let ring : length is ≡ length p.nodes.items = omega arith in
    let pass_is : (k : ℕ) (q : PutPass) → slice_get all k ≡ Some q → IsPass n k q = (λ k q at. first_pass n all k q passes at) in
    record {
      senders = senders;
      sized = starts.sized;
      edges = starts.nodes;
      passes = λ k s at. pass_is k s.pass (subst (λ xs. slice_get xs k ≡ Some s.pass) (sym split) (get_more ps (h.pass ∷ []) k s.pass (starts.passes k s at)));
      rings = λ k s at. rings.each k s.inlet (subst (λ xs. slice_get xs k ≡ Some s.inlet) (sym ends) (get_more is (h.inlet ∷ []) k s.inlet (starts.inlets k s at)));
      places = starts.places;
      names = names;
      width = width;
      taker = taker;
      none = none;
      outlets = rings.outlets ∙ sym senders;
      fresh = rings.fresh;
      room = rings.room;
      host = host;
      pass = subst (λ j. IsPass n j h.pass) own (pass_is (length ps) h.pass (subst (λ xs. slice_get xs (length ps) ≡ Some h.pass) (sym split) (get_last ps h.pass)));
      ring = subst (λ j. HasAt Outlet (λ o. IsRing o h.inlet) b.outlets.items j) ring (rings.each (length is) h.inlet (subst (λ xs. slice_get xs (length is) ≡ Some h.inlet) (sym ends) (get_last is h.inlet)));
    }
