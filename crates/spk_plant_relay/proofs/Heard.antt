-- What the host is told of a node was read at the positions shown, one by one.
use Rattle.std.proofs.Common.{◌≡◌, sym, ap, refl, subst, ◌∙◌, ℕ, ◌+◌, ◌-◌, ◌<◌, ◌≤◌, Bool, true, false, ◌&&◌, cond, eqb, List, [], ◌∷◌, ◌++◌, reverse, length, Option, Some, None, slice_get, eqb-true}
use Rattle.std.proofs.lemmas.Bool.{and_from}
use Rattle.std.proofs.lemmas.List.{reverse-append}
use Rattle.std.proofs.lemmas.Slice.Eq.{bytes_eq-Decides}
use Rattle.spk_rings.specs.declared.item.Item.{Item}
use Rattle.spk_ingress.specs.Lanes.{share_of}
use Rattle.spk_sequence.specs.Calls as call
use Rattle.spk_sequence.specs.HostRecord.{Input, MessageComes, DeathComes, TickComes}
use Rattle.spk_reading.specs.Data as said
use Rattle.spk_reading.specs.Data.{HeardData, NumberedData}
use Rattle.spk_reading.specs.Meaning.{Says}
use Rattle.spk_host.specs.Inputs.{is_same, node_calls, with_heard}
use Rattle.spk_host_node.specs.Inputs as node
use Rattle.spk_plant_host.specs.Told.{AreToldBy, AreWelcome, IsToldBy, IsWelcome, asked}
use Rattle.spk_edge_rules.specs.Config.{Setup}
use Rattle.spk_edge_rules.specs.Inputs as edge
use Rattle.spk_edge_rules.specs.Claims.{HasNames, IsUnreserved, IsWhole}
use Rattle.spk_edge_rules.specs.Run as run
use Rattle.spk_edge_rules.specs.Run.{number_at, published, run_of}
use Rattle.spk_edge.specs.Along.{AllWhole}
use Rattle.spk_tie.specs.Tie.{IsMessageAt, ReadsMessage}
use Rattle.spk_heard.specs.Read.{AreRead}
use Rattle.spk_plant_broker.specs.Data.{Offer, Entry, Took, Accepted, Refused, Passed, Told}
use Rattle.spk_plant_broker.specs.Log.{IsLog, got_of, taken_of}
use Rattle.spk_plant_relay.specs.Given.{AreOthers, IsNoMessageOf}
use Rattle.spk_plant_relay.specs.Relayed.{AreEarlyDeaths, positions_in}
use Rattle.spk_plant_relay.specs.Shown.{AllMaySay, HasPlaces, count_numbered, is_relaying, shown}
use Rattle.spk_plant_relay.proofs.Carries.{Carry, carry-of}
use Rattle.spk_plant_relay.proofs.Deaths.{death-low, session-for-is, session-for-low, session_for}
use Rattle.spk_plant_relay.proofs.Facts.{Facts}
use Rattle.spk_plant_relay.proofs.Nodes.{Tells, on_of, tells-last}
use Rattle.spk_plant_relay.proofs.Plant.{share-other, share-own}
use Rattle.spk_plant_relay.proofs.Tells.{PacketFacts}

-- what was told was read at these positions
pub record IsTold (s : Setup) (all : List run.Message) (positions : List ℕ) (told : List node.Input) : Type 0 where
  pub inputs : List Input
  pub read : AreRead s all inputs told
  pub deaths : AreEarlyDeaths inputs
  pub shown : positions_in inputs ≡ positions

ticked : (s : Setup) (all : List run.Message) (ps : List ℕ) (js : List node.Input) (now : ℕ) → IsTold s all ps js → IsTold s all ps (node.Ticks now ∷ js)
ticked s all ps js now t = record { inputs = TickComes now ∷ t.inputs; read = (refl, t.read); deaths = (tt, t.deaths); shown = t.shown }

came : (s : Setup) (all : List run.Message) (ps : List ℕ) (js : List node.Input) (p now : ℕ) (m : run.Message) (read : NumberedData) → IsMessageAt s all p m read → IsTold s all ps js → IsTold s all (p ∷ ps) (node.Comes read now ∷ js)
came s all ps js p now m read is t = record { inputs = MessageComes p now ∷ t.inputs; read = ((refl, (m, is)), t.read); deaths = (tt, t.deaths); shown = ap (λ xs. p ∷ xs) t.shown }

died : (s : Setup) (all : List run.Message) (ps : List ℕ) (js : List node.Input) (bd now : ℕ) → bd < 256 → IsTold s all ps js → IsTold s all ps (node.Dies bd ∷ js)
died s all ps js bd now low t = record {
  inputs = DeathComes (session_for s.bd bd) now ∷ t.inputs;
  read = ((λ wait width. ap (λ n. call.Death n) (sym (session-for-is s.bd bd low))), t.read);
  deaths = (session-for-low s.bd bd, t.deaths);
  shown = t.shown;
}

-- ---- an item that is none of the node's numbered messages

other-heard : (s : Setup) (all : List run.Message) (ps : List ℕ) (js : List node.Input) (now : ℕ) (bytes : List ℕ) (heard : HeardData) →
    IsNoMessageOf s.config.group s.config.node bytes → Says bytes heard → IsWelcome (Some heard) → IsTold s all ps js → IsTold s all ps (with_heard heard now s.config.group s.config.node js)
other-heard s all ps js now bytes (said.Published ack (said.Message m)) none says welcome t =
    subst (λ b. IsTold s all ps (cond b (node.Comes m now ∷ js) js)) (sym (none ack m says)) t
other-heard s all ps js now bytes (said.Published ack (said.Death group name bd)) none says welcome t = by (is_same s.config.group s.config.node group name)
  where
    by : (b : Bool) → IsTold s all ps (cond b (node.Dies bd ∷ js) js)
    by true = died s all ps js bd now (death-low bytes ack group name bd says) t
    by false = t
other-heard s all ps js now bytes (said.Published ack said.Nothing) none says welcome t = t
other-heard s all ps js now bytes (said.Answered code) none says welcome t = subst (λ b. IsTold s all ps (cond b js (node.Ends ∷ js))) (sym welcome) t
other-heard s all ps js now bytes said.Granted none says welcome t = t
other-heard s all ps js now bytes said.Other none says welcome t = t

abbrev calls : Setup → List (Option HeardData) → List node.Input
calls s told = node_calls (asked told) s.config.group s.config.node

other-item : (s : Setup) (all : List run.Message) (ps : List ℕ) (item : Item) (t : Option HeardData) (before : List (Option HeardData)) →
    IsNoMessageOf s.config.group s.config.node item.bytes → IsToldBy item t → IsWelcome t → IsTold s all ps (calls s before) → IsTold s all ps (calls s (t ∷ before))
other-item s all ps item None before none by welcome t = ticked s all ps (calls s before) (length before + 1) t
other-item s all ps item (Some heard) before none by welcome t =
    ticked s all ps _ (length before + 1) (other-heard s all ps (calls s before) (length before + 1) item.bytes heard none by welcome t)

-- ---- an item that is a numbered message of the node

pub numbered-item : (s : Setup) (all : List run.Message) (ps : List ℕ) (item : Item) (p : ℕ) (m : run.Message) (t : Option HeardData) (before : List (Option HeardData)) →
    ReadsMessage s all p m item.bytes → IsToldBy item t → IsTold s all ps (calls s before) → IsTold s all (p ∷ ps) (calls s (t ∷ before))
numbered-item s all ps item p m None before r by t = absurd (r.alone.unrefused by.0 by.1)
numbered-item s all ps item p m (Some heard) before r by t =
    subst (λ x. IsTold s all (p ∷ ps) (calls s (Some x ∷ before))) (sym (r.alone.only heard by))
    (ticked s all (p ∷ ps) _ (length before + 1)
    (subst (λ b. IsTold s all (p ∷ ps) (cond b (node.Comes r.read (length before + 1) ∷ calls s before) (calls s before))) (sym same)
    (came s all ps (calls s before) p (length before + 1) m r.read r.is t)))
  where
    same : is_same s.config.group s.config.node r.read.group r.read.node ≡ true
    same = and_from _ _ ((bytes_eq-Decides s.config.group r.read.group).1 (sym r.is.group)) ((bytes_eq-Decides s.config.node r.read.node).1 (sym r.is.node))

-- ---- the last item

pub record LastTold (xs : List Item) (x : Item) (ts : List (Option HeardData)) : Type 0 where
  pub before : List (Option HeardData)
  pub last : Option HeardData
  pub parts : ts ≡ before ++ last ∷ []
  pub told : AreToldBy xs before
  pub is : IsToldBy x last

pub last-told : (xs : List Item) (x : Item) (ts : List (Option HeardData)) → AreToldBy (xs ++ x ∷ []) ts → LastTold xs x ts
last-told [] x [] by = absurd by
last-told [] x (t ∷ []) by = record { before = []; last = t; parts = refl; told = tt; is = by.0 }
last-told [] x (t ∷ u ∷ ts) by = absurd by.1
last-told (y ∷ xs) x [] by = absurd by
last-told (y ∷ xs) x (t ∷ ts) by = let l = last-told xs x ts by.1 in record { before = t ∷ l.before; last = l.last; parts = ap (λ us. t ∷ us) l.parts; told = (by.0, l.told); is = l.is }

pub newest : (ts : List (Option HeardData)) (t : Option HeardData) → reverse (ts ++ t ∷ []) ≡ t ∷ reverse ts
newest ts t = reverse-append ts (t ∷ [])

-- ---- a log

module _ (f : Facts) (pf : PacketFacts) (limit edges k : ℕ) (small : limit ≤ 65535) (s : Setup) (inputs : List edge.Input) (names : HasNames s) (unreserved : IsUnreserved s) (whole : AllWhole s (published (run_of s inputs)))
    (reads : (p : ℕ) (m : run.Message) (bytes : List ℕ) → slice_get (published (run_of s inputs)) p ≡ Some m → IsWhole bytes s.config (number_at s (published (run_of s inputs)) p) m.draft → ReadsMessage s (published (run_of s inputs)) p m bytes) where
  abbrev all : List run.Message
  all = published (run_of s inputs)

  -- the tellings of a share's frames, at any moment of the log
  abbrev Taking : List Entry → Type 0
  Taking l = (q : ℕ) × Tells s all (share_of k (taken_of l)) 0 q

  accepted-here : (l : List Entry) (o : Offer) (rest : List Offer) (x : Item) (t : Option HeardData) (before : List (Option HeardData)) (b : Bool) → is_relaying (on_of s) k l ≡ b → x.bytes ≡ o.bytes →
      ((b ≡ true) → Carry s all (count_numbered (on_of s) k l - 1) (o ∷ rest)) → (b ≡ false → IsNoMessageOf s.config.group s.config.node o.bytes) → IsToldBy x t → IsWelcome t →
      IsTold s all (shown (on_of s) k edges l) (calls s before) →
      IsTold s all (cond b ((count_numbered (on_of s) k l - 1) ∷ shown (on_of s) k edges l) (shown (on_of s) k edges l)) (calls s (t ∷ before))
  accepted-here l o rest x t before true at same carry other by welcome told =
      let c = carry refl in
      numbered-item s all (shown (on_of s) k edges l) x (count_numbered (on_of s) k l - 1) c.message t before
      (subst (λ bytes. ReadsMessage s all (count_numbered (on_of s) k l - 1) c.message bytes) (sym (same ∙ c.bytes.0)) (reads (count_numbered (on_of s) k l - 1) c.message _ c.there (whole (count_numbered (on_of s) k l - 1) c.message c.there))) by told
  accepted-here l o rest x t before false at same carry other by welcome told =
      other-item s all (shown (on_of s) k edges l) x t before (subst (λ bytes. IsNoMessageOf s.config.group s.config.node bytes) (sym same) (other refl)) by welcome told

  told-of : (l : List Entry) (ts : List (Option HeardData)) (q : ℕ) → IsLog limit edges l → AllMaySay (on_of s) k edges l → HasPlaces limit edges l → Tells s all (share_of k (taken_of l)) 0 q →
      AreOthers (on_of s) k edges s.config.group s.config.node l → AreToldBy (got_of edges l) ts → AreWelcome (reverse ts) → IsTold s all (shown (on_of s) k edges l) (calls s (reverse ts))
  told-of [] [] q log says room t others by welcome = record { inputs = []; read = tt; deaths = tt; shown = refl }
  told-of [] (x ∷ ts) q log says room t others by welcome = absurd by
  told-of (Took m i ∷ l) ts q log says room t others by welcome = before (eqb m.sender k) refl (λ r u. told-of l ts r log.0 says.1 room.1 u others by welcome)
    where
      before : (b : Bool) → eqb m.sender k ≡ b → ((r : ℕ) → Tells s all (share_of k (taken_of l)) 0 r → IsTold s all (shown (on_of s) k edges l) (calls s (reverse ts))) → IsTold s all (shown (on_of s) k edges l) (calls s (reverse ts))
      before true own rest =
          let last = tells-last s all (share_of k (taken_of l)) m.frame 0 q (subst (λ fs. Tells s all fs 0 q) (share-own k (taken_of l) m own) t) in
          rest last.middle last.before
      before false other rest = rest q (subst (λ fs. Tells s all fs 0 q) (share-other k (taken_of l) m other) t)
  told-of (Accepted j o ∷ l) ts q log says room t others by welcome = at (eqb j edges) refl (λ us v w. told-of l us q log.0 says room t others.1 v w) by
    where
      x : Item
      x = record { bytes = o.bytes; cuts = Rattle.spk_plant_broker.specs.Step.cuts_in edges (taken_of l) }

      at : (b : Bool) → eqb j edges ≡ b → ((us : List (Option HeardData)) → AreToldBy (got_of edges l) us → AreWelcome (reverse us) → IsTold s all (shown (on_of s) k edges l) (calls s (reverse us)))
          → AreToldBy (cond b (got_of edges l ++ x ∷ []) (got_of edges l)) ts
          → IsTold s all (cond (b && is_relaying (on_of s) k l) ((count_numbered (on_of s) k l - 1) ∷ shown (on_of s) k edges l) (shown (on_of s) k edges l)) (calls s (reverse ts))
      at false other rest by = rest ts by welcome
      at true own rest by =
          let last = last-told (got_of edges l) x ts by in
          let is : reverse ts ≡ last.last ∷ reverse last.before = ap (λ us. reverse us) last.parts ∙ newest last.before last.last in
          let good : AreWelcome (last.last ∷ reverse last.before) = subst AreWelcome is welcome in
          subst (λ us. IsTold s all (cond (is_relaying (on_of s) k l) ((count_numbered (on_of s) k l - 1) ∷ shown (on_of s) k edges l) (shown (on_of s) k edges l)) (calls s us)) (sym is)
          (accepted-here l o log.1.0.0 x last.last (reverse last.before) (is_relaying (on_of s) k l) refl refl
          (λ busy. subst (λ os. Carry s all (count_numbered (on_of s) k l - 1) os) log.1.0.1 (carry-of f pf limit edges k s all small l q log.0 says room t busy))
          (λ idle. others.0 (eqb-true j edges own) idle) last.is good.0 (rest last.before last.told good.1))
  told-of (Refused j o ∷ l) ts q log says room t others by welcome = told-of l ts q log.0 says room t others by welcome
  told-of (Passed o ∷ l) ts q log says room t others by welcome = told-of l ts q log.0 says room t others by welcome
  told-of (Told o ∷ l) ts q log says room t others by welcome = told-of l ts q log.0 says room t others by welcome

  pub all-told : (l : List Entry) (ts : List (Option HeardData)) (q : ℕ) → IsLog limit edges l → AllMaySay (on_of s) k edges l → HasPlaces limit edges l → Tells s all (share_of k (taken_of l)) 0 q →
      AreOthers (on_of s) k edges s.config.group s.config.node l → AreToldBy (got_of edges l) ts → AreWelcome (reverse ts) → IsTold s all (shown (on_of s) k edges l) (calls s (reverse ts))
  all-told = told-of
