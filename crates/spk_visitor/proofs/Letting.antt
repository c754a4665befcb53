-- What goes on is let.
use Rattle.std.proofs.Common.{◌≡◌, ◌⊎◌, ◌∙◌, sym, ap, refl, subst, inl, inr, ℕ, List, [], ◌∷◌, Bool, true, false, Option, Some}
use Rattle.std.specs.Prelude.{if◌then◌else◌, length, nat_le}
use Rattle.std.specs.List.{filter, list_all}
use Rattle.std.proofs.lemmas.List.Folds.{list_all-map}
use Rattle.spk_packets.specs.Message.{Message, WillData, Connect, ConnAck, Publish, PubAck, Subscribe, SubAck, Unsubscribe, UnsubAck, PingReq, PingResp, Disconnect}
use Rattle.spk_access.specs.Rights.{RightsData, may_publish, may_subscribe}
use Rattle.spk_door.specs.Data.{DoorData, EntryData, VerdictData}
use Rattle.spk_door.specs.Data as door
use Rattle.spk_door.specs.Rules.{allowed, entry, judged, lets, lets_will}
use Rattle.spk_visitor.specs.Data.{Outcome, StageData, Outside, Inside, Over, Goes, Closes, Refuses}
use Rattle.spk_visitor.specs.Rules.{admitted, client_of, cut_off, ends, entered, first, further, login_of, outcome, subscribe_of}
use Rattle.spk_visitor.proofs.Outcomes.{some-same}

-- somebody whose outcome this is may do something by which this may be sent
abbrev pub IsLet : Bool → Outcome → Message → Type 0
IsLet guard o q = (r : RightsData) × (o.stage ≡ Inside r) × (lets r guard q ≡ true)

let-will : (b : Bool) (r : RightsData) (guard : Bool) (client : List ℕ) (clean : Bool) (keep : ℕ) (will : Option WillData) (q : Message) → lets_will r guard will ≡ b
    → (if b then record { stage = Inside r; passes = Some (Connect client clean keep will); answer = Goes } else ends Closes).passes ≡ Some q
    → IsLet guard (if b then record { stage = Inside r; passes = Some (Connect client clean keep will); answer = Goes } else ends Closes) q
let-will true r guard client clean keep will q e h = (r, refl, subst (λ m. lets r guard m ≡ true) (some-same _ _ h) e)
let-will false r guard client clean keep will q e h = cc

let-named : (b : Bool) (r : RightsData) (guard : Bool) (client : List ℕ) (clean : Bool) (keep : ℕ) (will : Option WillData) (q : Message)
    → (if b then admitted r guard client clean keep will else ends (Refuses 2)).passes ≡ Some q → IsLet guard (if b then admitted r guard client clean keep will else ends (Refuses 2)) q
let-named true r guard client clean keep will q h = let-will (lets_will r guard will) r guard client clean keep will q refl h
let-named false r guard client clean keep will q h = cc

let-entered : (d : DoorData) (client : List ℕ) (clean : Bool) (keep : ℕ) (will : Option WillData) (e : EntryData) (q : Message)
    → (entered d client clean keep will e).passes ≡ Some q → IsLet d.guard (entered d client clean keep will e) q
let-entered d client clean keep will (door.Comes user r) q h =
    let-named (nat_le (length (client_of user client)) 65535) r d.guard (client_of user client) clean keep will q h
let-entered d client clean keep will (door.Refused code) q h = cc

let-first : (d : DoorData) (packet : List ℕ) (p q : Message) → (first d packet p).passes ≡ Some q → IsLet d.guard (first d packet p) q
let-first d packet (Connect client clean keep will) q h = let-entered d client clean keep will (entry d client (login_of packet)) q h
let-first d packet (ConnAck present code) q h = cc
let-first d packet (Publish dup qos retain topic id payload) q h = cc
let-first d packet (PubAck id) q h = cc
let-first d packet (Subscribe id entries) q h = cc
let-first d packet (SubAck id codes) q h = cc
let-first d packet (Unsubscribe id filters) q h = cc
let-first d packet (UnsubAck id) q h = cc
let-first d packet PingReq q h = cc
let-first d packet PingResp q h = cc
let-first d packet Disconnect q h = cc

-- a SUBSCRIBE may be sent, whatever it says
let-subscribe : (r : RightsData) (guard : Bool) (id : ℕ) (es : List (List ℕ × ℕ)) (q : Message) → subscribe_of id es ≡ Some q → lets r guard q ≡ true
let-subscribe r guard id [] q h = cc
let-subscribe r guard id (e ∷ es) q h = subst (λ m. lets r guard m ≡ true) (some-same _ _ h) refl

let-cut : (r : RightsData) (guard : Bool) (each : List Bool) (p q : Message) → (cut_off r each p).passes ≡ Some q → IsLet guard (cut_off r each p) q
let-cut r guard each (Connect client clean keep will) q h = cc
let-cut r guard each (ConnAck present code) q h = cc
let-cut r guard each (Publish dup qos retain topic id payload) q h = cc
let-cut r guard each (PubAck id) q h = cc
let-cut r guard each (Subscribe id entries) q h = (r, refl, let-subscribe r guard id (filter (λ (e : List ℕ × ℕ). may_subscribe r e.0) entries) q h)
let-cut r guard each (SubAck id codes) q h = cc
let-cut r guard each (Unsubscribe id filters) q h = cc
let-cut r guard each (UnsubAck id) q h = cc
let-cut r guard each PingReq q h = cc
let-cut r guard each PingResp q h = cc
let-cut r guard each Disconnect q h = cc

let-further : (r : RightsData) (guard : Bool) (p q : Message) (v : VerdictData) → (v ≡ door.Passes → lets r guard p ≡ true) → (further r p v).passes ≡ Some q → IsLet guard (further r p v) q
let-further r guard p q door.Passes passed h = (r, refl, subst (λ m. lets r guard m ≡ true) (some-same _ _ h) (passed refl))
let-further r guard p q (door.Cuts each) passed h = let-cut r guard each p q h
let-further r guard p q door.Closes passed h = cc

pub let-sent : ((r : RightsData) (guard : Bool) (p : Message) → judged r guard p ≡ door.Passes → lets r guard p ≡ true)
    → (d : DoorData) (s : StageData) (packet : List ℕ) (p q : Message) → (outcome d s packet p).passes ≡ Some q → IsLet d.guard (outcome d s packet p) q
let-sent passed d Outside packet p q h = let-first d packet p q h
let-sent passed d (Inside r) packet p q h = let-further r d.guard p q (judged r d.guard p) (passed r d.guard p) h
let-sent passed d Over packet p q h = cc

-- ---- filters

filtered_here : {X : Type 0} (b : Bool) (t : X → Bool) (x : X) (xs : List X) → t x ≡ b → list_all t (filter t xs) ≡ true → list_all t (filter t (x ∷ xs)) ≡ true
filtered_here true t x xs e ih = rw e (rw e ih)
filtered_here false t x xs e ih = rw e ih

all-filtered : {X : Type 0} (t : X → Bool) (xs : List X) → list_all t (filter t xs) ≡ true
all-filtered t [] = refl
all-filtered t (x ∷ xs) = filtered_here (t x) t x xs refl (all-filtered t xs)

entries-of : (id other : ℕ) (es entries : List (List ℕ × ℕ)) → subscribe_of other es ≡ Some (Subscribe id entries) → es ≡ entries
entries-of id other [] entries h = cc
entries-of id other (e ∷ es) entries h = cc

-- of a SUBSCRIBE
subscribed : (r : RightsData) (other id : ℕ) (es entries : List (List ℕ × ℕ)) (b : Bool) → list_all (λ a. a) (allowed r es) ≡ b
    → (further r (Subscribe other es) (if b then door.Passes else door.Cuts (allowed r es))).passes ≡ Some (Subscribe id entries)
    → list_all (λ (e : List ℕ × ℕ). may_subscribe r e.0) entries ≡ true
subscribed r other id es entries true all h =
    let same : es ≡ entries = cc in
    ap (list_all (λ (e : List ℕ × ℕ). may_subscribe r e.0)) (sym same) ∙ sym (list_all-map (λ a. a) (λ (e : List ℕ × ℕ). may_subscribe r e.0) es) ∙ all
subscribed r other id es entries false all h =
    ap (list_all (λ (e : List ℕ × ℕ). may_subscribe r e.0)) (sym (entries-of id other (filter (λ (e : List ℕ × ℕ). may_subscribe r e.0) es) entries h))
    ∙ all-filtered (λ (e : List ℕ × ℕ). may_subscribe r e.0) es

published : (r : RightsData) (p : Message) (id : ℕ) (entries : List (List ℕ × ℕ)) (b : Bool) (B : Type 0) → (Some p ≡ Some (Subscribe id entries) → B)
    → (further r p (if b then door.Passes else door.Closes)).passes ≡ Some (Subscribe id entries) → B
published r p id entries true B f h = f h
published r p id entries false B f h = cc

pub let-filters : (d : DoorData) (r : RightsData) (packet : List ℕ) (p : Message) (id : ℕ) (entries : List (List ℕ × ℕ)) → (outcome d (Inside r) packet p).passes ≡ Some (Subscribe id entries)
    → list_all (λ (e : List ℕ × ℕ). may_subscribe r e.0) entries ≡ true
let-filters d r packet (Connect client clean keep will) id entries h = cc
let-filters d r packet (ConnAck present code) id entries h = cc
let-filters d r packet (Publish dup qos retain topic n payload) id entries h =
    published r (Publish dup qos retain topic n payload) id entries (may_publish r d.guard topic) (list_all (λ (e : List ℕ × ℕ). may_subscribe r e.0) entries ≡ true) (λ e. cc) h
let-filters d r packet (PubAck n) id entries h = cc
let-filters d r packet (Subscribe n es) id entries h = subscribed r n id es entries (list_all (λ a. a) (allowed r es)) refl h
let-filters d r packet (SubAck n codes) id entries h = cc
let-filters d r packet (Unsubscribe n filters) id entries h = cc
let-filters d r packet (UnsubAck n) id entries h = cc
let-filters d r packet PingReq id entries h = cc
let-filters d r packet PingResp id entries h = cc
let-filters d r packet Disconnect id entries h = cc

-- ---- how a client stands

cut-stays : (r : RightsData) (each : List Bool) (p : Message) → ((cut_off r each p).stage ≡ Inside r) ⊎ ((cut_off r each p).stage ≡ Over)
cut-stays r each (Connect client clean keep will) = inr refl
cut-stays r each (ConnAck present code) = inr refl
cut-stays r each (Publish dup qos retain topic id payload) = inr refl
cut-stays r each (PubAck id) = inr refl
cut-stays r each (Subscribe id entries) = inl refl
cut-stays r each (SubAck id codes) = inr refl
cut-stays r each (Unsubscribe id filters) = inr refl
cut-stays r each (UnsubAck id) = inr refl
cut-stays r each PingReq = inr refl
cut-stays r each PingResp = inr refl
cut-stays r each Disconnect = inr refl

further-stays : (r : RightsData) (p : Message) (v : VerdictData) → ((further r p v).stage ≡ Inside r) ⊎ ((further r p v).stage ≡ Over)
further-stays r p door.Passes = inl refl
further-stays r p (door.Cuts each) = cut-stays r each p
further-stays r p door.Closes = inr refl

pub let-stays : (d : DoorData) (r : RightsData) (packet : List ℕ) (p : Message) → ((outcome d (Inside r) packet p).stage ≡ Inside r) ⊎ ((outcome d (Inside r) packet p).stage ≡ Over)
let-stays d r packet p = further-stays r p (judged r d.guard p)
