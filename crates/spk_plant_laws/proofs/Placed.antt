-- The positions that the host's ring got along a log are those that the lists of the report give.
use Rattle.std.proofs.Common.{◌≡◌, ◌⊎◌, inl, inr, sym, ap, refl, subst, ◌∙◌, ℕ, ◌+◌, ◌-◌, ◌<◌, ◌≤◌, Bool, true, false, ◌&&◌, cond, eqb, List, [], ◌∷◌, ◌++◌, length, reverse, take, Option, Some, None, arith, true≢false, eqb-true, append_assoc}
use Rattle.std.proofs.lemmas.Bool.{and_right}
use Rattle.std.proofs.lemmas.List.{reverse-append}
use Rattle.spk_ingress.specs.declared.frame.Frame.{Frame}
use Rattle.spk_ingress.specs.declared.frame.Frame.TheVariants as frame
use Rattle.spk_ingress.specs.declared.rule.Message.{Message}
use Rattle.spk_rings.specs.declared.item.Item.{Item}
use Rattle.spk_sequence.specs.HostRecord as position
use Rattle.spk_reading.specs.Data as said
use Rattle.spk_reading.specs.Data.{HeardData}
use Rattle.spk_plant_broker.specs.Data.{Input, Says, Breaks, Cuts, Ends, Offer, Entry, Took, Accepted, Refused, Passed, Told}
use Rattle.spk_plant_broker.specs.Log.{IsLog, Means, accepted_of, got_of, taken_of}
use Rattle.spk_plant_broker.specs.Step.{cuts_in}
use Rattle.spk_host.specs.Inputs.{is_same, node_calls, with_heard}
use Rattle.spk_host_node.specs.Inputs as node
use Rattle.spk_plant_host.specs.Told.{AreToldBy, IsToldBy, asked}
use Rattle.spk_edge_rules.specs.Config.{Setup}
use Rattle.spk_edge_rules.specs.Run as edge
use Rattle.spk_heard.specs.Read.{AreRead}
use Rattle.spk_plant_relay.specs.Given.{AreOthers, IsNoMessageOf}
use Rattle.spk_plant_relay.specs.Relayed.{positions_in}
use Rattle.spk_plant_relay.specs.Shown.{count_numbered, is_numbered, is_on, is_relaying, shown}
use Rattle.spk_plant_relay.proofs.Heard.{last-told, newest}
use Rattle.spk_plant_relay.proofs.Tells.{PacketFacts, one-reading}
use Rattle.spk_plant_given.specs.Numbered.{AreNumbered, IsNumberedFrame}
use Rattle.spk_plant_given.specs.Part.{is_message_of}
use Rattle.spk_plant_laws.specs.Placed.{ArePlaced}

no-yes : false ≡ true → ⊥
no-yes e = true≢false (sym e)

-- ---- there are no two such counts, and no two such lists

pub one-count : (on : List ℕ → Bool) (k : ℕ) (ms : List Message) (m n : ℕ) → AreNumbered on k ms m → AreNumbered on k ms n → m ≡ n
one-count on k [] m n x y = x ∙ sym y
one-count on k (f ∷ ms) m n (inl x) (inl y) = x.1.1 ∙ (ap (λ i. i + 1) (one-count on k ms x.1.0 y.1.0 x.1.2 y.1.2) ∙ sym y.1.1)
one-count on k (f ∷ ms) m n (inl x) (inr y) = absurd (y.0 x.0)
one-count on k (f ∷ ms) m n (inr x) (inl y) = absurd (x.0 y.0)
one-count on k (f ∷ ms) m n (inr x) (inr y) = one-count on k ms m n x.1 y.1

same-less : (p q : ℕ) → p + 1 ≡ q + 1 → p ≡ q
same-less p q e = omega (arith, e)

pub one-list : (on : List ℕ → Bool) (k : ℕ) (group name : List ℕ) (taken : List Message) (told : List (Option HeardData)) (counts ps qs : List ℕ) →
    ArePlaced on k group name taken told counts ps → ArePlaced on k group name taken told counts qs → ps ≡ qs
one-list on k group name taken [] [] ps qs x y = x ∙ sym y
one-list on k group name taken [] (n ∷ counts) ps qs x y = absurd x
one-list on k group name taken (t ∷ told) [] ps qs x y = absurd x
one-list on k group name taken (t ∷ told) (n ∷ counts) ps qs x y = by (is_message_of group name t) ps qs x y (one-list on k group name taken told counts)
  where
    by : (b : Bool) (ps qs : List ℕ) → Rattle.spk_plant_laws.specs.Placed.IsPlaced on k b (take n taken) (ArePlaced on k group name taken told counts) ps →
        Rattle.spk_plant_laws.specs.Placed.IsPlaced on k b (take n taken) (ArePlaced on k group name taken told counts) qs →
        ((as_ bs : List ℕ) → ArePlaced on k group name taken told counts as_ → ArePlaced on k group name taken told counts bs → as_ ≡ bs) → ps ≡ qs
    by true [] qs x y rest = absurd x
    by true (p ∷ ps) [] x y rest = absurd y
    by true (p ∷ ps) (q ∷ qs) x y rest =
        ap (λ i. i ∷ ps) (same-less p q (one-count on k (take n taken) (p + 1) (q + 1) x.0 y.0)) ∙ ap (λ l. q ∷ l) (rest ps qs x.1 y.1)
    by false ps qs x y rest = rest ps qs x y

-- ---- how many messages of a node were told

abbrev pub messages_in : (group name : List ℕ) → List (Option HeardData) → ℕ
messages_in group name [] = 0
messages_in group name (t ∷ told) = cond (is_message_of group name t) (messages_in group name told + 1) (messages_in group name told)

abbrev pub comes_in : List node.Input → ℕ
comes_in [] = 0
comes_in (node.Comes m now ∷ is) = comes_in is + 1
comes_in (node.Dies bd ∷ is) = comes_in is
comes_in (node.Ticks now ∷ is) = comes_in is
comes_in (node.Ends ∷ is) = comes_in is

heard-comes : (group name : List ℕ) (heard : HeardData) (now : ℕ) (is : List node.Input) →
    comes_in (with_heard heard now group name is) ≡ cond (is_message_of group name (Some heard)) (comes_in is + 1) (comes_in is)
heard-comes group name (said.Published ack (said.Message m)) now is = by (is_same group name m.group m.node)
  where
    by : (b : Bool) → comes_in (cond b (node.Comes m now ∷ is) is) ≡ cond b (comes_in is + 1) (comes_in is)
    by true = refl
    by false = refl
heard-comes group name (said.Published ack (said.Death other_group other_name bd)) now is = by (is_same group name other_group other_name)
  where
    by : (b : Bool) → comes_in (cond b (node.Dies bd ∷ is) is) ≡ comes_in is
    by true = refl
    by false = refl
heard-comes group name (said.Published ack said.Nothing) now is = refl
heard-comes group name (said.Answered code) now is = by (eqb code 0)
  where
    by : (b : Bool) → comes_in (cond b is (node.Ends ∷ is)) ≡ comes_in is
    by true = refl
    by false = refl
heard-comes group name said.Granted now is = refl
heard-comes group name said.Other now is = refl

told-comes : (group name : List ℕ) (told : List (Option HeardData)) → comes_in (node_calls (asked told) group name) ≡ messages_in group name told
told-comes group name [] = refl
told-comes group name (None ∷ told) = told-comes group name told
told-comes group name (Some heard ∷ told) =
    heard-comes group name heard (length told + 1) (node_calls (asked told) group name)
    ∙ ap (λ n. cond (is_message_of group name (Some heard)) (n + 1) n) (told-comes group name told)

read-comes : (s : Setup) (all : List edge.Message) (is : List position.Input) (js : List node.Input) → AreRead s all is js → length (positions_in is) ≡ comes_in js
read-comes s all [] [] read = refl
read-comes s all [] (j ∷ js) read = absurd read
read-comes s all (i ∷ is) [] read = absurd read
read-comes s all (position.MessageComes p now ∷ is) (node.Comes m at ∷ js) read = let e = read-comes s all is js read.1 in omega (arith, e)
read-comes s all (position.MessageComes p now ∷ is) (node.Dies bd ∷ js) read = absurd read.0
read-comes s all (position.MessageComes p now ∷ is) (node.Ticks at ∷ js) read = absurd read.0
read-comes s all (position.MessageComes p now ∷ is) (node.Ends ∷ js) read = absurd read.0
read-comes s all (position.DeathComes session now ∷ is) (node.Comes m at ∷ js) read = absurd read.0
read-comes s all (position.DeathComes session now ∷ is) (node.Dies bd ∷ js) read = read-comes s all is js read.1
read-comes s all (position.DeathComes session now ∷ is) (node.Ticks at ∷ js) read = absurd read.0
read-comes s all (position.DeathComes session now ∷ is) (node.Ends ∷ js) read = absurd read.0
read-comes s all (position.TickComes now ∷ is) (node.Comes m at ∷ js) read = absurd read.0
read-comes s all (position.TickComes now ∷ is) (node.Dies bd ∷ js) read = absurd read.0
read-comes s all (position.TickComes now ∷ is) (node.Ticks at ∷ js) read = read-comes s all is js read.1
read-comes s all (position.TickComes now ∷ is) (node.Ends ∷ js) read = absurd read.0

-- as many as there are positions
pub read-messages : (s : Setup) (all : List edge.Message) (is : List position.Input) (told : List (Option HeardData)) (ps : List ℕ) (group name : List ℕ) →
    AreRead s all is (node_calls (asked told) group name) → positions_in is ≡ ps → messages_in group name told ≡ length ps
read-messages s all is told ps group name read same = sym (told-comes group name told) ∙ (sym (read-comes s all is (node_calls (asked told) group name) read) ∙ ap (λ xs. length xs) same)

-- ---- how many numbered frames were taken

one-more : (on : List ℕ → Bool) (k : ℕ) (ms : List Message) (m : Message) (n : ℕ) → IsNumberedFrame on k m → AreNumbered on k ms n → AreNumbered on k (ms ++ m ∷ []) (n + 1)
one-more on k [] m n is x = inl (is, (n, refl, x))
one-more on k (f ∷ ms) m n is (inl x) = inl (x.0, (x.1.0 + 1, ap (λ i. i + 1) x.1.1, one-more on k ms m x.1.0 is x.1.2))
one-more on k (f ∷ ms) m n is (inr x) = inr (x.0, one-more on k ms m n is x.1)

no-more : (on : List ℕ → Bool) (k : ℕ) (ms : List Message) (m : Message) (n : ℕ) → (IsNumberedFrame on k m → ⊥) → AreNumbered on k ms n → AreNumbered on k (ms ++ m ∷ []) n
no-more on k [] m n not x = inr (not, x)
no-more on k (f ∷ ms) m n not (inl x) = inl (x.0, (x.1.0, x.1.1, no-more on k ms m x.1.0 not x.1.2))
no-more on k (f ∷ ms) m n not (inr x) = inr (x.0, no-more on k ms m n not x.1)

-- a frame says one thing
one-meaning : PacketFacts → (on : List ℕ → Bool) (f : Frame) (i j : Input) → Means f i → Means f j → is_on on i ≡ is_on on j
one-meaning facts on (frame.Packet bytes) (Says p) (Says q) x y = ap (λ w. is_on on (Says w)) (sym (one-reading facts bytes p q x y))
one-meaning facts on (frame.Packet bytes) (Says p) (Breaks g) x y = absurd y
one-meaning facts on (frame.Packet bytes) (Says p) Cuts x y = absurd y
one-meaning facts on (frame.Packet bytes) (Says p) Ends x y = absurd y
one-meaning facts on (frame.Packet bytes) (Breaks g) j x y = absurd x
one-meaning facts on (frame.Packet bytes) Cuts j x y = absurd x
one-meaning facts on (frame.Packet bytes) Ends j x y = absurd x
one-meaning facts on (frame.Fault g) (Says p) j x y = absurd x
one-meaning facts on (frame.Fault g) (Breaks h) (Says q) x y = absurd y
one-meaning facts on (frame.Fault g) (Breaks h) (Breaks z) x y = refl
one-meaning facts on (frame.Fault g) (Breaks h) Cuts x y = refl
one-meaning facts on (frame.Fault g) (Breaks h) Ends x y = refl
one-meaning facts on (frame.Fault g) Cuts j x y = absurd x
one-meaning facts on (frame.Fault g) Ends j x y = absurd x
one-meaning facts on frame.Cut (Says p) j x y = absurd x
one-meaning facts on frame.Cut (Breaks g) j x y = absurd x
one-meaning facts on frame.Cut Cuts (Says q) x y = absurd y
one-meaning facts on frame.Cut Cuts (Breaks z) x y = refl
one-meaning facts on frame.Cut Cuts Cuts x y = refl
one-meaning facts on frame.Cut Cuts Ends x y = refl
one-meaning facts on frame.Cut Ends j x y = absurd x
one-meaning facts on frame.End (Says p) j x y = absurd x
one-meaning facts on frame.End (Breaks g) j x y = absurd x
one-meaning facts on frame.End Cuts j x y = absurd x
one-meaning facts on frame.End Ends (Says q) x y = absurd y
one-meaning facts on frame.End Ends (Breaks z) x y = refl
one-meaning facts on frame.End Ends Cuts x y = refl
one-meaning facts on frame.End Ends Ends x y = refl

counted-of : PacketFacts → (limit edges : ℕ) (on : List ℕ → Bool) (k : ℕ) (l : List Entry) → IsLog limit edges l → AreNumbered on k (taken_of l) (count_numbered on k l)
counted-of facts limit edges on k [] log = refl
counted-of facts limit edges on k (Took m i ∷ l) log = by (is_numbered on k m i) refl (counted-of facts limit edges on k l log.0)
  where
    by : (b : Bool) → is_numbered on k m i ≡ b → AreNumbered on k (taken_of l) (count_numbered on k l) → AreNumbered on k (taken_of l ++ m ∷ []) (cond b (count_numbered on k l + 1) (count_numbered on k l))
    by true is x = one-more on k (taken_of l) m (count_numbered on k l) (i, log.1.0, is) x
    by false is x = no-more on k (taken_of l) m (count_numbered on k l)
        (λ f. no-yes (sym is ∙ (ap (λ b. eqb m.sender k && b) (one-meaning facts on m.frame i f.0 log.1.0 f.1) ∙ f.2))) x
counted-of facts limit edges on k (Accepted j o ∷ l) log = counted-of facts limit edges on k l log.0
counted-of facts limit edges on k (Refused j o ∷ l) log = counted-of facts limit edges on k l log.0
counted-of facts limit edges on k (Passed o ∷ l) log = counted-of facts limit edges on k l log.0
counted-of facts limit edges on k (Told o ∷ l) log = counted-of facts limit edges on k l log.0

-- what is relayed was taken
some-taken : (on : List ℕ → Bool) (k : ℕ) (l : List Entry) → is_relaying on k l ≡ true → 0 < count_numbered on k l
some-taken on k [] e = absurd (no-yes e)
some-taken on k (Took m i ∷ l) e = by (is_numbered on k m i) e
  where
    by : (b : Bool) → b ≡ true → 0 < cond b (count_numbered on k l + 1) (count_numbered on k l)
    by true e = omega arith
    by false e = absurd (no-yes e)
some-taken on k (Accepted j o ∷ l) e = some-taken on k l e
some-taken on k (Refused j o ∷ l) e = some-taken on k l e
some-taken on k (Passed o ∷ l) e = some-taken on k l e
some-taken on k (Told o ∷ l) e = absurd (no-yes e)

-- ---- what else the ring got

no-message : (group name : List ℕ) (item : Item) (t : Option HeardData) → IsNoMessageOf group name item.bytes → IsToldBy item t → is_message_of group name t ≡ false
no-message group name item (Some (said.Published ack (said.Message m))) none by = none ack m by
no-message group name item (Some (said.Published ack (said.Death other_group other_name bd))) none by = refl
no-message group name item (Some (said.Published ack said.Nothing)) none by = refl
no-message group name item (Some (said.Answered code)) none by = refl
no-message group name item (Some said.Granted) none by = refl
no-message group name item (Some said.Other) none by = refl
no-message group name item None none by = refl

-- ---- along a log

take-front : (xs ys : List Message) → take (length xs) (xs ++ ys) ≡ xs
take-front [] ys = refl
take-front (x ∷ xs) ys = ap (λ l. x ∷ l) (take-front xs ys)

-- No more messages of the node are told than positions are shown; and where as many are, these are their positions.
pub record Places (on : List ℕ → Bool) (k : ℕ) (group name : List ℕ) (taken : List Message) (told : List (Option HeardData)) (counts ps : List ℕ) : Type 0 where
  pub few : messages_in group name told ≤ length ps
  pub placed : messages_in group name told ≡ length ps → ArePlaced on k group name taken told counts ps

-- an item that is no message
pub places-other : (on : List ℕ → Bool) (k : ℕ) (group name : List ℕ) (taken : List Message) (told : List (Option HeardData)) (counts ps : List ℕ) (t : Option HeardData) (n : ℕ) →
    is_message_of group name t ≡ false → Places on k group name taken told counts ps → Places on k group name taken (t ∷ told) (n ∷ counts) ps
places-other on k group name taken told counts ps t n none pl = by (is_message_of group name t) none
  where
    by : (b : Bool) → b ≡ false → Places on k group name taken (t ∷ told) (n ∷ counts) ps
    by b e = record {
      few = subst (λ x. cond x (messages_in group name told + 1) (messages_in group name told) ≤ length ps) (sym none) pl.few;
      placed = λ same. subst (λ x. Rattle.spk_plant_laws.specs.Placed.IsPlaced on k x (take n taken) (ArePlaced on k group name taken told counts) ps) (sym none)
          (pl.placed (ap (λ x. cond x (messages_in group name told + 1) (messages_in group name told)) (sym none) ∙ same));
    }

-- an item behind which a numbered message was taken last
pub places-here : (on : List ℕ → Bool) (k : ℕ) (group name : List ℕ) (taken : List Message) (told : List (Option HeardData)) (counts ps : List ℕ) (t : Option HeardData) (n c : ℕ) →
    AreNumbered on k (take n taken) c → 0 < c → Places on k group name taken told counts ps → Places on k group name taken (t ∷ told) (n ∷ counts) ((c - 1) ∷ ps)
places-here on k group name taken told counts ps t n c so some pl = record { few = few (is_message_of group name t); placed = placed (is_message_of group name t) }
  where
    few : (b : Bool) → cond b (messages_in group name told + 1) (messages_in group name told) ≤ length ((c - 1) ∷ ps)
    few true = let x = pl.few in omega (arith, x)
    few false = let x = pl.few in omega (arith, x)

    less : c - 1 + 1 ≡ c
    less = omega (arith, some)

    placed : (b : Bool) → cond b (messages_in group name told + 1) (messages_in group name told) ≡ length ((c - 1) ∷ ps) →
        Rattle.spk_plant_laws.specs.Placed.IsPlaced on k b (take n taken) (ArePlaced on k group name taken told counts) ((c - 1) ∷ ps)
    placed true same = (subst (AreNumbered on k (take n taken)) (sym less) so, pl.placed (omega (arith, same)))
    placed false same = absurd (let x = pl.few in omega (arith, x, same))

pub places-of : PacketFacts → (limit edges : ℕ) (on : List ℕ → Bool) (k : ℕ) (group name : List ℕ) (taken : List Message) (l : List Entry) (more : List Message) (ts : List (Option HeardData)) →
    IsLog limit edges l → AreOthers on k edges group name l → taken ≡ taken_of l ++ more → AreToldBy (got_of edges l) ts →
    Places on k group name taken (reverse ts) (reverse (accepted_of edges l)) (shown on k edges l)
places-of facts limit edges on k group name taken [] more [] log others is by = record { few = omega arith; placed = λ same. refl }
places-of facts limit edges on k group name taken [] more (t ∷ ts) log others is by = absurd by
places-of facts limit edges on k group name taken (Took m i ∷ l) more ts log others is by =
    places-of facts limit edges on k group name taken l (m ∷ more) ts log.0 others (is ∙ append_assoc (taken_of l) (m ∷ []) more) by
places-of facts limit edges on k group name taken (Accepted j o ∷ l) more ts log others is by =
    at (eqb j edges) refl (λ us v. places-of facts limit edges on k group name taken l more us log.0 others.1 is v) by
  where
    x : Item
    x = record { bytes = o.bytes; cuts = cuts_in edges (taken_of l) }

    so : AreNumbered on k (take (length (taken_of l)) taken) (count_numbered on k l)
    so = subst (λ fs. AreNumbered on k fs (count_numbered on k l)) (sym (ap (take (length (taken_of l))) is ∙ take-front (taken_of l) more)) (counted-of facts limit edges on k l log.0)

    item : (b : Bool) → is_relaying on k l ≡ b → (b ≡ false → IsNoMessageOf group name o.bytes) → (t : Option HeardData) (before : List (Option HeardData)) → IsToldBy x t →
        Places on k group name taken before (reverse (accepted_of edges l)) (shown on k edges l) →
        Places on k group name taken (t ∷ before) (length (taken_of l) ∷ reverse (accepted_of edges l)) (cond b ((count_numbered on k l - 1) ∷ shown on k edges l) (shown on k edges l))
    item true at other t before told pl = places-here on k group name taken before (reverse (accepted_of edges l)) (shown on k edges l) t (length (taken_of l)) (count_numbered on k l) so (some-taken on k l at) pl
    item false at other t before told pl = places-other on k group name taken before (reverse (accepted_of edges l)) (shown on k edges l) t (length (taken_of l)) (no-message group name x t (other refl) told) pl

    at : (b : Bool) → eqb j edges ≡ b →
        ((us : List (Option HeardData)) → AreToldBy (got_of edges l) us → Places on k group name taken (reverse us) (reverse (accepted_of edges l)) (shown on k edges l)) →
        AreToldBy (cond b (got_of edges l ++ x ∷ []) (got_of edges l)) ts →
        Places on k group name taken (reverse ts) (reverse (cond b (accepted_of edges l ++ length (taken_of l) ∷ []) (accepted_of edges l)))
        (cond (b && is_relaying on k l) ((count_numbered on k l - 1) ∷ shown on k edges l) (shown on k edges l))
    at false other rest by = rest ts by
    at true own rest by =
        let last = last-told (got_of edges l) x ts by in
        subst (λ us. Places on k group name taken us (reverse (accepted_of edges l ++ length (taken_of l) ∷ [])) (cond (is_relaying on k l) ((count_numbered on k l - 1) ∷ shown on k edges l) (shown on k edges l)))
        (sym (ap (λ us. reverse us) last.parts ∙ newest last.before last.last))
        (subst (λ ns. Places on k group name taken (last.last ∷ reverse last.before) ns (cond (is_relaying on k l) ((count_numbered on k l - 1) ∷ shown on k edges l) (shown on k edges l)))
        (sym (reverse-append (accepted_of edges l) (length (taken_of l) ∷ [])))
        (item (is_relaying on k l) refl (λ idle. others.0 (eqb-true j edges own) idle) last.last (reverse last.before) last.is (rest last.before last.told)))
places-of facts limit edges on k group name taken (Refused j o ∷ l) more ts log others is by = places-of facts limit edges on k group name taken l more ts log.0 others is by
places-of facts limit edges on k group name taken (Passed o ∷ l) more ts log others is by = places-of facts limit edges on k group name taken l more ts log.0 others is by
places-of facts limit edges on k group name taken (Told o ∷ l) more ts log others is by = places-of facts limit edges on k group name taken l more ts log.0 others is by
