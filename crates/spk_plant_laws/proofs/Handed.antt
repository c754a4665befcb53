-- What the report says that the host was handed of a node is what it was told of the node, read at the positions that its ring got.
use Rattle.std.proofs.Common.{◌≡◌, ◌∙◌, ◌⊎◌, inl, inr, sym, ap, refl, subst, ℕ, suc, ◌+◌, ◌-◌, ◌*◌, ◌%◌, ◌<◌, ◌≤◌, Bool, true, false, cond, eqb, List, [], ◌∷◌, ◌++◌, length, reverse, take, get_or, Option, Some, None, arith, eq-eqb, eqb-true, append_assoc}
use Rattle.std.proofs.lemmas.List.{length-reverse, reverse-append}
use Rattle.spk_sequence.specs.Calls as call
use Rattle.spk_sequence.specs.Claims.{AllPublished}
use Rattle.spk_sequence.specs.HostRecord.{Input, MessageComes, DeathComes, TickComes}
use Rattle.spk_sequence.specs.NodeRecord.{Setting}
use Rattle.spk_ingress.specs.declared.rule.Message.{Message}
use Rattle.spk_reading.specs.Data as said
use Rattle.spk_reading.specs.Data.{HeardData}
use Rattle.spk_host.specs.Inputs.{is_same, node_calls, with_heard}
use Rattle.spk_host_node.specs.Inputs as node
use Rattle.spk_plant_host.specs.Told.{asked}
use Rattle.spk_edge_rules.specs.Config.{Setup}
use Rattle.spk_edge_rules.specs.Run as edge
use Rattle.spk_edge_rules.specs.Run.{session_number}
use Rattle.spk_tie.specs.Tie.{host_setting}
use Rattle.spk_heard.specs.Read.{AreRead, IsRead}
use Rattle.spk_plant_relay.specs.Given.{IsHeard}
use Rattle.spk_plant_relay.specs.Relayed.{AreEarlyDeaths, AreRising, IsRelayed, missing, positions_in}
use Rattle.spk_plant_given.specs.Handed.{AreHanded, IsNext, frames_before, moment_of, with_moments}
use Rattle.spk_plant_given.specs.Numbered.{AreNumbered}
use Rattle.spk_plant_given.specs.Part.{is_message_of, part_of}
use Rattle.spk_plant_given.specs.declared.part.Part.{Part}
use Rattle.spk_plant_given.specs.declared.part.Part.TheVariants as part
use Rattle.spk_plant_laws.specs.Placed.{ArePlaced, IsPlaced}
use Rattle.spk_plant_laws.proofs.Placed.{one-count}

-- ---- parts

abbrev pub is_message : Part → Bool
is_message part.Message = true
is_message (part.Death bd) = false
is_message part.Nothing = false

message-part : (group name : List ℕ) (t : Option HeardData) → is_message_of group name t ≡ is_message (part_of group name t)
message-part group name (Some (said.Published ack (said.Message m))) = by (is_same group name m.group m.node)
  where
    by : (b : Bool) → b ≡ is_message (cond b part.Message part.Nothing)
    by true = refl
    by false = refl
message-part group name (Some (said.Published ack (said.Death other_group other_name bd))) = by (is_same group name other_group other_name)
  where
    by : (b : Bool) → false ≡ is_message (cond b (part.Death bd) part.Nothing)
    by true = refl
    by false = refl
message-part group name (Some (said.Published ack said.Nothing)) = refl
message-part group name (Some (said.Answered code)) = refl
message-part group name (Some said.Granted) = refl
message-part group name (Some said.Other) = refl
message-part group name None = refl

-- what a node is told by an item, by what the item says of it
abbrev pub IsToldBy : Part → ℕ → List node.Input → List node.Input → Type 0
IsToldBy part.Message now js after = (m : said.NumberedData) × (after ≡ node.Comes m now ∷ js)
IsToldBy (part.Death bd) now js after = after ≡ node.Dies bd ∷ js
IsToldBy part.Nothing now js after = (after ≡ js) ⊎ (after ≡ node.Ends ∷ js)

pub told-by : (group name : List ℕ) (heard : HeardData) (now : ℕ) (js : List node.Input) → IsToldBy (part_of group name (Some heard)) now js (with_heard heard now group name js)
told-by group name (said.Published ack (said.Message m)) now js = by (is_same group name m.group m.node)
  where
    by : (b : Bool) → IsToldBy (cond b part.Message part.Nothing) now js (cond b (node.Comes m now ∷ js) js)
    by true = (m, refl)
    by false = inl refl
told-by group name (said.Published ack (said.Death other_group other_name bd)) now js = by (is_same group name other_group other_name)
  where
    by : (b : Bool) → IsToldBy (cond b (part.Death bd) part.Nothing) now js (cond b (node.Dies bd ∷ js) js)
    by true = refl
    by false = inl refl
told-by group name (said.Published ack said.Nothing) now js = inl refl
told-by group name (said.Answered code) now js = by (eqb code 0)
  where
    by : (b : Bool) → ((cond b js (node.Ends ∷ js)) ≡ js) ⊎ ((cond b js (node.Ends ∷ js)) ≡ node.Ends ∷ js)
    by true = inl refl
    by false = inr refl
told-by group name said.Granted now js = inl refl
told-by group name said.Other now js = inl refl

-- ---- the positions are those that are placed

get-last : (xs : List ℕ) (c : ℕ) (more : List ℕ) → get_or ((xs ++ c ∷ []) ++ more) (length xs) 0 ≡ c
get-last [] c more = refl
get-last (x ∷ xs) c more = get-last xs c more

count-at : (accepted counts more : List ℕ) (c n : ℕ) → accepted ≡ reverse (c ∷ counts) ++ more → length counts ≡ n → get_or accepted n 0 ≡ c
count-at accepted counts more c n is size =
    let parts : accepted ≡ (reverse counts ++ c ∷ []) ++ more = is ∙ ap (λ xs. xs ++ more) (reverse-append (c ∷ []) counts) in
    ap (λ xs. get_or xs n 0) parts ∙ (ap (λ i. get_or ((reverse counts ++ c ∷ []) ++ more) i 0) (sym size ∙ sym (length-reverse counts)) ∙ get-last (reverse counts) c more)

less-one : (n p : ℕ) → n ≡ p + 1 → n - 1 ≡ p
less-one n p e = omega (arith, e)

as-many : (on : List ℕ → Bool) (k : ℕ) (group name : List ℕ) (taken : List Message) (told : List (Option HeardData)) (counts ps : List ℕ) →
    ArePlaced on k group name taken told counts ps → length counts ≡ length told
as-many on k group name taken [] [] ps x = refl
as-many on k group name taken [] (n ∷ counts) ps x = absurd x
as-many on k group name taken (t ∷ told) [] ps x = absurd x
as-many on k group name taken (t ∷ told) (n ∷ counts) ps x = by (is_message_of group name t) ps x (as-many on k group name taken told counts)
  where
    by : (b : Bool) (ps : List ℕ) → IsPlaced on k b (take n taken) (ArePlaced on k group name taken told counts) ps →
        ((qs : List ℕ) → ArePlaced on k group name taken told counts qs → length counts ≡ length told) → length (n ∷ counts) ≡ length (t ∷ told)
    by true [] x rest = absurd x
    by true (p ∷ ps) x rest = ap (λ i. suc i) (rest ps x.1)
    by false ps x rest = ap (λ i. suc i) (rest ps x)

pub same-positions : (on : List ℕ → Bool) (k : ℕ) (group name : List ℕ) (taken : List Message) (accepted : List ℕ) (told : List (Option HeardData)) (counts more ps : List ℕ) (es : List Input) →
    accepted ≡ reverse counts ++ more → AreHanded on k group name taken accepted told es → ArePlaced on k group name taken told counts ps → positions_in es ≡ ps
same-positions on k group name taken accepted [] [] more ps es is x y = ap positions_in x ∙ sym y
same-positions on k group name taken accepted [] (c ∷ counts) more ps es is x y = absurd y
same-positions on k group name taken accepted (t ∷ told) [] more ps es is x y = absurd y
same-positions on k group name taken accepted (t ∷ told) (c ∷ counts) more ps es is x y =
    by (part_of group name t) es ps x (subst (λ b. IsPlaced on k b (take c taken) (ArePlaced on k group name taken told counts) ps) (message-part group name t) y)
    (λ es ps a b. same-positions on k group name taken accepted told counts (c ∷ more) ps es
    (is ∙ (ap (λ xs. xs ++ more) (reverse-append (c ∷ []) counts) ∙ append_assoc (reverse counts) (c ∷ []) more)) a b)
  where
    size : length (c ∷ counts) ≡ length (t ∷ told)
    size = as-many on k group name taken (t ∷ told) (c ∷ counts) ps y

    frames : frames_before taken accepted (length told) ≡ take c taken
    frames = ap (λ n. take n taken) (count-at accepted counts more c (length told) is (omega (arith, size)))

    by : (q : Part) (es : List Input) (ps : List ℕ) → IsNext on k q (frames_before taken accepted (length told)) (length told + 1) (AreHanded on k group name taken accepted told) es →
        IsPlaced on k (is_message q) (take c taken) (ArePlaced on k group name taken told counts) ps →
        ((fs : List Input) (qs : List ℕ) → AreHanded on k group name taken accepted told fs → ArePlaced on k group name taken told counts qs → positions_in fs ≡ qs) → positions_in es ≡ ps
    by part.Message [] ps x y rest = absurd x
    by part.Message (e ∷ es) [] x y rest = absurd y
    by part.Message (e ∷ es) (p ∷ ps) x y rest =
        let n = x.0.0 in
        let same : n ≡ p + 1 = one-count on k (take c taken) n (p + 1) (subst (λ fs. AreNumbered on k fs n) frames x.0.1) y.0 in
        ap (λ i. positions_in (i ∷ es)) x.0.2 ∙ (ap (λ i. i ∷ positions_in es) (less-one n p same) ∙ ap (λ qs. p ∷ qs) (rest es ps x.1 y.1))
    by (part.Death bd) [] ps x y rest = absurd x
    by (part.Death bd) (e ∷ es) ps x y rest = ap (λ i. positions_in (i ∷ es)) x.0 ∙ rest es ps x.1 y
    by part.Nothing es ps x y rest = rest es ps x y

-- ---- moments

-- what was handed last came at a moment of these items
pub by-then : (on : List ℕ → Bool) (k : ℕ) (group name : List ℕ) (taken : List Message) (accepted : List ℕ) (told : List (Option HeardData)) (e : Input) (es : List Input) →
    AreHanded on k group name taken accepted told (e ∷ es) → moment_of e ≤ length told
by-then on k group name taken accepted [] e es x = absurd (cc)
by-then on k group name taken accepted (t ∷ told) e es x = by (part_of group name t) x (by-then on k group name taken accepted told e es)
  where
    at : (i : Input) → e ≡ i → moment_of i ≡ length told + 1 → moment_of e ≤ length (t ∷ told)
    at i is now = let m : moment_of e ≡ length told + 1 = ap moment_of is ∙ now in omega (arith, m)

    by : (q : Part) → IsNext on k q (frames_before taken accepted (length told)) (length told + 1) (AreHanded on k group name taken accepted told) (e ∷ es) →
        (AreHanded on k group name taken accepted told (e ∷ es) → moment_of e ≤ length told) → moment_of e ≤ length (t ∷ told)
    by part.Message x rest = at (MessageComes (x.0.0 - 1) (length told + 1)) x.0.2 refl
    by (part.Death bd) x rest = at (DeathComes bd (length told + 1)) x.0 refl
    by part.Nothing x rest = let low = rest x in omega (arith, low)

other-moment : (m n : ℕ) → m ≤ n → eqb m (n + 1) ≡ false
other-moment m n low = by (eqb m (n + 1)) refl
  where
    by : (b : Bool) → eqb m (n + 1) ≡ b → b ≡ false
    by true e = absurd (let same : m ≡ n + 1 = eqb-true m (n + 1) e in omega (arith, same, low))
    by false e = refl

-- at an item that says nothing of the node
pub moment-alone : (n : ℕ) (es : List Input) → ((e : Input) (rest : List Input) → es ≡ e ∷ rest → moment_of e ≤ n) → with_moments (suc n) es ≡ TickComes (n + 1) ∷ with_moments n es
moment-alone n [] low = refl
moment-alone n (e ∷ es) low =
    ap (λ b. cond b (TickComes (n + 1) ∷ e ∷ with_moments n es) (TickComes (n + 1) ∷ with_moments n (e ∷ es))) (other-moment (moment_of e) n (low e es refl))

-- at an item that says something of it
pub moment-with : (n : ℕ) (e : Input) (es : List Input) → moment_of e ≡ n + 1 → with_moments (suc n) (e ∷ es) ≡ TickComes (n + 1) ∷ e ∷ with_moments n es
moment-with n e es now =
    ap (λ b. cond b (TickComes (n + 1) ∷ e ∷ with_moments n es) (TickComes (n + 1) ∷ with_moments n (e ∷ es))) (eq-eqb (moment_of e) (n + 1) now)

-- ---- read at these inputs

-- What a node was told was read at these inputs; deaths are of sessions below 256; and these are their positions.
pub record Reads (s : Setup) (all : List edge.Message) (is : List Input) (js : List node.Input) (ps : List ℕ) : Type 0 where
  pub read : AreRead s all is js
  pub early : AreEarlyDeaths is
  pub kept : positions_in is ≡ ps

same-death : (m n : ℕ) → call.Death m ≡ call.Death n → m ≡ n
same-death m n e = cc

own-number : (first session bd : ℕ) → first ≡ 0 → bd ≡ (first + session) % 256 → bd ≡ (first + bd) % 256
own-number first session bd zero_is e = omega (arith, zero_is, e)

low-number : (first session bd : ℕ) → bd ≡ (first + session) % 256 → bd < 256
low-number first session bd e = omega (arith, e)

same-first : (p q : ℕ) (ps qs : List ℕ) → p ∷ ps ≡ q ∷ qs → p ≡ q
same-first p q ps qs e = cc

same-rest : (p q : ℕ) (ps qs : List ℕ) → p ∷ ps ≡ q ∷ qs → ps ≡ qs
same-rest p q ps qs e = cc

at-position : (s : Setup) (all : List edge.Message) (p q now at : ℕ) (m : said.NumberedData) → p ≡ q → IsRead s all (MessageComes p now) (node.Comes m at) → IsRead s all (MessageComes q at) (node.Comes m at)
at-position s all p q now at m same read = subst (λ i. IsRead s all (MessageComes i at) (node.Comes m at)) same (refl, read.1)

at-session : (s : Setup) (all : List edge.Message) (session now at bd : ℕ) → s.bd ≡ 0 → IsRead s all (DeathComes session now) (node.Dies bd) → IsRead s all (DeathComes bd at) (node.Dies bd)
at-session s all session now at bd first read = λ wait width. ap call.Death (own-number s.bd session bd first (same-death bd (session_number s session) (read 0 1)))

low-session : (s : Setup) (all : List edge.Message) (session now bd : ℕ) → IsRead s all (DeathComes session now) (node.Dies bd) → bd < 256
low-session s all session now bd read = low-number s.bd session bd (same-death bd (session_number s session) (read 0 1))

-- one moment more
ticked : (s : Setup) (all : List edge.Message) (n : ℕ) (is : List Input) (js : List node.Input) (ps : List ℕ) → Reads s all is js ps → Reads s all (TickComes n ∷ is) (node.Ticks n ∷ js) ps
ticked s all n is js ps r = record { read = (refl, r.read); early = (tt, r.early); kept = r.kept }

-- what was told at a message, read so
with-message : (s : Setup) (all : List edge.Message) (n q : ℕ) (m : said.NumberedData) (old is : List Input) (js : List node.Input) (ps : List ℕ) →
    AreRead s all old (node.Comes m n ∷ js) → positions_in old ≡ q ∷ ps →
    ((less : List Input) → AreRead s all less js → positions_in less ≡ ps → Reads s all is js ps) → Reads s all (MessageComes q n ∷ is) (node.Comes m n ∷ js) (q ∷ ps)
with-message s all n q m [] is js ps read same rest = absurd read
with-message s all n q m (MessageComes p now ∷ old) is js ps read same rest =
    let r = rest old read.1 (same-rest p q (positions_in old) ps same) in
    record { read = (at-position s all p q now n m (same-first p q (positions_in old) ps same) read.0, r.read); early = (tt, r.early); kept = ap (λ l. q ∷ l) r.kept }
with-message s all n q m (DeathComes session now ∷ old) is js ps read same rest = absurd read.0
with-message s all n q m (TickComes now ∷ old) is js ps read same rest = absurd read.0

-- and at a death
with-death : (s : Setup) (all : List edge.Message) (n bd : ℕ) (old is : List Input) (js : List node.Input) (ps : List ℕ) → s.bd ≡ 0 →
    AreRead s all old (node.Dies bd ∷ js) → positions_in old ≡ ps →
    ((less : List Input) → AreRead s all less js → positions_in less ≡ ps → Reads s all is js ps) → Reads s all (DeathComes bd n ∷ is) (node.Dies bd ∷ js) ps
with-death s all n bd [] is js ps first read same rest = absurd read
with-death s all n bd (MessageComes p now ∷ old) is js ps first read same rest = absurd read.0
with-death s all n bd (DeathComes session now ∷ old) is js ps first read same rest =
    let r = rest old read.1 same in
    record { read = (at-session s all session now n bd first read.0, r.read); early = (low-session s all session now bd read.0, r.early); kept = r.kept }
with-death s all n bd (TickComes now ∷ old) is js ps first read same rest = absurd read.0

-- nothing is told of an end of the host's session
pub no-end : (s : Setup) (all : List edge.Message) (old : List Input) (js : List node.Input) → AreRead s all old (node.Ends ∷ js) → ⊥
no-end s all [] js read = read
no-end s all (MessageComes p now ∷ old) js read = read.0
no-end s all (DeathComes session now ∷ old) js read = read.0
no-end s all (TickComes now ∷ old) js read = read.0

-- the moment of an item
behind-moment : (s : Setup) (all : List edge.Message) (n : ℕ) (old : List Input) (js : List node.Input) → AreRead s all old (node.Ticks n ∷ js) →
    (less : List Input) × AreRead s all less js × (positions_in less ≡ positions_in old)
behind-moment s all n [] js read = absurd read
behind-moment s all n (MessageComes p now ∷ old) js read = absurd read.0
behind-moment s all n (DeathComes session now ∷ old) js read = absurd read.0
behind-moment s all n (TickComes now ∷ old) js read = (old, read.1, refl)

pub reads-so : (s : Setup) (all : List edge.Message) (on : List ℕ → Bool) (k : ℕ) (group name : List ℕ) (taken : List Message) (accepted : List ℕ) → s.bd ≡ 0 →
    (told : List (Option HeardData)) (es old : List Input) → AreHanded on k group name taken accepted told es → AreRead s all old (node_calls (asked told) group name) → positions_in old ≡ positions_in es →
    Reads s all (with_moments (length told) es) (node_calls (asked told) group name) (positions_in es)
reads-so s all on k group name taken accepted first [] es old x read same =
    subst (λ l. Reads s all (with_moments 0 l) [] (positions_in l)) (sym x) (record { read = tt; early = tt; kept = refl })
reads-so s all on k group name taken accepted first (None ∷ told) es old x read same =
    let n = length told in
    let less = behind-moment s all (n + 1) old (node_calls (asked told) group name) read in
    subst (λ is. Reads s all is (node.Ticks (n + 1) ∷ node_calls (asked told) group name) (positions_in es))
    (sym (moment-alone n es (λ e rest is. by-then on k group name taken accepted told e rest (subst (AreHanded on k group name taken accepted told) is x))))
    (ticked s all (n + 1) (with_moments n es) (node_calls (asked told) group name) (positions_in es)
    (reads-so s all on k group name taken accepted first told es less.0 x less.1 (less.2 ∙ same)))
reads-so s all on k group name taken accepted first (Some heard ∷ told) es old x read same =
    let n = length told in
    let js = node_calls (asked told) group name in
    let after = with_heard heard (n + 1) group name js in
    let less = behind-moment s all (n + 1) old after read in
    by (part_of group name (Some heard)) after es less.0 (told-by group name heard (n + 1) js) x less.1 (less.2 ∙ same)
    (λ fs a old read same. reads-so s all on k group name taken accepted first told fs old a read same)
  where
    n : ℕ
    n = length told

    js : List node.Input
    js = node_calls (asked told) group name

    by : (q : Part) (after : List node.Input) (es old : List Input) → IsToldBy q (n + 1) js after →
        IsNext on k q (frames_before taken accepted n) (n + 1) (AreHanded on k group name taken accepted told) es →
        AreRead s all old after → positions_in old ≡ positions_in es →
        ((fs : List Input) → AreHanded on k group name taken accepted told fs → (less : List Input) → AreRead s all less js → positions_in less ≡ positions_in fs →
        Reads s all (with_moments n fs) js (positions_in fs)) → Reads s all (with_moments (suc n) es) (node.Ticks (n + 1) ∷ after) (positions_in es)
    by part.Message after [] old t x read same rest = absurd x
    by part.Message after (e ∷ es) old t x read same rest =
        let q = x.0.0 - 1 in
        subst (λ l. Reads s all (with_moments (suc n) (e ∷ es)) (node.Ticks (n + 1) ∷ l) (positions_in (e ∷ es))) (sym t.1)
        (subst (λ i. Reads s all (with_moments (suc n) (i ∷ es)) (node.Ticks (n + 1) ∷ node.Comes t.0 (n + 1) ∷ js) (positions_in (i ∷ es))) (sym x.0.2)
        (subst (λ is. Reads s all is (node.Ticks (n + 1) ∷ node.Comes t.0 (n + 1) ∷ js) (q ∷ positions_in es)) (sym (moment-with n (MessageComes q (n + 1)) es refl))
        (ticked s all (n + 1) (MessageComes q (n + 1) ∷ with_moments n es) (node.Comes t.0 (n + 1) ∷ js) (q ∷ positions_in es)
        (with-message s all (n + 1) q t.0 old (with_moments n es) js (positions_in es) (subst (AreRead s all old) t.1 read)
        (same ∙ ap (λ i. positions_in (i ∷ es)) x.0.2) (rest es x.1)))))
    by (part.Death bd) after [] old t x read same rest = absurd x
    by (part.Death bd) after (e ∷ es) old t x read same rest =
        subst (λ l. Reads s all (with_moments (suc n) (e ∷ es)) (node.Ticks (n + 1) ∷ l) (positions_in (e ∷ es))) (sym t)
        (subst (λ i. Reads s all (with_moments (suc n) (i ∷ es)) (node.Ticks (n + 1) ∷ node.Dies bd ∷ js) (positions_in (i ∷ es))) (sym x.0)
        (subst (λ is. Reads s all is (node.Ticks (n + 1) ∷ node.Dies bd ∷ js) (positions_in es)) (sym (moment-with n (DeathComes bd (n + 1)) es refl))
        (ticked s all (n + 1) (DeathComes bd (n + 1) ∷ with_moments n es) (node.Dies bd ∷ js) (positions_in es)
        (with-death s all (n + 1) bd old (with_moments n es) js (positions_in es) first (subst (AreRead s all old) t read)
        (same ∙ ap (λ i. positions_in (i ∷ es)) x.0) (rest es x.1)))))
    by part.Nothing after es old (inr over) x read same rest = absurd (no-end s all old js (subst (AreRead s all old) over read))
    by part.Nothing after es old (inl still) x read same rest =
        subst (λ l. Reads s all (with_moments (suc n) es) (node.Ticks (n + 1) ∷ l) (positions_in es)) (sym still)
        (subst (λ is. Reads s all is (node.Ticks (n + 1) ∷ js) (positions_in es))
        (sym (moment-alone n es (λ e later is. by-then on k group name taken accepted told e later (subst (AreHanded on k group name taken accepted told) is x))))
        (ticked s all (n + 1) (with_moments n es) js (positions_in es) (rest es x old (subst (AreRead s all old) still read) same)))

-- ---- these inputs are relayed

abbrev pub AllBelow : ℕ → List ℕ → Type 0
AllBelow n [] = Unit {0}
AllBelow n (p ∷ ps) = (p < n) × AllBelow n ps

below-of : (s : Setting) (is : List Input) → AllPublished s is → AllBelow (length s.published) (positions_in is)
below-of s [] x = tt
below-of s (MessageComes p now ∷ is) x = (x.0, below-of s is x.1)
below-of s (DeathComes session now ∷ is) x = below-of s is x.1
below-of s (TickComes now ∷ is) x = below-of s is x.1

published-of : (s : Setting) (is : List Input) → AllBelow (length s.published) (positions_in is) → AllPublished s is
published-of s [] x = tt
published-of s (MessageComes p now ∷ is) x = (x.0, published-of s is x.1)
published-of s (DeathComes session now ∷ is) x = (tt, published-of s is x)
published-of s (TickComes now ∷ is) x = (tt, published-of s is x)

relayed-so : (s : Setting) (old is : List Input) → positions_in is ≡ positions_in old → AreEarlyDeaths is → IsRelayed s old → IsRelayed s is
relayed-so s old is same early h = record {
  node = h.node;
  some_places = h.some_places;
  few_places = h.few_places;
  runs_on = h.runs_on;
  published = published-of s is (subst (AllBelow (length s.published)) (sym same) (below-of s old h.published));
  rising = subst AreRising (sym same) h.rising;
  few = subst (λ ps. missing ps < 256 - 2 * s.width) (sym same) h.few;
  sessions = h.sessions;
  deaths = early;
}

pub heard-so : (s : Setup) (all : List edge.Message) (wait width : ℕ) (ps : List ℕ) (is : List Input) (js : List node.Input) → (h : IsHeard s all wait width ps js) → Reads s all is js ps →
    (so : IsHeard s all wait width ps js) × (so.inputs ≡ is)
heard-so s all wait width ps is js h r =
    let so : IsHeard s all wait width ps js = record {
      inputs = is;
      read = r.read;
      relayed = relayed-so (host_setting s all wait width) h.inputs is (r.kept ∙ sym h.shown) r.early h.relayed;
      shown = r.kept;
    } in
    (so, refl)
