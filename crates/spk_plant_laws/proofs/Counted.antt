-- The positions that the report says were consumed of a node are those that the order consumes.
use Rattle.std.proofs.Common.{◌≡◌, ◌∙◌, inl, inr, sym, ap, refl, subst, ℕ, zero, suc, ◌+◌, ◌-◌, ◌<◌, ◌≤◌, Bool, true, false, cond, List, [], ◌∷◌, ◌++◌, length, map, reverse, append_assoc, append-nil, length-append, Option, Some, None, arith}
use Rattle.std.specs.List.{flat_map, range_with_len, slice_get}
use Rattle.std.specs.Option.{option_map_or}
use Rattle.std.proofs.lemmas.List.{length-map, length-reverse, map-append, reverse-append}
use Rattle.spk_sequence.specs.Calls as call
use Rattle.spk_sequence.specs.Claims.{SameStep}
use Rattle.spk_sequence.specs.HostRecord as order
use Rattle.spk_sequence.specs.HostRecord.{Input, MessageComes, DeathComes, TickComes, done_at, record_of, standing_of}
use Rattle.spk_sequence.specs.NodeRecord.{Setting}
use Rattle.spk_sequence.specs.Positions.{right_consumed, right_reply}
use Rattle.spk_sequence.specs.declared.answer.Step.TheVariants as step
use Rattle.spk_ingress.specs.declared.rule.Message.{Message}
use Rattle.spk_reading.specs.Data as said
use Rattle.spk_reading.specs.Data.{HeardData, NumberedData}
use Rattle.spk_reading.specs.View.{numbered_view}
use Rattle.spk_host.specs.Inputs.{is_same, node_calls, with_heard}
use Rattle.spk_host_node.specs.Inputs as node
use Rattle.spk_host_session.specs.Data.{Config}
use Rattle.spk_plant_host.specs.Told.{AreWelcome, asked, consumed_by, consumed_for, consumed_in, consumptions, heard_in, of_node, told_in}
use Rattle.spk_plant_host.specs.declared.ends.Given.{Given}
use Rattle.spk_edge_rules.specs.Config.{Setup}
use Rattle.spk_edge_rules.specs.Run as edge
use Rattle.spk_tie.specs.Tie.{host_setting}
use Rattle.spk_heard.specs.Read.{AreMessagesAt, AreRead}
use Rattle.spk_plant_relay.specs.Relayed.{IsRelayed}
use Rattle.spk_plant_given.specs.Handed.{AreHanded, IsNext, consumed_with, count_at, frames_before, handed_in, handed_view, with_moments}
use Rattle.spk_plant_given.specs.Handed as lists
use Rattle.spk_plant_given.specs.Part.{part_of}
use Rattle.spk_plant_given.specs.declared.handed.Handed.{Handed}
use Rattle.spk_plant_given.specs.declared.part.Part.{Part}
use Rattle.spk_plant_given.specs.declared.part.Part.TheVariants as part
use Rattle.spk_plant_laws.proofs.Consumed.{Laws, kept-first, tied-whole, told-parts, welcome-first}
use Rattle.spk_plant_laws.proofs.Handed.{IsToldBy, by-then, moment-alone, moment-with, no-end, told-by}

-- ---- what the lists say, newest first

abbrev pub consumed_of : List Given → List Input → List ℕ
consumed_of given [] = []
consumed_of given (e ∷ es) = consumed_of given es ++ consumed_with given e

of-parts : (given : List Given) (xs ys : List Input) → consumed_of given (xs ++ ys) ≡ consumed_of given ys ++ consumed_of given xs
of-parts given [] ys = sym (append-nil (consumed_of given ys))
of-parts given (x ∷ xs) ys =
    ap (λ l. l ++ consumed_with given x) (of-parts given xs ys) ∙ append_assoc (consumed_of given ys) (consumed_of given xs) (consumed_with given x)

pub of-handed : (given : List Given) (hs : List Handed) → lists.consumed_in given hs ≡ consumed_of given (handed_in hs)
of-handed given [] = refl
of-handed given (h ∷ hs) =
    ap (λ l. consumed_with given (handed_view h) ++ l) (of-handed given hs)
    ∙ sym (ap (consumed_of given) (reverse-append (handed_view h ∷ []) (map handed_view hs)) ∙ of-parts given (handed_in hs) (handed_view h ∷ []))

-- ---- lengths

as-many : (s : Setup) (all : List edge.Message) (ps : List ℕ) (reads : List NumberedData) → AreMessagesAt s all ps reads → length ps ≡ length reads
as-many s all [] [] x = refl
as-many s all [] (r ∷ reads) x = absurd x
as-many s all (p ∷ ps) [] x = absurd x
as-many s all (p ∷ ps) (r ∷ reads) x = ap (λ n. suc n) (as-many s all ps reads x.1)

range-size : (first count : ℕ) → length (range_with_len first count) ≡ count
range-size first zero = refl
range-size first (suc count) = ap (λ n. suc n) (range-size (first + 1) count)

-- what a message makes the host consume by positions follows on from it
a-run : (p now : ℕ) (r : call.Reply) → right_consumed (MessageComes p now) r ≡ range_with_len p (length (right_consumed (MessageComes p now) r))
a-run p now (call.Stepped (step.Consumed n)) = ap (range_with_len p) (sym (range-size p n))
a-run p now r = refl

pub get-below : {X : Type 0} (xs : List X) (i : ℕ) (x : X) → slice_get xs i ≡ Some x → i < length xs
get-below [] i x is = absurd (cc)
get-below (y ∷ xs) zero x is = omega arith
get-below (y ∷ xs) (suc i) x is = let low = get-below xs i x is in omega (arith, low)

here : (xs : List Given) (g : Given) (rest : List Given) → slice_get (xs ++ g ∷ rest) (length xs) ≡ Some g
here [] g rest = refl
here (x ∷ xs) g rest = here xs g rest

flat-last : (f : Given → List NumberedData) (xs : List Given) (g : Given) → flat_map f (xs ++ g ∷ []) ≡ flat_map f xs ++ f g
flat-last f [] g = append-nil (f g)
flat-last f (x ∷ xs) g = ap (λ l. f x ++ l) (flat-last f xs g) ∙ sym (append_assoc (f x) (flat_map f xs) (f g))

-- of a message of the node it is all that was consumed at the item
of-message : (group name : List ℕ) (t : Option HeardData) (xs : List NumberedData) → part_of group name t ≡ part.Message → of_node group name t xs ≡ xs
of-message group name (Some (said.Published ack (said.Message m))) xs is = by (is_same group name m.group m.node) is
  where
    by : (b : Bool) → cond b part.Message part.Nothing ≡ part.Message → cond b xs [] ≡ xs
    by true e = refl
    by false e = absurd (cc)
of-message group name (Some (said.Published ack (said.Death other_group other_name bd))) xs is = absurd (by (is_same group name other_group other_name) is)
  where
    by : (b : Bool) → cond b (part.Death bd) part.Nothing ≡ part.Message → ⊥
    by true e = cc
    by false e = cc
of-message group name (Some (said.Published ack said.Nothing)) xs is = absurd (cc)
of-message group name (Some (said.Answered code)) xs is = absurd (cc)
of-message group name (Some said.Granted) xs is = absurd (cc)
of-message group name (Some said.Other) xs is = absurd (cc)
of-message group name None xs is = absurd (cc)

-- ---- along the items

-- the laws on what a host consumes, and on what is relayed
pub record Order : Type 0 where
  pub laws : Laws
  pub before : (s : Setting) (later inputs : List Input) → IsRelayed s (later ++ inputs) → IsRelayed s inputs
  pub steps : (s : Setting) (inputs : List Input) (input : Input) → IsRelayed s (input ∷ inputs) → SameStep s inputs input

-- what stays the same along the items
pub record Run : Type 0 where
  pub order : Order
  pub setup : Setup
  pub all : List edge.Message
  pub config : Config
  pub some : 0 < config.width
  pub most : config.width ≤ 96
  pub given : List Given
  pub welcome : AreWelcome (told_in given)
  pub kept : consumed_by given ≡ consumptions config (told_in given)

abbrev pub setting_of : Run → Setting
setting_of r = host_setting r.setup r.all r.config.wait r.config.width

-- what was told by the first items, newest first
abbrev pub told_of : List Given → List (Option HeardData)
told_of gs = map heard_in gs

pub told-same : (gs : List Given) → told_in (reverse gs) ≡ told_of gs
told-same [] = refl
told-same (g ∷ gs) =
    ap (λ l. told_in l) (reverse-append (g ∷ []) gs)
    ∙ (ap reverse (map-append heard_in (reverse gs) (g ∷ [])) ∙ (reverse-append (map heard_in (reverse gs)) (heard_in g ∷ []) ∙ ap (λ l. heard_in g ∷ l) (told-same gs)))

abbrev pub calls_of : Run → List Given → List node.Input
calls_of r gs = node_calls (asked (told_of gs)) r.setup.config.group r.setup.config.node

abbrev pub for_node : Run → Given → List NumberedData
for_node r g = consumed_for r.setup.config.group r.setup.config.node g

-- by then as many were consumed as the order consumes
so-many : (r : Run) (gs rest : List Given) (is : List Input) → r.given ≡ reverse gs ++ rest → AreRead r.setup r.all is (calls_of r gs) →
    length (order.consumed_of (record_of (setting_of r) is)) ≡ length (flat_map (for_node r) (reverse gs))
so-many r gs rest is parts read =
    as-many r.setup r.all (order.consumed_of (record_of (setting_of r) is)) (flat_map (for_node r) (reverse gs))
    (tied-whole r.order.laws r.setup r.all r.config is (reverse gs) r.some r.most
    (subst (λ t. AreRead r.setup r.all is (node_calls (asked t) r.setup.config.group r.setup.config.node)) (sym (told-same gs)) read)
    (welcome-first (told_in rest) (told_in (reverse gs)) (subst AreWelcome (ap told_in parts ∙ told-parts (reverse gs) rest) r.welcome))
    (kept-first r.config (reverse gs) rest (subst (λ g. consumed_by g ≡ consumptions r.config (told_in g)) parts r.kept)))

-- what was read at the inputs before an item
less-message : (s : Setup) (all : List edge.Message) (group name : List ℕ) (t : Option HeardData) (told : List (Option HeardData)) (p : ℕ) (is : List Input) → part_of group name t ≡ part.Message →
    AreRead s all (TickComes (length told + 1) ∷ MessageComes p (length told + 1) ∷ is) (node_calls (asked (t ∷ told)) group name) → AreRead s all is (node_calls (asked told) group name)
less-message s all group name None told p is of read = absurd (cc)
less-message s all group name (Some heard) told p is of read =
    let t = subst (λ q. IsToldBy q (length told + 1) (node_calls (asked told) group name) (with_heard heard (length told + 1) group name (node_calls (asked told) group name))) of
    (told-by group name heard (length told + 1) (node_calls (asked told) group name)) in
    (subst (AreRead s all (MessageComes p (length told + 1) ∷ is)) t.1 read.1).1

less-death : (s : Setup) (all : List edge.Message) (group name : List ℕ) (t : Option HeardData) (told : List (Option HeardData)) (bd : ℕ) (is : List Input) → part_of group name t ≡ part.Death bd →
    AreRead s all (TickComes (length told + 1) ∷ DeathComes bd (length told + 1) ∷ is) (node_calls (asked (t ∷ told)) group name) → AreRead s all is (node_calls (asked told) group name)
less-death s all group name None told bd is of read = absurd (cc)
less-death s all group name (Some heard) told bd is of read =
    let t = subst (λ q. IsToldBy q (length told + 1) (node_calls (asked told) group name) (with_heard heard (length told + 1) group name (node_calls (asked told) group name))) of
    (told-by group name heard (length told + 1) (node_calls (asked told) group name)) in
    (subst (AreRead s all (DeathComes bd (length told + 1) ∷ is)) t read.1).1

less-nothing : (s : Setup) (all : List edge.Message) (group name : List ℕ) (t : Option HeardData) (told : List (Option HeardData)) (is : List Input) → part_of group name t ≡ part.Nothing →
    AreRead s all (TickComes (length told + 1) ∷ is) (node_calls (asked (t ∷ told)) group name) → AreRead s all is (node_calls (asked told) group name)
less-nothing s all group name None told is of read = read.1
less-nothing s all group name (Some heard) told is of read =
    let t = subst (λ q. IsToldBy q (length told + 1) (node_calls (asked told) group name) (with_heard heard (length told + 1) group name (node_calls (asked told) group name))) of
    (told-by group name heard (length told + 1) (node_calls (asked told) group name)) in
    elim t [
      | inl still ↦ subst (AreRead s all is) still read.1
      | inr over ↦ absurd (no-end s all is (node_calls (asked told) group name) (subst (AreRead s all is) over read.1))
    ]

-- a message at which as many were consumed as its item says
run-here : (r : Run) (gs rest : List Given) (g : Given) (p n : ℕ) (is : List Input) → r.given ≡ reverse gs ++ g ∷ rest → length gs ≡ n →
    part_of r.setup.config.group r.setup.config.node (heard_in g) ≡ part.Message →
    IsRelayed (setting_of r) (MessageComes p (n + 1) ∷ is) →
    length (order.consumed_of (record_of (setting_of r) is)) ≡ length (flat_map (for_node r) (reverse gs)) →
    length (order.consumed_of (record_of (setting_of r) (MessageComes p (n + 1) ∷ is))) ≡ length (flat_map (for_node r) (reverse (g ∷ gs))) →
    (done_at (setting_of r) (record_of (setting_of r) is) (standing_of (setting_of r) is) (MessageComes p (n + 1))).consumed ≡ consumed_with r.given (MessageComes p (n + 1))
run-here r gs rest g p n is parts size of_node_ relayed before after =
    let s = setting_of r in
    let done = done_at s (record_of s is) (standing_of s is) (MessageComes p (n + 1)) in
    let reply = right_reply s (record_of s is) (MessageComes p (n + 1)) in
    let same : done.consumed ≡ right_consumed (MessageComes p (n + 1)) reply = ap (λ (d : order.Done). d.consumed) (r.order.steps s is (MessageComes p (n + 1)) relayed) in
    let run : done.consumed ≡ range_with_len p (length done.consumed) =
    subst (λ l. l ≡ range_with_len p (length l)) (sym same) (a-run p (n + 1) reply) in
    let last : flat_map (for_node r) (reverse (g ∷ gs)) ≡ flat_map (for_node r) (reverse gs) ++ for_node r g =
    ap (flat_map (for_node r)) (reverse-append (g ∷ []) gs) ∙ flat-last (for_node r) (reverse gs) g in
    let longer : length (order.consumed_of (record_of s (MessageComes p (n + 1) ∷ is))) ≡ length (order.consumed_of (record_of s is)) + length done.consumed =
    length-append (order.consumed_of (record_of s is)) done.consumed in
    let whole : length (flat_map (for_node r) (reverse (g ∷ gs))) ≡ length (flat_map (for_node r) (reverse gs)) + length (for_node r g) =
    ap (λ l. length l) last ∙ length-append (flat_map (for_node r) (reverse gs)) (for_node r g) in
    let many : length done.consumed ≡ length (for_node r g) = omega (arith, longer, whole, before, after) in
    let all_of : for_node r g ≡ consumed_in g = of-message r.setup.config.group r.setup.config.node (heard_in g) (consumed_in g) of_node_ in
    let count : length done.consumed ≡ length g.consumed.items = many ∙ (ap (λ l. length l) all_of ∙ length-map g.consumed.items numbered_view) in
    let place : n + 1 - 1 ≡ length (reverse gs) = omega (arith, size, length-reverse gs) in
    let there : slice_get r.given (n + 1 - 1) ≡ Some g = ap (λ i. slice_get r.given i) place ∙ (ap (λ l. slice_get l (length (reverse gs))) parts ∙ here (reverse gs) g rest) in
    let counted : count_at r.given (n + 1) ≡ length g.consumed.items = ap (λ o. option_map_or (λ (x : Given). length x.consumed.items) o 0) there in
    run ∙ ap (range_with_len p) (count ∙ sym counted)

pub consumed-so : (r : Run) (on : List ℕ → Bool) (k : ℕ) (taken : List Message) (accepted : List ℕ) (gs rest : List Given) (es : List Input) → r.given ≡ reverse gs ++ rest →
    AreHanded on k r.setup.config.group r.setup.config.node taken accepted (told_of gs) es →
    AreRead r.setup r.all (with_moments (length (told_of gs)) es) (calls_of r gs) → IsRelayed (setting_of r) (with_moments (length (told_of gs)) es) →
    order.consumed_of (record_of (setting_of r) (with_moments (length (told_of gs)) es)) ≡ consumed_of r.given es
consumed-so r on k taken accepted [] rest es parts x read relayed = sym (ap (consumed_of r.given) x)
consumed-so r on k taken accepted (g ∷ gs) rest es parts x read relayed =
    by (part_of group name (heard_in g)) refl es x read relayed
    (λ fs a b c. consumed-so r on k taken accepted gs (g ∷ rest) fs (parts ∙ (ap (λ l. l ++ rest) (reverse-append (g ∷ []) gs) ∙ append_assoc (reverse gs) (g ∷ []) rest)) a b c)
  where
    group : List ℕ
    group = r.setup.config.group

    name : List ℕ
    name = r.setup.config.node

    s : Setting
    s = setting_of r

    n : ℕ
    n = length (told_of gs)

    js : List node.Input
    js = calls_of r gs

    later : r.given ≡ reverse gs ++ g ∷ rest
    later = parts ∙ (ap (λ l. l ++ rest) (reverse-append (g ∷ []) gs) ∙ append_assoc (reverse gs) (g ∷ []) rest)

    -- a message consumes as many as its item says
    message : (p : ℕ) (es : List Input) → part_of group name (heard_in g) ≡ part.Message → AreRead r.setup r.all (with_moments n es) js →
        AreRead r.setup r.all (TickComes (n + 1) ∷ MessageComes p (n + 1) ∷ with_moments n es) (calls_of r (g ∷ gs)) →
        IsRelayed s (TickComes (n + 1) ∷ MessageComes p (n + 1) ∷ with_moments n es) → order.consumed_of (record_of s (with_moments n es)) ≡ consumed_of r.given es →
        order.consumed_of (record_of s (TickComes (n + 1) ∷ MessageComes p (n + 1) ∷ with_moments n es)) ≡ consumed_of r.given es ++ consumed_with r.given (MessageComes p (n + 1))
    message p es is read whole relayed so =
        let inputs = with_moments n es in
        let size : length gs ≡ n = sym (length-map gs heard_in) in
        let first : IsRelayed s (MessageComes p (n + 1) ∷ inputs) = r.order.before s (TickComes (n + 1) ∷ []) (MessageComes p (n + 1) ∷ inputs) relayed in
        let none : order.consumed_of (record_of s (TickComes (n + 1) ∷ MessageComes p (n + 1) ∷ inputs)) ≡ order.consumed_of (record_of s (MessageComes p (n + 1) ∷ inputs)) =
        append-nil (order.consumed_of (record_of s (MessageComes p (n + 1) ∷ inputs))) in
        let done = run-here r gs rest g p n inputs later size is first (so-many r gs (g ∷ rest) inputs later read)
        (ap (λ l. length l) (sym none) ∙ so-many r (g ∷ gs) rest (TickComes (n + 1) ∷ MessageComes p (n + 1) ∷ inputs) parts whole) in
        none
        ∙ (ap (λ l. l ++ (done_at s (record_of s inputs) (standing_of s inputs) (MessageComes p (n + 1))).consumed) so
        ∙ ap (λ l. consumed_of r.given es ++ l) done)

    by : (q : Part) → part_of group name (heard_in g) ≡ q → (es : List Input) → IsNext on k q (frames_before taken accepted n) (n + 1) (AreHanded on k group name taken accepted (told_of gs)) es →
        AreRead r.setup r.all (with_moments (suc n) es) (calls_of r (g ∷ gs)) → IsRelayed s (with_moments (suc n) es) →
        ((fs : List Input) → AreHanded on k group name taken accepted (told_of gs) fs → AreRead r.setup r.all (with_moments n fs) js → IsRelayed s (with_moments n fs) →
        order.consumed_of (record_of s (with_moments n fs)) ≡ consumed_of r.given fs) → order.consumed_of (record_of s (with_moments (suc n) es)) ≡ consumed_of r.given es
    by part.Message is [] x read relayed rec = absurd x
    by part.Message is (e ∷ es) x read relayed rec =
        let p = x.0.0 - 1 in
        let two : with_moments (suc n) (e ∷ es) ≡ TickComes (n + 1) ∷ MessageComes p (n + 1) ∷ with_moments n es =
        ap (λ i. with_moments (suc n) (i ∷ es)) x.0.2 ∙ moment-with n (MessageComes p (n + 1)) es refl in
        let whole = subst (λ l. AreRead r.setup r.all l (calls_of r (g ∷ gs))) two read in
        let less = less-message r.setup r.all group name (heard_in g) (told_of gs) p (with_moments n es) is whole in
        let kept = subst (IsRelayed s) two relayed in
        let so = rec es x.1 less (r.order.before s (TickComes (n + 1) ∷ MessageComes p (n + 1) ∷ []) (with_moments n es) kept) in
        ap (λ l. order.consumed_of (record_of s l)) two ∙ (message p es is less whole kept so ∙ ap (λ i. consumed_of r.given es ++ consumed_with r.given i) (sym x.0.2))
    by (part.Death bd) is [] x read relayed rec = absurd x
    by (part.Death bd) is (e ∷ es) x read relayed rec =
        let two : with_moments (suc n) (e ∷ es) ≡ TickComes (n + 1) ∷ DeathComes bd (n + 1) ∷ with_moments n es =
        ap (λ i. with_moments (suc n) (i ∷ es)) x.0 ∙ moment-with n (DeathComes bd (n + 1)) es refl in
        let whole = subst (λ l. AreRead r.setup r.all l (calls_of r (g ∷ gs))) two read in
        let less = less-death r.setup r.all group name (heard_in g) (told_of gs) bd (with_moments n es) is whole in
        let kept = subst (IsRelayed s) two relayed in
        let so = rec es x.1 less (r.order.before s (TickComes (n + 1) ∷ DeathComes bd (n + 1) ∷ []) (with_moments n es) kept) in
        ap (λ l. order.consumed_of (record_of s l)) two
        ∙ (append-nil (order.consumed_of (record_of s (with_moments n es)) ++ []) ∙ (ap (λ l. l ++ []) so ∙ ap (λ i. consumed_of r.given es ++ consumed_with r.given i) (sym x.0)))
    by part.Nothing is es x read relayed rec =
        let one = moment-alone n es (λ e more same. by-then on k group name taken accepted (told_of gs) e more (subst (AreHanded on k group name taken accepted (told_of gs)) same x)) in
        let whole = subst (λ l. AreRead r.setup r.all l (calls_of r (g ∷ gs))) one read in
        let less = less-nothing r.setup r.all group name (heard_in g) (told_of gs) (with_moments n es) is whole in
        let kept = subst (IsRelayed s) one relayed in
        ap (λ l. order.consumed_of (record_of s l)) one
        ∙ (append-nil (order.consumed_of (record_of s (with_moments n es))) ∙ rec es x less (r.order.before s (TickComes (n + 1) ∷ []) (with_moments n es) kept))
