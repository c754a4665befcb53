-- Of a host that no CONNACK turns away: each call is done, and of a node is consumed what the node's order hands out.
use Rattle.std.proofs.Common.{◌≡◌, ◌∙◌, ap, sym, subst, refl, ℕ, ◌+◌, Bool, true, false, cond, is_some, List, [], ◌∷◌, ◌++◌, length, map, reverse, Option, Some, None}
use Rattle.std.specs.List.{flat_map}
use Rattle.std.specs.Prelude.{◌==◌, ◌&&◌}
use Rattle.std.specs.Str.{bytes_eq}
use Rattle.std.proofs.lemmas.List.{append-nil, map-append, reverse-append, reverse-reverse}
use Rattle.std.proofs.lemmas.Grind.{flat_map-append}
use Rattle.std.proofs.lemmas.Slice.Eq.{bytes_eq-Decides}
use Rattle.spk_reading.specs.Data as said
use Rattle.spk_reading.specs.Data.{HeardData, NumberedData}
use Rattle.spk_host_session.specs.Data.{Config}
use Rattle.spk_host_session.specs.Step as session
use Rattle.spk_host_session.specs.Step.{began_after}
use Rattle.spk_host_node.specs.Data.{fresh_node}
use Rattle.spk_host_node.specs.Inputs as node
use Rattle.spk_host_node.specs.Inputs.{order_after, since_end}
use Rattle.spk_host_node.specs.Step.{taken_of}
use Rattle.spk_host.specs.Data.{HostData, OutData}
use Rattle.spk_host.specs.Inputs.{Call, Heard, Ticked, Connected, host_after, is_same, node_calls, with_heard}
use Rattle.spk_host.specs.Nodes.{node_or}
use Rattle.spk_host.specs.Step.{after_packet}
use Rattle.spk_heard.specs.Read.{all_taken}
use Rattle.spk_plant_host.specs.Calls.{answer_at, done, is_done}
use Rattle.spk_plant_host.specs.Told.{AreWelcome, IsWelcome, asked, calls_of, consumed_at, consumed_by, consumed_for, consumed_in, consumed_of, consumptions, heard_in, of_node, told_in}
use Rattle.spk_plant_host.specs.declared.ends.Given.{Given}
use Rattle.spk_plant_host.proofs.Answering.{answer_yes}
use Rattle.spk_plant_host.proofs.Running.{done_yes}

-- ---- the session goes on

answered_stays : (began : Option ℕ) (code : ℕ) → (code == 0) ≡ true → began_after began (session.Answered code) ≡ began
answered_stays None code e = rw e refl
answered_stays (Some m) code e = rw e refl

heard_stays : (h : HostData) (heard : HeardData) (now : ℕ) → IsWelcome (Some heard) → (after_packet h heard now).session.began ≡ h.session.began
heard_stays h (said.Published ack content) now w = refl
heard_stays h (said.Answered code) now w = answered_stays h.session.began code w
heard_stays h said.Granted now w = refl
heard_stays h said.Other now w = refl

pub in_session : (config : Config) (told : List (Option HeardData)) → AreWelcome told → (host_after config (asked told)).session.began ≡ Some 0
in_session config [] w = refl
in_session config (None ∷ before) w = in_session config before w.1
in_session config (Some heard ∷ before) w =
    heard_stays (host_after config (asked before)) heard (length before + 1) w.0 ∙ in_session config before w.1

open_at : (h : HostData) → h.session.began ≡ Some 0 → is_some h.session.began ≡ true
open_at h e = rw e refl

one_more : (config : Config) (calls : List Call) (call : Call) → done config calls ≡ calls → is_done (host_after config calls) call ≡ true →
    done config (call ∷ calls) ≡ call ∷ calls
one_more config calls call d e =
    done_yes config calls call (subst (λ l. is_done (host_after config l) call ≡ true) (sym d) e) ∙ ap (λ l. call ∷ l) d

first_call : (config : Config) → done config (Connected 0 ∷ []) ≡ Connected 0 ∷ []
unfolding done
first_call config = refl

pub all_done : (config : Config) (told : List (Option HeardData)) → AreWelcome told → calls_of config told ≡ asked told
all_done config [] w = first_call config
all_done config (None ∷ before) w =
    one_more config (asked before) (Ticked (length before + 1)) (all_done config before w.1)
    (open_at (host_after config (asked before)) (in_session config before w.1))
all_done config (Some heard ∷ before) w =
    let now = length before + 1 in
    let h = host_after config (asked before) in
    let e = in_session config before w.1 in
    one_more config (Heard heard now ∷ asked before) (Ticked now)
    (one_more config (asked before) (Heard heard now) (all_done config before w.1) (open_at h e))
    (open_at (after_packet h heard now) (heard_stays h heard now w.0 ∙ e))

-- ---- the calls of one node

-- what `spk_host` says of each node along any list of calls
abbrev pub Orders : Type 0
Orders = (config : Config) (calls : List Call) (group name : List ℕ) →
    (node_or (fresh_node config.wait config.width) (host_after config calls).nodes group name).order ≡
    order_after config.wait config.width (since_end (node_calls calls group name))

abbrev pub Stays : Type 0
Stays = (config : Config) (calls : List Call) → (host_after config calls).session.config ≡ config

message_no_end : (m : NumberedData) (now : ℕ) (inputs : List node.Input) (b : Bool) → since_end inputs ≡ inputs →
    since_end (cond b (node.Comes m now ∷ inputs) inputs) ≡ cond b (node.Comes m now ∷ inputs) inputs
message_no_end m now inputs true e = ap (λ l. node.Comes m now ∷ l) e
message_no_end m now inputs false e = e

death_no_end : (bd : ℕ) (inputs : List node.Input) (b : Bool) → since_end inputs ≡ inputs →
    since_end (cond b (node.Dies bd ∷ inputs) inputs) ≡ cond b (node.Dies bd ∷ inputs) inputs
death_no_end bd inputs true e = ap (λ l. node.Dies bd ∷ l) e
death_no_end bd inputs false e = e

heard_no_end : (heard : HeardData) (now : ℕ) (group name : List ℕ) (inputs : List node.Input) → IsWelcome (Some heard) → since_end inputs ≡ inputs →
    since_end (with_heard heard now group name inputs) ≡ with_heard heard now group name inputs
heard_no_end (said.Published ack (said.Message m)) now group name inputs w e = message_no_end m now inputs (is_same group name m.group m.node) e
heard_no_end (said.Published ack (said.Death other_group other_name bd)) now group name inputs w e =
    death_no_end bd inputs (is_same group name other_group other_name) e
heard_no_end (said.Published ack said.Nothing) now group name inputs w e = e
heard_no_end (said.Answered code) now group name inputs w e = rw w e
heard_no_end said.Granted now group name inputs w e = e
heard_no_end said.Other now group name inputs w e = e

pub no_end : (told : List (Option HeardData)) (group name : List ℕ) → AreWelcome told →
    since_end (node_calls (asked told) group name) ≡ node_calls (asked told) group name
no_end [] group name w = refl
no_end (None ∷ before) group name w = ap (λ l. node.Ticks (length before + 1) ∷ l) (no_end before group name w.1)
no_end (Some heard ∷ before) group name w =
    ap (λ l. node.Ticks (length before + 1) ∷ l)
    (heard_no_end heard (length before + 1) group name (node_calls (asked before) group name) w.0 (no_end before group name w.1))

-- ---- what it consumes

both : (a b : Bool) → a && b ≡ true → (a ≡ true) × (b ≡ true)
both true true e = (refl, refl)
both true false e = absurd (cc)
both false b e = absurd (cc)

names_are : (group name other_group other_name : List ℕ) → is_same group name other_group other_name ≡ true →
    (other_group ≡ group) × (other_name ≡ name)
names_are group name other_group other_name e =
    let h = both (bytes_eq group other_group) (bytes_eq name other_name) e in
    (sym ((bytes_eq-Decides group other_group).0 h.0), sym ((bytes_eq-Decides name other_name).0 h.1))

at_message : Orders → Stays → (config : Config) (before : List (Option HeardData)) (ack : Option ℕ) (m : NumberedData) (group name : List ℕ) →
    AreWelcome before → is_same group name m.group m.node ≡ true →
    consumed_at config before (Some (said.Published ack (said.Message m))) ≡
    taken_of (order_after config.wait config.width (node_calls (asked before) group name)) m (length before + 1)
at_message orders stays config before ack m group name w same =
    let now = length before + 1 in
    let call = Heard (said.Published ack (said.Message m)) now in
    let h = host_after config (asked before) in
    let names = names_are group name m.group m.node same in
    let wait = config.wait in
    let width = config.width in
    ap (λ l. (answer_at (host_after config l) call).consumed) (all_done config before w)
    ∙ ap (λ (o : OutData). o.consumed) (answer_yes call h (open_at h (in_session config before w)))
    ∙ ap (λ (c : Config). taken_of (node_or (fresh_node c.wait c.width) h.nodes m.group m.node).order m now) (stays config (asked before))
    ∙ ap (λ o. taken_of o m now) (orders config (asked before) m.group m.node)
    ∙ ap (λ l. taken_of (order_after wait width l) m now) (no_end before m.group m.node w)
    ∙ ap (λ g. taken_of (order_after wait width (node_calls (asked before) g m.node)) m now) names.0
    ∙ ap (λ n. taken_of (order_after wait width (node_calls (asked before) group n)) m now) names.1

message_taken : (wait width now : ℕ) (m : NumberedData) (inputs : List node.Input) (own consumed : List NumberedData) (b : Bool) →
    own ≡ all_taken wait width inputs → (b ≡ true → consumed ≡ taken_of (order_after wait width inputs) m now) →
    own ++ cond b consumed [] ≡ all_taken wait width (cond b (node.Comes m now ∷ inputs) inputs)
message_taken wait width now m inputs own consumed true e t = ap (λ l. l ++ consumed) e ∙ ap (λ l. all_taken wait width inputs ++ l) (t refl)
message_taken wait width now m inputs own consumed false e t = append-nil own ∙ e

death_taken : (wait width bd : ℕ) (inputs : List node.Input) (own : List NumberedData) (b : Bool) → own ≡ all_taken wait width inputs →
    own ++ [] ≡ all_taken wait width (cond b (node.Dies bd ∷ inputs) inputs)
death_taken wait width bd inputs own true e = ap (λ l. l ++ []) e
death_taken wait width bd inputs own false e = append-nil own ∙ e

heard_taken : Orders → Stays → (config : Config) (before : List (Option HeardData)) (heard : HeardData) (group name : List ℕ) (own : List NumberedData) →
    AreWelcome (Some heard ∷ before) → own ≡ all_taken config.wait config.width (node_calls (asked before) group name) →
    own ++ of_node group name (Some heard) (consumed_at config before (Some heard)) ≡
    all_taken config.wait config.width (with_heard heard (length before + 1) group name (node_calls (asked before) group name))
heard_taken orders stays config before (said.Published ack (said.Message m)) group name own w e =
    message_taken config.wait config.width (length before + 1) m (node_calls (asked before) group name) own
    (consumed_at config before (Some (said.Published ack (said.Message m)))) (is_same group name m.group m.node) e
    (at_message orders stays config before ack m group name w.1)
heard_taken orders stays config before (said.Published ack (said.Death other_group other_name bd)) group name own w e =
    death_taken config.wait config.width bd (node_calls (asked before) group name) own (is_same group name other_group other_name) e
heard_taken orders stays config before (said.Published ack said.Nothing) group name own w e = append-nil own ∙ e
heard_taken orders stays config before (said.Answered code) group name own w e = rw w.0 (append-nil own ∙ e)
heard_taken orders stays config before said.Granted group name own w e = append-nil own ∙ e
heard_taken orders stays config before said.Other group name own w e = append-nil own ∙ e

pub all_of_node : Orders → Stays → (config : Config) (told : List (Option HeardData)) (group name : List ℕ) → AreWelcome told →
    consumed_of config group name told ≡ all_taken config.wait config.width (node_calls (asked told) group name)
all_of_node orders stays config [] group name w = refl
all_of_node orders stays config (None ∷ before) group name w =
    ap (λ l. l ++ []) (all_of_node orders stays config before group name w.1)
all_of_node orders stays config (Some heard ∷ before) group name w =
    heard_taken orders stays config before heard group name (consumed_of config group name before) w
    (all_of_node orders stays config before group name w.1)
    ∙ sym (append-nil (all_taken config.wait config.width (with_heard heard (length before + 1) group name (node_calls (asked before) group name))))

-- ---- what was kept of items

map_reverse : {X Y : Type 0} (f : X → Y) (xs : List X) → map f (reverse xs) ≡ reverse (map f xs)
map_reverse f [] = refl
map_reverse f (x ∷ xs) =
    ap (map f) (reverse-append (x ∷ []) xs) ∙ map-append f (reverse xs) (x ∷ []) ∙ ap (λ l. l ++ f x ∷ []) (map_reverse f xs)
    ∙ sym (reverse-append (f x ∷ []) (map f xs))

-- newest first
from_newest : (config : Config) (group name : List ℕ) (given : List Given) → map consumed_in given ≡ consumptions config (map heard_in given) →
    flat_map (consumed_for group name) (reverse given) ≡ consumed_of config group name (map heard_in given)
from_newest config group name [] e = refl
from_newest config group name (g ∷ before) e =
    let h = same_cons (consumed_in g) (consumed_at config (map heard_in before) (heard_in g)) (map consumed_in before) (consumptions config (map heard_in before)) e in
    ap (flat_map (consumed_for group name)) (reverse-append (g ∷ []) before)
    ∙ flat_map-append (consumed_for group name) (reverse before) (g ∷ [])
    ∙ ap (λ l. flat_map (consumed_for group name) (reverse before) ++ l) (append-nil (consumed_for group name g))
    ∙ ap (λ l. l ++ consumed_for group name g) (from_newest config group name before h.1)
    ∙ ap (λ l. consumed_of config group name (map heard_in before) ++ of_node group name (heard_in g) l) h.0
  where
    same_cons : (a b : List NumberedData) (xs ys : List (List NumberedData)) → a ∷ xs ≡ b ∷ ys → (a ≡ b) × (xs ≡ ys)
    same_cons a b xs ys e = (cc, cc)

pub kept_of_node : (config : Config) (given : List Given) (group name : List ℕ) → consumed_by given ≡ consumptions config (told_in given) →
    flat_map (consumed_for group name) given ≡ consumed_of config group name (told_in given)
kept_of_node config given group name e =
    ap (flat_map (consumed_for group name)) (sym (reverse-reverse given))
    ∙ from_newest config group name (reverse given)
    (map_reverse consumed_in given ∙ e ∙ ap (consumptions config) (sym (map_reverse heard_in given)))
    ∙ ap (consumed_of config group name) (map_reverse heard_in given)
