-- Along any list of calls: what is kept of a node is what the calls that concern it leave.
use Rattle.std.proofs.Common.{◌≡◌, ◌∙◌, sym, ap, subst, refl, ℕ, Bool, true, false, cond, List, [], ◌∷◌, map}
use Rattle.std.specs.Prelude.{◌==◌}
use Rattle.spk_reading.specs.Data as said
use Rattle.spk_reading.specs.Data.{ContentData, HeardData, NumberedData}
use Rattle.spk_host_session.specs.Data.{Config}
use Rattle.spk_host_node.specs.Data.{NodeData, fresh_node}
use Rattle.spk_host_node.specs.Inputs as input
use Rattle.spk_host_node.specs.Inputs.{node_after}
use Rattle.spk_host_node.specs.Step as node
use Rattle.spk_host.specs.Data.{Entry, HostData}
use Rattle.spk_host.specs.Inputs.{Call, Heard, Ticked, Connected, Stopped, Ended, Renewed, host_after, host_with, is_same, node_calls, with_heard, with_node_call}
use Rattle.spk_host.specs.Nodes.{change_node, node_or, put_node}
use Rattle.spk_host.specs.Step.{after_packet, fresh, over_entry, tick_entry}
use Rattle.spk_host.proofs.Fresh.{fresh_death, fresh_over, fresh_tick}
use Rattle.spk_host.proofs.Kept.{changed_other, changed_same, each, names_are, put_other, put_same}

pub ticked : (wait width now : ℕ) (entries : List Entry) (group name : List ℕ) →
    node_or (fresh_node wait width) (map (tick_entry now) entries) group name ≡ node.tick (node_or (fresh_node wait width) entries group name) now
ticked wait width now entries group name =
    each (fresh_node wait width) (λ n. node.tick n now) entries group name (fresh_tick wait width now)

pub over : (wait width : ℕ) (entries : List Entry) (group name : List ℕ) →
    node_or (fresh_node wait width) (map over_entry entries) group name ≡ node.over (node_or (fresh_node wait width) entries group name)
over wait width entries group name = each (fresh_node wait width) node.over entries group name (fresh_over wait width)

-- by other names that are the same
renamed : {X : Type 0} (f : List ℕ → List ℕ → X) (group name other_group other_name : List ℕ) → is_same group name other_group other_name ≡ true →
    f group name ≡ f other_group other_name
renamed f group name other_group other_name same =
    let h = names_are group name other_group other_name same in
    ap (λ g. f g name) h.0 ∙ ap (f other_group) h.1

with_message : (wait width : ℕ) (entries : List Entry) (m : NumberedData) (now : ℕ) (inputs : List input.Input) (group name : List ℕ) →
    node_or (fresh_node wait width) entries group name ≡ node_after wait width inputs → (b : Bool) → is_same group name m.group m.node ≡ b →
    node_or (fresh_node wait width) (put_node m.group m.node (node.hand (node_or (fresh_node wait width) entries m.group m.node) m now) entries) group name
    ≡ node_after wait width (cond b (input.Comes m now ∷ inputs) inputs)
with_message wait width entries m now inputs group name before true same =
    let first = fresh_node wait width in
    let kept = node.hand (node_or first entries m.group m.node) m now in
    renamed (node_or first (put_node m.group m.node kept entries)) group name m.group m.node same
    ∙ put_same first kept entries m.group m.node
    ∙ ap (λ n. node.hand n m now) (sym (renamed (node_or first entries) group name m.group m.node same) ∙ before)
with_message wait width entries m now inputs group name before false differ =
    let first = fresh_node wait width in
    put_other first (node.hand (node_or first entries m.group m.node) m now) entries group name m.group m.node differ ∙ before

with_death : (wait width : ℕ) (entries : List Entry) (other_group other_name : List ℕ) (bd : ℕ) (inputs : List input.Input) (group name : List ℕ) →
    node_or (fresh_node wait width) entries group name ≡ node_after wait width inputs → (b : Bool) → is_same group name other_group other_name ≡ b →
    node_or (fresh_node wait width) (change_node other_group other_name (λ n. node.death n bd) entries) group name
    ≡ node_after wait width (cond b (input.Dies bd ∷ inputs) inputs)
with_death wait width entries other_group other_name bd inputs group name before true same =
    let first = fresh_node wait width in
    let change : NodeData → NodeData = λ n. node.death n bd in
    renamed (node_or first (change_node other_group other_name change entries)) group name other_group other_name same
    ∙ changed_same first change entries other_group other_name (fresh_death wait width bd)
    ∙ ap change (sym (renamed (node_or first entries) group name other_group other_name same) ∙ before)
with_death wait width entries other_group other_name bd inputs group name before false differ =
    changed_other (fresh_node wait width) (λ n. node.death n bd) entries group name other_group other_name differ ∙ before

-- the host's session is over for the node
ended : (wait width : ℕ) (entries : List Entry) (inputs : List input.Input) (group name : List ℕ) →
    node_or (fresh_node wait width) entries group name ≡ node_after wait width inputs →
    node_or (fresh_node wait width) (map over_entry entries) group name ≡ node_after wait width (input.Ends ∷ inputs)
ended wait width entries inputs group name before = over wait width entries group name ∙ ap node.over before

answered : (wait width : ℕ) (entries : List Entry) (inputs : List input.Input) (group name : List ℕ) →
    node_or (fresh_node wait width) entries group name ≡ node_after wait width inputs → (b : Bool) →
    node_or (fresh_node wait width) (cond b entries (map over_entry entries)) group name ≡ node_after wait width (cond b inputs (input.Ends ∷ inputs))
answered wait width entries inputs group name before true = before
answered wait width entries inputs group name before false = ended wait width entries inputs group name before

heard : (h : HostData) (what : HeardData) (now : ℕ) (inputs : List input.Input) (group name : List ℕ) →
    node_or (fresh h) h.nodes group name ≡ node_after h.session.config.wait h.session.config.width inputs →
    node_or (fresh h) (after_packet h what now).nodes group name ≡ node_after h.session.config.wait h.session.config.width (with_heard what now group name inputs)
heard h (said.Published ack (said.Message m)) now inputs group name before =
    with_message h.session.config.wait h.session.config.width h.nodes m now inputs group name before (is_same group name m.group m.node) refl
heard h (said.Published ack (said.Death other_group other_name bd)) now inputs group name before =
    with_death h.session.config.wait h.session.config.width h.nodes other_group other_name bd inputs group name before (is_same group name other_group other_name) refl
heard h (said.Published ack said.Nothing) now inputs group name before = before
heard h (said.Answered code) now inputs group name before =
    answered h.session.config.wait h.session.config.width h.nodes inputs group name before (code == 0)
heard h said.Granted now inputs group name before = before
heard h said.Other now inputs group name before = before

pub step : (h : HostData) (call : Call) (inputs : List input.Input) (group name : List ℕ) →
    node_or (fresh h) h.nodes group name ≡ node_after h.session.config.wait h.session.config.width inputs →
    node_or (fresh h) (host_with h call).nodes group name ≡ node_after h.session.config.wait h.session.config.width (with_node_call call group name inputs)
step h (Heard what now) inputs group name before = heard h what now inputs group name before
step h (Ticked now) inputs group name before =
    ticked h.session.config.wait h.session.config.width now h.nodes group name ∙ ap (λ n. node.tick n now) before
step h (Connected now) inputs group name before = before
step h (Stopped now) inputs group name before = ended h.session.config.wait h.session.config.width h.nodes inputs group name before
step h Ended inputs group name before = ended h.session.config.wait h.session.config.width h.nodes inputs group name before
step h (Renewed now) inputs group name before = ended h.session.config.wait h.session.config.width h.nodes inputs group name before

-- ---- who it is

heard_stays : (h : HostData) (what : HeardData) (now : ℕ) → (after_packet h what now).session.config ≡ h.session.config
heard_stays h (said.Published ack content) now = refl
heard_stays h (said.Answered code) now = refl
heard_stays h said.Granted now = refl
heard_stays h said.Other now = refl

stays : (h : HostData) (call : Call) → (host_with h call).session.config ≡ h.session.config
stays h (Heard what now) = heard_stays h what now
stays h (Ticked now) = refl
stays h (Connected now) = refl
stays h (Stopped now) = refl
stays h Ended = refl
stays h (Renewed now) = refl

pub config_stays : (config : Config) (calls : List Call) → (host_after config calls).session.config ≡ config
config_stays config [] = refl
config_stays config (call ∷ before) = stays (host_after config before) call ∙ config_stays config before

abbrev IsKeptBy : HostData → List input.Input → List ℕ → List ℕ → Config → Type 0
IsKeptBy h inputs group name c = node_or (fresh_node c.wait c.width) h.nodes group name ≡ node_after c.wait c.width inputs

pub kept : (config : Config) (calls : List Call) (group name : List ℕ) →
    node_or (fresh_node config.wait config.width) (host_after config calls).nodes group name ≡ node_after config.wait config.width (node_calls calls group name)
kept config [] group name = refl
kept config (call ∷ before) group name =
    let h = host_after config before in
    let inputs = node_calls before group name in
    let same = config_stays config before in
    subst (IsKeptBy (host_with h call) (with_node_call call group name inputs) group name) same
    (step h call inputs group name (subst (IsKeptBy h inputs group name) (sym same) (kept config before group name)))
