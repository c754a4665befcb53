-- What a host consumed by a moment is what the record consumes by then.
use Rattle.std.proofs.Common.{◌≡◌, ◌∙◌, sym, ap, refl, subst, ℕ, ◌+◌, ◌<◌, ◌≤◌, Bool, true, false, cond, List, [], ◌∷◌, ◌++◌, length, map, reverse, append_assoc, Option, Some, None, arith}
use Rattle.std.specs.List.{flat_map}
use Rattle.std.specs.Prelude.{◌==◌}
use Rattle.std.proofs.lemmas.List.{length-map, length-reverse, map-append, reverse-append}
use Rattle.spk_sequence.specs.HostRecord as order
use Rattle.spk_sequence.specs.HostRecord.{Input, record_of}
use Rattle.spk_reading.specs.Data as said
use Rattle.spk_reading.specs.Data.{HeardData, NumberedData}
use Rattle.spk_edge_rules.specs.Config.{Setup}
use Rattle.spk_edge_rules.specs.Run.{Message}
use Rattle.spk_tie.specs.Tie.{host_setting}
use Rattle.spk_heard.specs.Read.{AreMessagesAt, AreRead, all_taken}
use Rattle.spk_host.specs.Inputs.{is_same, node_calls, with_heard}
use Rattle.spk_host_node.specs.Inputs as node
use Rattle.spk_host_session.specs.Data.{Config}
use Rattle.spk_plant_host.specs.Told.{AreWelcome, asked, consumed_at, consumed_by, consumed_for, consumed_in, consumed_of, consumptions, heard_in, told_in}
use Rattle.spk_plant_host.specs.declared.ends.Given.{Given}
use Rattle.spk_plant_laws.specs.Consumed.{IsConsumedBy, IsTied, IsTiedBy}

-- the laws on what a host consumes
pub record Laws : Type 0 where
  pub session : (s : Setup) (published : List Message) (wait width : ℕ) (is : List Input) (js : List node.Input) → 0 < width → width ≤ 96 →
      AreRead s published is js → AreMessagesAt s published (order.consumed_of (record_of (host_setting s published wait width) is)) (all_taken wait width js)
  pub consumed : (config : Config) (told : List (Option HeardData)) (group name : List ℕ) → AreWelcome told →
      consumed_of config group name told ≡ all_taken config.wait config.width (node_calls (asked told) group name)
  pub kept : (config : Config) (given : List Given) (group name : List ℕ) → consumed_by given ≡ consumptions config (told_in given) →
      flat_map (consumed_for group name) given ≡ consumed_of config group name (told_in given)

-- ---- the first items

pub told-parts : (first rest : List Given) → told_in (first ++ rest) ≡ told_in rest ++ told_in first
told-parts first rest = ap reverse (map-append heard_in first rest) ∙ reverse-append (map heard_in first) (map heard_in rest)

by-parts : (first rest : List Given) → consumed_by (first ++ rest) ≡ consumed_by rest ++ consumed_by first
by-parts first rest = ap reverse (map-append consumed_in first rest) ∙ reverse-append (map consumed_in first) (map consumed_in rest)

as-many : (given : List Given) → length (consumed_by given) ≡ length (told_in given)
as-many given =
    length-reverse (map consumed_in given) ∙ length-map given consumed_in ∙ sym (length-reverse (map heard_in given) ∙ length-map given heard_in)

tail-of : (a b : List NumberedData) (xs ys : List (List NumberedData)) → a ∷ xs ≡ b ∷ ys → xs ≡ ys
tail-of a b xs ys e = cc

consumed-first : (config : Config) (xs before : List (Option HeardData)) (cs ds : List (List NumberedData)) → length cs ≡ length xs →
    cs ++ ds ≡ consumptions config (xs ++ before) → ds ≡ consumptions config before
consumed-first config [] before [] ds size e = e
consumed-first config [] before (c ∷ cs) ds size e = absurd (omega (arith, size))
consumed-first config (x ∷ xs) before [] ds size e = absurd (omega (arith, size))
consumed-first config (x ∷ xs) before (c ∷ cs) ds size e =
    consumed-first config xs before cs ds (omega (arith, size)) (tail-of c (consumed_at config (xs ++ before) x) (cs ++ ds) (consumptions config (xs ++ before)) e)

pub kept-first : (config : Config) (first rest : List Given) → consumed_by (first ++ rest) ≡ consumptions config (told_in (first ++ rest)) →
    consumed_by first ≡ consumptions config (told_in first)
kept-first config first rest e =
    consumed-first config (told_in rest) (told_in first) (consumed_by rest) (consumed_by first) (as-many rest)
    (sym (by-parts first rest) ∙ e ∙ ap (consumptions config) (told-parts first rest))

pub welcome-first : (xs before : List (Option HeardData)) → AreWelcome (xs ++ before) → AreWelcome before
welcome-first [] before w = w
welcome-first (x ∷ xs) before w = welcome-first xs before w.1

-- ---- what a node is told only grows

one-heard : (heard : HeardData) (now : ℕ) (group name : List ℕ) (before : List node.Input) →
    (more : List node.Input) × (with_heard heard now group name before ≡ more ++ before)
one-heard (said.Published ack (said.Message m)) now group name before = by (is_same group name m.group m.node)
  where
    by : (b : Bool) → (more : List node.Input) × (cond b (node.Comes m now ∷ before) before ≡ more ++ before)
    by true = (node.Comes m now ∷ [], refl)
    by false = ([], refl)
one-heard (said.Published ack (said.Death other_group other_name bd)) now group name before = by (is_same group name other_group other_name)
  where
    by : (b : Bool) → (more : List node.Input) × (cond b (node.Dies bd ∷ before) before ≡ more ++ before)
    by true = (node.Dies bd ∷ [], refl)
    by false = ([], refl)
one-heard (said.Published ack said.Nothing) now group name before = ([], refl)
one-heard (said.Answered code) now group name before = by (code == 0)
  where
    by : (b : Bool) → (more : List node.Input) × (cond b before (node.Ends ∷ before) ≡ more ++ before)
    by true = ([], refl)
    by false = (node.Ends ∷ [], refl)
one-heard said.Granted now group name before = ([], refl)
one-heard said.Other now group name before = ([], refl)

calls-more : (xs before : List (Option HeardData)) (group name : List ℕ) →
    (more : List node.Input) × (node_calls (asked (xs ++ before)) group name ≡ more ++ node_calls (asked before) group name)
calls-more [] before group name = ([], refl)
calls-more (None ∷ xs) before group name =
    let m = calls-more xs before group name in
    (node.Ticks (length (xs ++ before) + 1) ∷ m.0, ap (λ l. node.Ticks (length (xs ++ before) + 1) ∷ l) m.1)
calls-more (Some heard ∷ xs) before group name =
    let m = calls-more xs before group name in
    let h = one-heard heard (length (xs ++ before) + 1) group name (node_calls (asked (xs ++ before)) group name) in (
      node.Ticks (length (xs ++ before) + 1) ∷ (h.0 ++ m.0),
      ap (λ l. node.Ticks (length (xs ++ before) + 1) ∷ l)
          (h.1 ∙ ap (λ l. h.0 ++ l) m.1 ∙ sym (append_assoc h.0 m.0 (node_calls (asked before) group name))),
    )

read-parts : (s : Setup) (published : List Message) (is : List Input) (more js : List node.Input) → AreRead s published is (more ++ js) →
    (later before : List Input) × (is ≡ later ++ before) × AreRead s published before js
read-parts s published is [] js read = ([], is, refl, read)
read-parts s published [] (m ∷ more) js read = absurd read
read-parts s published (i ∷ is) (m ∷ more) js read =
    let r = read-parts s published is more js read.1 in (i ∷ r.0, r.1, ap (λ l. i ∷ l) r.2, r.3)

-- ---- what was consumed

pub tied-whole : Laws → (s : Setup) (published : List Message) (config : Config) (inputs : List Input) (given : List Given) → 0 < config.width → config.width ≤ 96 →
    AreRead s published inputs (node_calls (asked (told_in given)) s.config.group s.config.node) → AreWelcome (told_in given) →
    consumed_by given ≡ consumptions config (told_in given) → IsConsumedBy s published config.wait config.width inputs given
tied-whole laws s published config inputs given some most read welcome kept =
    subst (AreMessagesAt s published (order.consumed_of (record_of (host_setting s published config.wait config.width) inputs)))
    (sym (laws.kept config given s.config.group s.config.node kept ∙ laws.consumed config (told_in given) s.config.group s.config.node welcome))
    (laws.session s published config.wait config.width inputs (node_calls (asked (told_in given)) s.config.group s.config.node) some most read)

tied-first : Laws → (s : Setup) (published : List Message) (config : Config) (inputs : List Input) (first rest : List Given) → 0 < config.width → config.width ≤ 96 →
    AreRead s published inputs (node_calls (asked (told_in (first ++ rest))) s.config.group s.config.node) → AreWelcome (told_in (first ++ rest)) →
    consumed_by (first ++ rest) ≡ consumptions config (told_in (first ++ rest)) → IsTiedBy s published config.wait config.width inputs first
tied-first laws s published config inputs first rest some most read welcome kept =
    let parts = told-parts first rest in
    let more = calls-more (told_in rest) (told_in first) s.config.group s.config.node in
    let r = read-parts s published inputs more.0 (node_calls (asked (told_in first)) s.config.group s.config.node)
    (subst (AreRead s published inputs) (ap (λ t. node_calls (asked t) s.config.group s.config.node) parts ∙ more.1) read) in
    record {
      later = r.0;
      before = r.1;
      parts = r.2;
      read = r.3;
      consumed = tied-whole laws s published config r.1 first some most r.3 (welcome-first (told_in rest) (told_in first) (subst AreWelcome parts welcome))
          (kept-first config first rest kept);
    }

pub tied-always : Laws → (s : Setup) (published : List Message) (config : Config) (inputs : List Input) (given : List Given) → 0 < config.width → config.width ≤ 96 →
    AreRead s published inputs (node_calls (asked (told_in given)) s.config.group s.config.node) → AreWelcome (told_in given) →
    consumed_by given ≡ consumptions config (told_in given) → IsTied s published config.wait config.width inputs given
tied-always laws s published config inputs given some most read welcome kept = λ first rest is.
    tied-first laws s published config inputs first rest some most
    (subst (λ (g : List Given). AreRead s published inputs (node_calls (asked (told_in g)) s.config.group s.config.node)) is read)
    (subst (λ (g : List Given). AreWelcome (told_in g)) is welcome)
    (subst (λ (g : List Given). consumed_by g ≡ consumptions config (told_in g)) is kept)
