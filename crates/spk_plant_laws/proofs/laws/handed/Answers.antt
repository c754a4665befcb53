use Rattle.std.proofs.Common.{◌≡◌, ◌∙◌, ◌<◌, ◌-◌, sym, ap, subst, ℕ, [], length, map, reverse, append-nil, Some}
use Rattle.std.specs.List.{flat_map, slice_get}
use Rattle.std.specs.Option.{option_map_or}
use Rattle.std.proofs.lemmas.List.{length-map, length-reverse, reverse-reverse}
use Rattle.spk_sequence.specs.HostRecord.{consumed_of, record_of}
use Rattle.spk_edge_rules.specs.Config.{Setup}
use Rattle.spk_edge_rules.specs.Run.{opened, run_of}
use Rattle.spk_heard.specs.Read.{AreMessagesAt, AreRead}
use Rattle.spk_host.specs.Inputs.{node_calls}
use Rattle.spk_plant_host.specs.Told.{asked, consumed_for, heard_in, told_in}
use Rattle.spk_plant_given.specs.Handed.{AreHanded, handed_in, with_moments}
use Rattle.spk_plan_rules.specs.Plan.{host_in, setup_in}
use Rattle.spk_plan.specs.declared.plan.Plan.{Plan}
use Rattle.spk_plant.specs.Report.{RunsAs}
use Rattle.spk_plant.specs.declared.report.NodeReport.{NodeReport}
use Rattle.spk_plant.specs.declared.report.Report.{Report}
use Rattle.spk_plant_relay.specs.Topics.{is_numbered_topic}
use Rattle.spk_plant_relay.specs.Relayed.{IsRelayed, positions_in}
use Rattle.spk_plant_laws.specs.Deaths.{AreOpened}
use Rattle.spk_plant_laws.specs.Handed.{handed_at, setting_at}
use Rattle.spk_plant_laws.specs.Moments.{HoldsAlways}
use Rattle.spk_plant_laws.specs.Places.{inputs_at, is_topic_at, no_setup, published_at, setup_at, shown_at}
use Rattle.spk_plant_laws.proofs.Counted as counted
use Rattle.spk_plant_laws.proofs.Handed.{Reads, heard-so, reads-so, same-positions}
use Rattle.spk_plant_laws.proofs.Moments.{holds_always}
use Rattle.spk_plant_laws.proofs.laws.handed.Goals as goal

-- the node has a place in the plan
below-of : (p : Plan) (r : Report) (k : ℕ) (x : NodeReport) → RunsAs p r → slice_get r.nodes.items k ≡ Some x → k < length p.nodes.items
below-of p r k x ran at = counted.get-below p.nodes.items k (ran.handed k x at).element (ran.handed k x at).there

-- what it was made of
made-of : (p : Plan) (r : Report) (k : ℕ) (x : NodeReport) → (ran : RunsAs p r) → (at : slice_get r.nodes.items k ≡ Some x) → setup_at p k ≡ setup_in p (ran.handed k x at).element
made-of p r k x ran at = ap (λ o. option_map_or (setup_in p) o no_setup) (ran.handed k x at).there

-- what the host was handed of it, by its setup
entries-of : (p : Plan) (r : Report) (k : ℕ) (x : NodeReport) → (ran : RunsAs p r) → (at : slice_get r.nodes.items k ≡ Some x) →
    AreHanded (is_topic_at p k) k (setup_at p k).config.group (setup_at p k).config.node r.taken.items r.accepted.items (told_in r.given.items) (handed_in x.given.items)
entries-of p r k x ran at =
    subst (λ (s : Setup). AreHanded (is_numbered_topic s.config.group s.config.node) k s.config.group s.config.node r.taken.items r.accepted.items (told_in r.given.items) (handed_in x.given.items))
    (sym (made-of p r k x ran at)) (ran.handed k x at).holds.handed

as-long : (r : Report) → length (told_in r.given.items) ≡ length r.given.items
as-long r = length-reverse (map heard_in r.given.items) ∙ length-map r.given.items heard_in

pub returns-clause-heard : goal.returns-clause-heard
returns-clause-heard c = λ p r k x can made ran at.
    let s = setup_at p k in
    let below = below-of p r k x ran at in
    let told = told_in r.given.items in
    let es = handed_in x.given.items in
    let js = node_calls (asked told) s.config.group s.config.node in
    let h = (c.running.ensures.heard p r k can made ran below).heard in
    let entries = entries-of p r k x ran at in
    let same : positions_in es ≡ shown_at p ran.log k =
    same-positions (is_topic_at p k) k s.config.group s.config.node r.taken.items r.accepted.items told (reverse r.accepted.items) [] (shown_at p ran.log k) es
    (sym (append-nil (reverse (reverse r.accepted.items)) ∙ reverse-reverse r.accepted.items)) entries (c.placed.ensures.shown p r k can made ran below) in
    let reads = reads-so s (published_at p r k) (is_topic_at p k) k s.config.group s.config.node r.taken.items r.accepted.items (ap (λ (z : Setup). z.bd) (made-of p r k x ran at)) told es h.inputs entries h.read
    (h.shown ∙ sym same) in
    let long : with_moments (length told) es ≡ handed_at r x = ap (λ n. with_moments n es) (as-long r) in
    let so = heard-so s (published_at p r k) p.wait p.width (shown_at p ran.log k) (with_moments (length told) es) js h
    (subst (λ ps. Reads s (published_at p r k) (with_moments (length told) es) js ps) same reads) in
    record { heard = so.0; are = so.1 ∙ long }

pub returns-clause-always : goal.returns-clause-always
returns-clause-always c = λ p r k x can made ran at.
    let h = returns-clause-heard c p r k x can made ran at in
    subst (HoldsAlways (setting_at p r k)) h.are (holds_always
    (record {
      before = c.relayed.ensures.before;
      prefixes = c.headline.ensures.prefixes;
      cause = c.headline.ensures.cause;
      after_gap = c.headline.ensures.after_gap;
      after_death = c.headline.ensures.after_death;
      steps = c.headline.ensures.steps;
      births = c.headline.ensures.births;
    })
    (setting_at p r k) h.heard.inputs h.heard.relayed)

pub returns-clause-consumed : goal.returns-clause-consumed
returns-clause-consumed c = λ p r k x can made ran at.
    let s = setup_at p k in
    let told = told_in r.given.items in
    let es = handed_in x.given.items in
    let h = returns-clause-heard c p r k x can made ran at in
    let gs = reverse r.given.items in
    let again : reverse gs ≡ r.given.items = reverse-reverse r.given.items in
    let told_same : counted.told_of gs ≡ told = sym (counted.told-same gs) ∙ ap told_in again in
    let run : counted.Run = record {
      order = record {
        laws = record { session = c.consumption.ensures.session; consumed = c.any_items.ensures.consumed; kept = c.any_items.ensures.kept };
        before = c.relayed.ensures.before;
        steps = c.headline.ensures.steps;
      };
      setup = s;
      all = published_at p r k;
      config = host_in p;
      some = made.some;
      most = made.most;
      given = r.given.items;
      welcome = c.shown.ensures.welcome p.width (length p.nodes.items) (setup_at p) (inputs_at r) (host_in p) r.given.items ran.log (c.plant.ensures.is_plant p r can made ran) ran.host.told;
      kept = ran.host.consumed;
    } in
    let size : length (counted.told_of gs) ≡ length r.given.items = ap (λ l. length l) told_same ∙ as-long r in
    let inputs : handed_at r x ≡ with_moments (length (counted.told_of gs)) es = ap (λ n. with_moments n es) (sym size) in
    let read = subst (λ t. AreRead s (published_at p r k) (handed_at r x) (node_calls (asked t) s.config.group s.config.node)) (sym told_same)
    (subst (λ is. AreRead s (published_at p r k) is (node_calls (asked told) s.config.group s.config.node)) h.are h.heard.read) in
    let so = counted.consumed-so run (is_topic_at p k) k r.taken.items r.accepted.items gs [] es (sym again ∙ sym (append-nil (reverse gs)))
    (subst (λ t. AreHanded (is_topic_at p k) k s.config.group s.config.node r.taken.items r.accepted.items t es) (sym told_same) (entries-of p r k x ran at))
    (subst (λ is. AreRead s (published_at p r k) is (node_calls (asked (counted.told_of gs)) s.config.group s.config.node)) inputs read)
    (subst (IsRelayed (setting_at p r k)) (h.are ∙ inputs) h.heard.relayed) in
    (ran.handed k x at).holds.consumed ∙ (counted.of-handed r.given.items x.given.items ∙ sym (ap (λ is. consumed_of (record_of (setting_at p r k) is)) inputs ∙ so))

pub returns-clause-unaltered : goal.returns-clause-unaltered
returns-clause-unaltered c = λ p r k x can made ran at.
    let h = returns-clause-heard c p r k x can made ran at in
    subst (λ ps. AreMessagesAt (setup_at p k) (published_at p r k) ps (flat_map (consumed_for (setup_at p k).config.group (setup_at p k).config.node) r.given.items))
    (ap (λ is. consumed_of (record_of (setting_at p r k) is)) h.are ∙ sym (returns-clause-consumed c p r k x can made ran at))
    (c.running.ensures.tied p r k can made ran (below-of p r k x ran at) (shown_at p ran.log k) h.heard)

pub returns-clause-sessions : goal.returns-clause-sessions
returns-clause-sessions c = λ p r k x can made ran at.
    let h = returns-clause-heard c p r k x can made ran at in
    subst (AreOpened (opened (run_of (setup_at p k) (inputs_at r k)))) h.are
    (c.own_deaths.ensures.sessions p r k can made ran (below-of p r k x ran at) (shown_at p ran.log k) h.heard)
