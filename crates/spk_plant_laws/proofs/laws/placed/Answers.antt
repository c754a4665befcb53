use Rattle.std.proofs.Common.{◌≡◌, ◌∙◌, sym, ap, ◌-◌, ◌*◌, ℕ, [], length, map, reverse, append-nil, subst, List}
use Rattle.spk_plant_broker.specs.Log.{accepted_of, taken_of}
use Rattle.spk_plant_host.specs.Told.{heard_in, told_in}
use Rattle.spk_ingress.specs.declared.rule.Message.{Message}
use Rattle.spk_plan_rules.specs.Plan.{host_in}
use Rattle.spk_plant_relay.proofs.Tells.{PacketFacts}
use Rattle.spk_plant_laws.specs.Placed.{ArePlaced}
use Rattle.spk_plant_laws.specs.Places.{inputs_at, is_topic_at, published_at, setup_at, shown_at}
use Rattle.spk_plant_laws.proofs.Placed.{one-list, places-of, read-messages}
use Rattle.spk_plant_laws.proofs.laws.placed.Goals as goal

packets : goal.After-shown → PacketFacts
packets c = record { prefix = c.prefix_free.ensures; spells = c.spelling_spells.ensures }

pub returns-clause-shown : goal.returns-clause-shown
returns-clause-shown c = λ p r k can made ran below.
    let s = setup_at p k in
    let told = told_in r.given.items in
    let heard = (c.running.ensures.heard p r k can made ran below).heard in
    let plant = c.plant.ensures.is_plant p r can made ran in
    let others = c.shown.ensures.others p.width (length p.nodes.items) k (setup_at p) (inputs_at r) (host_in p) told ran.log below plant in
    let places = places-of (packets c) (256 - 2 * p.width) (length p.nodes.items) (is_topic_at p k) k s.config.group s.config.node r.taken.items ran.log []
    (map heard_in r.given.items) ran.logged.is_log others (ran.logged.taken ∙ sym (append-nil (taken_of ran.log))) ran.host.told in
    subst (λ (counts : List ℕ). ArePlaced (is_topic_at p k) k s.config.group s.config.node r.taken.items told (reverse counts) (shown_at p ran.log k)) (sym ran.logged.accepted)
    (places.placed (read-messages s (published_at p r k) heard.inputs told (shown_at p ran.log k) s.config.group s.config.node heard.read heard.shown))

pub returns-clause-only : goal.returns-clause-only
returns-clause-only c = λ p r k one other x y.
    one-list (is_topic_at p k) k (setup_at p k).config.group (setup_at p k).config.node r.taken.items (told_in r.given.items) (reverse r.accepted.items) one other x y
