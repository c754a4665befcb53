use Rattle.std.proofs.Common.{◌∙◌, sym, length}
use Rattle.spk_host.specs.Inputs.{node_calls}
use Rattle.spk_plant_host.specs.Told.{asked, told_in}
use Rattle.spk_plan_rules.specs.Plan.{host_in}
use Rattle.spk_plant_laws.specs.Places.{inputs_at, published_at, setup_at, shown_at}
use Rattle.spk_plant_laws.proofs.Consumed.{Laws, tied-always, tied-whole}
use Rattle.spk_plant_laws.proofs.Moments.{keeps_order}
use Rattle.spk_plant_laws.proofs.Plants.{few_sessions}
use Rattle.spk_plant_laws.proofs.laws.running.Goals as goal

pub returns-clause-counted : goal.returns-clause-counted
returns-clause-counted c = λ p r k can made ran below.
    c.shown.ensures.counted p.width (length p.nodes.items) k (setup_at p) (inputs_at r) (host_in p) (told_in r.given.items) ran.log below
    (c.plant.ensures.is_plant p r can made ran)

pub returns-clause-few : goal.returns-clause-few
returns-clause-few c = λ p r k can made ran below.
    c.shown.ensures.few p.width (length p.nodes.items) k (setup_at p) (inputs_at r) (host_in p) (told_in r.given.items) ran.log below
    (c.plant.ensures.is_plant p r can made ran)

pub returns-clause-complete : goal.returns-clause-complete
returns-clause-complete c = λ p r k can made ran below none.
    c.shown.ensures.complete p.width (length p.nodes.items) k (setup_at p) (inputs_at r) (host_in p) (told_in r.given.items) ran.log below
    (c.plant.ensures.is_plant p r can made ran) (sym ran.logged.refused ∙ none) ran.logged.offered

pub returns-clause-heard : goal.returns-clause-heard
returns-clause-heard c = λ p r k can made ran below.
    keeps_order
    (record {
      before = c.relayed.ensures.before;
      prefixes = c.headline.ensures.prefixes;
      cause = c.headline.ensures.cause;
      after_gap = c.headline.ensures.after_gap;
      after_death = c.headline.ensures.after_death;
      steps = c.headline.ensures.steps;
      births = c.headline.ensures.births;
    })
    (setup_at p k) (published_at p r k) p.wait p.width (shown_at p ran.log k)
    (node_calls (asked (told_in r.given.items)) (setup_at p k).config.group (setup_at p k).config.node)
    (c.running.ensures.heard (length p.nodes.items) k (setup_at p) (inputs_at r) (host_in p) r.given.items ran.log below made.some made.most
    (c.plant.ensures.is_plant p r can made ran) (few_sessions p r k (c.plant.ensures.opened p r k can ran below)) ran.host.told)

pub returns-clause-consumed : goal.returns-clause-consumed
returns-clause-consumed c = λ p r k can made ran below.
    c.running.ensures.consumed (length p.nodes.items) k (setup_at p) (inputs_at r) (host_in p) r.given.items ran.log below made.some made.most
    (c.plant.ensures.is_plant p r can made ran) (few_sessions p r k (c.plant.ensures.opened p r k can ran below)) ran.host.told ran.host.consumed

consuming : goal.After-any_items → Laws
consuming c = record { session = c.consumption.ensures.session; consumed = c.any_items.ensures.consumed; kept = c.any_items.ensures.kept }

pub returns-clause-tied : goal.returns-clause-tied
returns-clause-tied c = λ p r k can made ran below positions h.
    tied-whole (consuming c) (setup_at p k) (published_at p r k) (host_in p) h.inputs r.given.items made.some made.most h.read
    (c.shown.ensures.welcome p.width (length p.nodes.items) (setup_at p) (inputs_at r) (host_in p) r.given.items ran.log (c.plant.ensures.is_plant p r can made ran) ran.host.told)
    ran.host.consumed

pub returns-clause-moments : goal.returns-clause-moments
returns-clause-moments c = λ p r k can made ran below positions h.
    tied-always (consuming c) (setup_at p k) (published_at p r k) (host_in p) h.inputs r.given.items made.some made.most h.read
    (c.shown.ensures.welcome p.width (length p.nodes.items) (setup_at p) (inputs_at r) (host_in p) r.given.items ran.log (c.plant.ensures.is_plant p r can made ran) ran.host.told)
    ran.host.consumed
