use Rattle.std.proofs.Common.{◌∷◌}
use Rattle.spk_sequence.specs.HostRecord.{MessageComes}
use Rattle.spk_world_rules.specs.Events.{Hand}
use Rattle.spk_world_rules.specs.Queries.{consumed_of, inputs_of, published_of, setting_of}
use Rattle.spk_world_rules.proofs.Lawful.{adds, all-published, comes-near, comes-pair, hand-comes, keeps, pairs, published-more, renews}
use Rattle.spk_world_rules.proofs.Within.{within-published}
use Rattle.spk_world_rules.proofs.laws.headline.Goals as goal

pub returns-clause-prefixes : goal.returns-clause-prefixes
returns-clause-prefixes c = λ w done h n widths all.
    c.positions.ensures.fronts (setting_of w done h n) (inputs_of done h n)
    (pairs c.positions.ensures.grows c.positions.ensures.still_lawful c.published.ensures.grows c.any_list.ensures.record w done h n widths all).0

pub returns-clause-after_gap : goal.returns-clause-after_gap
returns-clause-after_gap c = λ w done e h n input widths all comes.
    let pair = comes-pair w done e h n input comes (pairs c.positions.ensures.grows c.positions.ensures.still_lawful c.published.ensures.grows c.any_list.ensures.record w (e ∷ done) h n widths all) in
    c.positions.ensures.after_gap (setting_of w done h n) (inputs_of done h n) input pair.0

pub returns-clause-after_death : goal.returns-clause-after_death
returns-clause-after_death c = λ w done e h n input widths all comes.
    let pair = comes-pair w done e h n input comes (pairs c.positions.ensures.grows c.positions.ensures.still_lawful c.published.ensures.grows c.any_list.ensures.record w (e ∷ done) h n widths all) in
    c.positions.ensures.after_death (setting_of w done h n) (inputs_of done h n) input pair.0.node pair.0.some_places pair.0.few_places
    (all-published (setting_of w done h n) (input ∷ inputs_of done h n) pair.0.may_come)

pub returns-clause-births : goal.returns-clause-births
returns-clause-births c = λ w done h n p now widths all.
    let comes = hand-comes done h n p now in
    let pair = comes-pair w done (Hand h n p now) h n (MessageComes p now) comes (pairs c.positions.ensures.grows c.positions.ensures.still_lawful c.published.ensures.grows c.any_list.ensures.record w (Hand h n p now ∷ done) h n widths all) in
    c.positions.ensures.births (setting_of w done h n) (inputs_of done h n) p now pair.0 pair.1 (comes-near w done (Hand h n p now) h n (MessageComes p now) comes all.0)

pub returns-clause-cause : goal.returns-clause-cause
returns-clause-cause c = λ w done h n widths all.
    c.positions.ensures.cause (setting_of w done h n) (inputs_of done h n)
    (pairs c.positions.ensures.grows c.positions.ensures.still_lawful c.published.ensures.grows c.any_list.ensures.record w done h n widths all).0

pub returns-clause-steps : goal.returns-clause-steps
returns-clause-steps c = λ w done e h n input widths all comes.
    let pair = comes-pair w done e h n input comes (pairs c.positions.ensures.grows c.positions.ensures.still_lawful c.published.ensures.grows c.any_list.ensures.record w (e ∷ done) h n widths all) in
    c.positions.ensures.same_steps (setting_of w done h n) (inputs_of done h n) input pair.0 pair.1 (comes-near w done e h n input comes all.0)

pub returns-clause-adds : goal.returns-clause-adds
returns-clause-adds c = adds

pub returns-clause-keeps : goal.returns-clause-keeps
returns-clause-keeps c = λ w done e h n widths all passed.
    keeps c.positions.ensures.grows c.published.ensures.grows w done e h n passed
    (pairs c.positions.ensures.grows c.positions.ensures.still_lawful c.published.ensures.grows c.any_list.ensures.record w done h n widths all.1)

pub returns-clause-renews : goal.returns-clause-renews
returns-clause-renews c = renews

pub returns-clause-published : goal.returns-clause-published
returns-clause-published c = published-more c.published.ensures.grows

pub returns-clause-within : goal.returns-clause-within
returns-clause-within c = λ w done h n p widths all there.
    within-published (published_of w done n) (consumed_of w done h n) p (returns-clause-prefixes c w done h n widths all) there
