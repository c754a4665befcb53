use Rattle.std.proofs.Common.{List, ◌∷◌}
use Rattle.spk_sequence.specs.HostRecord.{Input}
use Rattle.spk_sequence.specs.NodeRecord.{IsNodeRecord, Setting}
use Rattle.spk_handed.specs.Handed.{IsHanded}
use Rattle.spk_tie.specs.Tie.{host_setting}
use Rattle.spk_lives.specs.Lives.{end_to_end, first_setup}
use Rattle.spk_lives.specs.Order.{KeepsOrder}
use Rattle.spk_lives.proofs.laws.headline_over_lives.Goals as goal

in-order : (s : Setting) (inputs : List Input) → IsNodeRecord s.published → KeepsOrder s inputs → IsHanded s inputs
in-order s inputs node k = record {
  node = node;
  some_places = k.some_places;
  few_places = k.few_places;
  published = k.published;
  rising = k.rising;
  few = k.few;
  deaths = k.deaths;
  births = k.births;
  near = k.near;
}

pub returns-clause-handed : goal.returns-clause-handed
returns-clause-handed c = λ life lives wait width inputs are keeps.
    in-order (host_setting (first_setup life lives) (end_to_end (life ∷ lives)) wait width) inputs (c.lives.ensures.record (life ∷ lives) are) keeps

pub returns-clause-prefixes : goal.returns-clause-prefixes
returns-clause-prefixes c = λ life lives wait width inputs are keeps.
    let s : Setting = host_setting (first_setup life lives) (end_to_end (life ∷ lives)) wait width in
    c.headline.ensures.prefixes s inputs (in-order s inputs (c.lives.ensures.record (life ∷ lives) are) keeps)

pub returns-clause-handed_out : goal.returns-clause-handed_out
returns-clause-handed_out c = λ life lives wait width inputs js are keeps.
    c.handed_out.ensures (first_setup life lives) (end_to_end (life ∷ lives)) wait width inputs js
    (in-order (host_setting (first_setup life lives) (end_to_end (life ∷ lives)) wait width) inputs (c.lives.ensures.record (life ∷ lives) are) keeps)
