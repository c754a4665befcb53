-- What is relayed keeps the order at every moment.
use Rattle.std.proofs.Common.{ℕ, List, ◌∷◌, ◌++◌, subst}
use Rattle.spk_sequence.specs.Claims.{AfterDeath, AfterGap, BirthPrefixes, HasCause, SameStep, TakesBirth}
use Rattle.spk_sequence.specs.HostRecord.{Input, MessageComes, consumed_of, record_of}
use Rattle.spk_sequence.specs.NodeRecord.{Setting}
use Rattle.spk_edge_rules.specs.Config.{Setup}
use Rattle.spk_edge_rules.specs.Run.{Message}
use Rattle.spk_host_node.specs.Inputs as node
use Rattle.spk_tie.specs.Tie.{host_setting}
use Rattle.spk_plant_relay.specs.Given.{IsHeard}
use Rattle.spk_plant_relay.specs.Relayed.{IsRelayed}
use Rattle.spk_plant_laws.specs.Moments.{HoldsAfter, HoldsAlways, HoldsAt, KeepsOrder, doing}

-- the laws on what is relayed
pub record Laws : Type 0 where
  pub before : (s : Setting) (later inputs : List Input) → IsRelayed s (later ++ inputs) → IsRelayed s inputs
  pub prefixes : (s : Setting) (inputs : List Input) → IsRelayed s inputs → BirthPrefixes s.published (consumed_of (record_of s inputs))
  pub cause : (s : Setting) (inputs : List Input) → IsRelayed s inputs → HasCause s (record_of s inputs)
  pub after_gap : (s : Setting) (inputs : List Input) (input : Input) → IsRelayed s (input ∷ inputs) → AfterGap s (record_of s inputs) (doing s inputs input)
  pub after_death : (s : Setting) (inputs : List Input) (input : Input) → IsRelayed s (input ∷ inputs) → AfterDeath s (record_of s inputs) (doing s inputs input)
  pub steps : (s : Setting) (inputs : List Input) (input : Input) → IsRelayed s (input ∷ inputs) → SameStep s inputs input
  pub births : (s : Setting) (inputs : List Input) (p now : ℕ) → IsRelayed s (MessageComes p now ∷ inputs)
      → TakesBirth s (record_of s inputs) p (doing s inputs (MessageComes p now))

holds_after : Laws → (s : Setting) (before : List Input) → IsRelayed s before → HoldsAfter s before
holds_after laws s before h = record { prefixes = laws.prefixes s before h; cause = laws.cause s before h }

holds_at : Laws → (s : Setting) (before : List Input) (input : Input) → IsRelayed s (input ∷ before) → HoldsAt s before input
holds_at laws s before input h = record {
  after_gap = laws.after_gap s before input h;
  after_death = laws.after_death s before input h;
  step = laws.steps s before input h;
  birth = λ p now is. laws.births s before p now (subst (λ i. IsRelayed s (i ∷ before)) is h);
}

pub holds_always : Laws → (s : Setting) (inputs : List Input) → IsRelayed s inputs → HoldsAlways s inputs
holds_always laws s inputs h = record {
  after = λ later before is. holds_after laws s before (laws.before s later before (subst (IsRelayed s) is h));
  at_each = λ later before input is. holds_at laws s before input (laws.before s later (input ∷ before) (subst (IsRelayed s) is h));
}

pub keeps_order : Laws → (s : Setup) (published : List Message) (wait width : ℕ) (positions : List ℕ) (told : List node.Input)
    → IsHeard s published wait width positions told → KeepsOrder s published wait width positions told
keeps_order laws s published wait width positions told h = record {
  heard = h;
  always = holds_always laws (host_setting s published wait width) h.inputs h.relayed;
}
