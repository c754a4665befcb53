-- What a routed message does to all sessions.
use Rattle.std.specs.Prelude.{◌++◌, ◌∷◌, [], List, map, if◌then◌else◌}
use Rattle.std.specs.List.{flat_map}
use Rattle.spk_broker_rules.specs.Data as plain
use Rattle.spk_broker_rules.specs.Step.{Served}
use Rattle.spk_broker.specs.Drafts.{Drafted}
use Rattle.spk_broker.specs.Sent.{outgoing}

-- what it does to each, in their order, put behind what was there
abbrev pub with_round : (plain.Session → Served) → List plain.Session → Drafted → Drafted
with_round f ss d = record d {
  sends = d.sends ++ map outgoing (flat_map (λ (s : plain.Session). (f s).sends) ss);
  closes = d.closes ++ flat_map (λ (s : plain.Session). (f s).closes) ss;
  waiting = d.waiting ++ flat_map (λ (s : plain.Session). (f s).wills) ss;
}

-- who is left of them
abbrev pub left_of_round : (plain.Session → Served) → List plain.Session → List plain.Session
left_of_round f ss = flat_map (λ (s : plain.Session). (f s).left) ss

-- a message with RETAIN is to be retained
abbrev pub kept_with : plain.AppMessage → List plain.AppMessage → List plain.AppMessage
kept_with m keeps = if m.retain then keeps ++ m ∷ [] else keeps
