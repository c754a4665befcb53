-- What retained messages weigh, as far as it tells whether a SUBSCRIBE is given too much.
use Rattle.std.specs.Prelude.{ℕ, ◌+◌, min, List}
use Rattle.spk_broker_rules.specs.Data as plain
use Rattle.spk_broker_rules.specs.Words.{weight_of}

-- the first weight that is too much
abbrev pub beyond : ℕ
beyond = 67108865

-- a weight with these messages more; what is too much stays there
abbrev pub heaped : ℕ → List plain.AppMessage → ℕ
heaped weight ms = min (weight + weight_of ms) beyond
