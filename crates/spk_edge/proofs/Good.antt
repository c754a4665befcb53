-- What a good configuration and a lawful registry come to.
use Rattle.std.proofs.Common.{◌≡◌, ℕ, true}
use Rattle.std.proofs.lemmas.Bool.{and_parts}
use Rattle.spk_topics.specs.Spark.{is_name}
use Rattle.spk_device.specs.Book.{Book}
use Rattle.spk_device.specs.Lawful.{IsLawful}
use Rattle.spk_edge_rules.specs.Claims.{HasNames}
use Rattle.spk_edge_rules.specs.Config.{Config}
use Rattle.spk_edge_rules.specs.Step as step
use Rattle.spk_edge.specs.Patch.{is_good, setup_of}

pub has-names : (c : Config) (capacity : ℕ) (r : step.Record) (b : Book) → is_good c capacity ≡ true → IsLawful b → HasNames (setup_of c capacity r b)
has-names c capacity r b good lawful =
    let p = and_parts _ _ good in
    let q = and_parts _ _ p.0 in
    let host = and_parts _ _ q.0 in
    let both = and_parts (is_name c.group) (is_name c.node) host.0 in
    record { group = both.0; node = both.1; devices = lawful.levels }
