-- What the functions answer for texts that are worked out by hand.
use Rattle.std.proofs.Common.{◌≡◌, ◌∷◌, [], List, ℕ, true, false, Option, Some, None, codes, refl}
use Rattle.spk_topics.specs.Fitting.{is_match}
use Rattle.spk_topics.specs.Paths.{GoesOn, path, path_end}
use Rattle.spk_topics.specs.Rows.{Row}
use Rattle.spk_topics.specs.Spark.{Named, named_at}
use Rattle.spk_topics.specs.Spark.Named.{of_node, of_device, of_state}
use Rattle.spk_topics.specs.declared.spark.Verb.TheVariants.{Birth, Data}

abbrev nothing : Option Named
nothing = None

pub names : (named_at (codes "spBv1.0/G/NDATA/N") ≡ Some (of_node (codes "G") Data (codes "N")))
    × (named_at (codes "spBv1.0/G/DBIRTH/N/D") ≡ Some (of_device (codes "G") Birth (codes "N") (codes "D")))
    × (named_at (codes "spBv1.0/STATE/H") ≡ Some (of_state (codes "H")))
names = (refl, refl, refl)

-- a group may have the name STATE
pub a_group_named_state : named_at (codes "spBv1.0/STATE/NDATA/N") ≡ Some (of_node (codes "STATE") Data (codes "N"))
a_group_named_state = refl

-- a node's type with a device, a device's without one, a wildcard, an empty name, another prefix
pub no_names : (named_at (codes "spBv1.0/G/NDATA/N/D") ≡ nothing) × (named_at (codes "spBv1.0/G/DDATA/N") ≡ nothing)
    × (named_at (codes "spBv1.0/G/NDATA/+") ≡ nothing) × (named_at (codes "spBv1.0//NDATA/N") ≡ nothing)
    × (named_at (codes "spAv1.0/G/NDATA/N") ≡ nothing)
no_names = (refl, refl, refl, refl, refl)

pub matches_of_texts : (is_match (codes "a/#") (codes "a") ≡ true) × (is_match (codes "a/+") (codes "a") ≡ false)
    × (is_match (codes "#") (codes "$a") ≡ false) × (is_match (codes "+/b") (codes "/b") ≡ true)
matches_of_texts = (refl, refl, refl, refl)

-- ---- a tree of three nodes: the root, that of `a/b/c`, and that of a filter with one empty level

abbrev small : List Row
small = ([], []) ∷ (codes "a/b/c", (1, 0) ∷ []) ∷ ([], (2, 1) ∷ []) ∷ []

abbrev no_levels : List (List ℕ)
no_levels = []

-- the root's path has no levels, and that of an empty text has one
pub paths : (path small 0 ≡ no_levels) × (path small 1 ≡ codes "a" ∷ codes "b" ∷ codes "c" ∷ []) × (path small 2 ≡ [] ∷ []) × (path_end small 0 ≡ 0) × (path_end small 1 ≡ 6)
paths = (refl, refl, refl, refl, refl)

-- one edge has three levels
pub an_edge : GoesOn small 0 (codes "a") 1
an_edge = (codes "b" ∷ codes "c" ∷ [], refl)
