-- The topics of an edge node's numbered messages (Sparkplug 3.0.0, chapter 4): NBIRTH, NDATA, DBIRTH, DDATA and DDEATH.
use Rattle.std.specs.Prelude.{ℕ, ◌&&◌, Bool, false, List}
use Rattle.std.specs.Option.{option_map_or}
use Rattle.std.specs.Str.{bytes_eq}
use Rattle.spk_topics.specs.Spark.{Named, named_at}
use Rattle.spk_topics.specs.Spark.Named.{of_node, of_device, of_state}
use Rattle.spk_topics.specs.declared.spark.Verb.TheVariants.{Birth, Death, Data, Command}

-- a numbered message of the node of these names
abbrev pub is_numbered_name : (group node : List ℕ) → Named → Bool
is_numbered_name group node (of_node g Birth n) = bytes_eq g group && bytes_eq n node
is_numbered_name group node (of_node g Data n) = bytes_eq g group && bytes_eq n node
is_numbered_name group node (of_node g Death n) = false
is_numbered_name group node (of_node g Command n) = false
is_numbered_name group node (of_device g Birth n d) = bytes_eq g group && bytes_eq n node
is_numbered_name group node (of_device g Data n d) = bytes_eq g group && bytes_eq n node
is_numbered_name group node (of_device g Death n d) = bytes_eq g group && bytes_eq n node
is_numbered_name group node (of_device g Command n d) = false
is_numbered_name group node (of_state h) = false

unfoldable pub is_numbered_topic : (group node : List ℕ) → List ℕ → Bool
is_numbered_topic group node topic = option_map_or (is_numbered_name group node) (named_at topic) false
