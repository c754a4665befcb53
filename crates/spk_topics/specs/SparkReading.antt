-- What the parts of a text name.
use Rattle.spk_topics.specs.Spark.{Named}
use Rattle.spk_topics.specs.Spark.Named.{of_node, of_device, of_state}
use Rattle.spk_topics.specs.declared.spark.Parts.{Parts}
use Rattle.spk_topics.specs.declared.spark.Parts.TheVariants.{Node, Device, State}

abbrev pub parts_named : Parts → Named
parts_named (Node group kind node) = of_node group.now kind node.now
parts_named (Device group kind node device) = of_device group.now kind node.now device.now
parts_named (State host) = of_state host.now
