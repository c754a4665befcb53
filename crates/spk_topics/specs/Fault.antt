-- The number of each fault.
use Rattle.std.specs.Prelude.{ℕ}
use Rattle.spk_topics.specs.declared.fault.TopicFault.{TopicFault}
use Rattle.spk_topics.specs.declared.fault.TopicFault.TheVariants.{NoMemory, Empty, Wildcard, Nul, TooLong, NotSparkplug}

abbrev pub number_of : TopicFault → ℕ
number_of NoMemory = 1
number_of Empty = 20
number_of Wildcard = 21
number_of Nul = 22
number_of TooLong = 23
number_of NotSparkplug = 24
