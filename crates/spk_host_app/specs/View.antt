-- What contracts see of the crate's types.
use Rattle.std.specs.Option.{option_map}
use Rattle.std.specs.String.{string_bytes}
use Rattle.spk_topics.specs.Spark.{named}
use Rattle.spk_reading.specs.View.{numbered_view}
use Rattle.spk_host_app.specs.Data as plain
use Rattle.spk_host_app.specs.declared.login.Login.{Login}
use Rattle.spk_host_app.specs.declared.said.Said.{Said}
use Rattle.spk_host_app.specs.declared.said.Said.TheVariants as said

abbrev pub login_view : Login → plain.LoginData
login_view l = record { user = string_bytes l.user; password = option_map (λ p. p.items) l.password }

abbrev pub word : Said → plain.Word
word (said.Consumed message) = plain.Consumed (numbered_view message)
word (said.Step step) = plain.Became step
word (said.Death group node) = plain.Died (string_bytes group) (string_bytes node)
word (said.Lost group node loss) = plain.Dropped (string_bytes group) (string_bytes node) loss
word said.Granted = plain.Granted
word (said.Asked topic) = plain.Asked (named topic)
word (said.Refused fault topic) = plain.Refused fault (string_bytes topic)
word (said.TurnedAway code) = plain.TurnedAway code
word said.SubscriptionRefused = plain.SubscriptionRefused
word said.Ended = plain.Ended
