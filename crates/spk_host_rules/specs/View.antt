-- What contracts see of the crate's types.
use Rattle.spk_payload.specs.Typing.{typed_view}
use Rattle.spk_host_rules.specs.Data as plain
use Rattle.spk_host_rules.specs.declared.shown.Shown.{Shown}
use Rattle.spk_host_rules.specs.declared.shown.Shown.TheVariants.{Nothing, Typed, Other}

-- what a contract sees of what is shown
abbrev pub shown_view : Shown → plain.Shown
shown_view Nothing = plain.Nothing
shown_view (Typed value) = plain.Value (typed_view value)
shown_view Other = plain.Other
