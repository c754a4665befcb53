use Rattle.std.proofs.Common.{◌∙◌, ap, string_bytes}
use Rattle.spk_names.specs.Names.{number_in}
use Rattle.spk_names.proofs.NameLemmas.{lookup-numbers}
use Rattle.spk_names.proofs.names.Names.find.Goals as goal

pub returns : goal.returns
returns c =
    c.copied.ensures
    ∙ c.get.ensures.value
    ∙ lookup-numbers string_bytes c.args.name.now c.self.inside.table.entries
    ∙ ap (λ es. number_in es c.args.name.now) c.self.view_is
