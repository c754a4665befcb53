use Rattle.std.proofs.Common.{◌∙◌, ap, map}
use Rattle.spk_device.specs.Book as book
use Rattle.spk_names.specs.Names.{number_in}
use Rattle.spk_device.specs.View.{device_view}
use Rattle.spk_device.proofs.BookLemmas.{number_in-devices}
use Rattle.spk_device.proofs.registry.Registry.device_number.Goals as goal

pub returns : goal.returns
returns c =
    c.find.ensures
    ∙ ap (λ names. number_in names c.args.name.now) c.self.invariant.numbers
    ∙ number_in-devices 0 (map device_view c.self.inside.devices.items) c.args.name.now
    ∙ ap (λ b. book.number_of b c.args.name.now) c.self.view_is
