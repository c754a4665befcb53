use Rattle.std.proofs.Common.{◌∙◌, map, sym}
use Rattle.spk_broker.specs.Parts.{grant_view}
use Rattle.spk_broker.specs.Tables.{found}
use Rattle.spk_broker.proofs.Requested.{last-has}
use Rattle.spk_broker.proofs.subscribe_entries.Requests.stands.Goals as goal

pub returns : goal.returns
returns c =
    c.has.ensures ∙ c.requires c.args.name.now ∙ sym (last-has c.args.name.now (found c.args.self.now.standing) (map grant_view c.args.self.now.granting.grants.items))
