use Rattle.std.proofs.Common.{◌≡◌, ◌++◌, rules, subst}
use Rattle.spk_page.specs.Hearing.{AsksFor}
use Rattle.spk_page.proofs.client.Client.take.Goals as goal

pub returns-clause-asked : goal.returns-clause-asked
returns-clause-asked c =
    let came : c.extend_from_slice.new.self.items ≡ c.args.self.now.input ++ c.args.piece.now = search rules in
    let asked = subst (λ b. AsksFor b c.hear-asked.result.0 c.hear-asked.result.1) c.deref.ensures.value c.hear-asked.ensures in
    (came, asked, c.stage_by-self-inside.ensures)
