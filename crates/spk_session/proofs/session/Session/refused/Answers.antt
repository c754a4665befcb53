use Rattle.std.proofs.Common.{◌∙◌, ap}
use Rattle.spk_session.specs.Data.{Standing}
use Rattle.spk_session.specs.Step.{verdict_of}
use Rattle.spk_session.proofs.PartLemmas.{verdict-joined}
use Rattle.spk_session.proofs.session.Session.refused.Goals as goal

pub returns-clause-answer : goal.returns-clause-answer
returns-clause-answer c =
    c.refused.ensures.answer ∙ verdict-joined c.self.inside.ids c.self.inside.budget c.args.sort
    ∙ ap (λ (s : Standing). verdict_of s c.args.sort) c.self.view_is
