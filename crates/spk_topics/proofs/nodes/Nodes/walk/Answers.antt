use Rattle.std.proofs.Common.{◌++◌, ◌∙◌, ap, sym}
use Rattle.std.specs.Option.{option_map}
use Rattle.spk_topics.specs.Levels.{levels_left}
use Rattle.spk_topics.specs.Nodes.{rows_of}
use Rattle.spk_topics.specs.Paths.{path}
use Rattle.spk_topics.proofs.nodes.Nodes.walk.Goals as goal

pub returns-in_default-follow-clause-stops : goal.returns-in_default-follow-clause-stops
returns-in_default-follow-clause-stops c = λ level rest more m e edge h.
    c.in_default-follow.ensures.stops level rest more m (sym (ap (λ o. levels_left (option_map (λ left. left.now) o)) c.in-Some.is) ∙ e) edge
    (h ∙ sym c.loop-left.invariant.is ∙ ap (λ o. path (rows_of c.args.self.now) c.loop-left.number ++ levels_left (option_map (λ left. left.now) o)) c.in-Some.is)
