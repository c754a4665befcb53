use Rattle.std.proofs.Common.{◌≡◌, ◌∙◌, ◌++◌, ◌∷◌, ap, arith}
use Rattle.std.proofs.lemmas.Str.Pattern.{split_parts}
use Rattle.spk_topics.specs.Levels.{levels}
use Rattle.spk_access.proofs.Cutting.{HasNoSlash, levels-cut, levels-whole}
use Rattle.spk_access.proofs.levels.cut.Goals as goal

pub returns-in-Some-clause-levels : goal.returns-in-Some-clause-levels
returns-in-Some-clause-levels c =
    let parts = split_parts 47 c.args.text.now c.split_once.result c.split_once.ensures.cases (omega arith) in
    let here : (c.args.text.now ≡ c.in-Some.level.now ++ (47 ∷ c.in-Some.rest.now)) × HasNoSlash c.in-Some.level.now = (rw c.in-Some.is at parts) in
    ap levels here.0 ∙ levels-cut c.in-Some.level.now c.in-Some.rest.now here.1

pub returns-in-None-clause-levels : goal.returns-in-None-clause-levels
returns-in-None-clause-levels c =
    let parts = split_parts 47 c.args.text.now c.split_once.result c.split_once.ensures.cases (omega arith) in
    let here : HasNoSlash c.args.text.now = (rw c.in-None.is at parts) in
    levels-whole c.args.text.now here
