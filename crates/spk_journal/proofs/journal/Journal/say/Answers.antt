use Rattle.std.proofs.Common.{◌++◌, map, sym, ap, subst, string_bytes}
use Rattle.spk_journal.specs.Journal.{SayThatWait, Stands}
use Rattle.spk_journal.proofs.Noting.{said}
use Rattle.spk_journal.proofs.journal.Journal.say.Goals as goal

pub returns-clause-stands : goal.returns-clause-stands
returns-clause-stands c =
    let tail = c.self.inside.tail in
    λ file stands e. subst (SayThatWait (file ++ c.put.new.self.unwritten.items)) (sym (ap (map string_bytes) c.clear.ensures.items))
    (said file tail.unwritten.items c.put.new.self.unwritten.items tail.is_broken c.put.new.self.is_broken (map string_bytes c.self.inside.lines.items) c.put.ensures
    (subst (λ j. Stands file j) (sym c.self.view_is) stands) e)
