use Rattle.std.proofs.Common.{◌∙◌, ◌+◌, ◌∷◌, [], ◌++◌, ap, sym, subst, map}
use Rattle.spk_ingress.specs.Passes.{frames_put}
use Rattle.spk_reading.specs.View.{numbered_view}
use Rattle.spk_plant_host.specs.Steps.{IsAlong}
use Rattle.spk_plant_host.proofs.Running.{along_more}
use Rattle.spk_plant_host.proofs.body.take_in.Goals as goal

pub returns-clause-along : goal.returns-clause-along
returns-clause-along g c = λ config put items along.
    subst (λ l. IsAlong config put (items ++ c.args.item.now ∷ []) l c.tick.new.self.host (frames_put c.tick.new.self.line.pass))
    (sym (c.push_reserved.ensures.items ∙ ap (λ l. l ++ c.in-Ok-tell.told ∷ []) c.reserve.ensures.items))
    (along_more config put items c.args.given.now.items c.args.item.now c.in-Ok-tell.told (c.len.result + 1)
    c.args.desk.now.host c.tell.new.desk.host c.tick.new.self.host
    (frames_put c.args.desk.now.line.pass) (frames_put c.tell.new.desk.line.pass) (frames_put c.tick.new.self.line.pass)
    (map numbered_view c.in-Ok-tick._consumed.items)
    (ap (λ n. n + 1) (c.len.ensures ∙ c.reserve.ensures.len ∙ c.args.given.now.ok.0))
    along c.in-Ok-tell.ensures.told c.in-Ok-tell.ensures.took c.in-Ok-tick.ensures.took)
