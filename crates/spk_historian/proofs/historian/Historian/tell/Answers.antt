use Rattle.std.proofs.Common.{sym, subst, ap, ◌∙◌, ◌≡◌, ◌++◌, [], Some, inl, inr, append-nil}
use Rattle.std.proofs.lemmas.Result.{err_from_is_err_and}
use Rattle.std.specs.Option.{option_map, option_map_or}
use Rattle.spk_historian.specs.Event.{event_view, name_view, node_of}
use Rattle.spk_historian.specs.Told.{IsNotNamed, Tells, naming, naming_as}
use Rattle.spk_historian.proofs.historian.Historian.tell.Goals as goal
use Rattle.spk_historian.proofs.historian.Historian.tell.Goals.{in-Some+in_ok-name, in_default}

pub returns-clause-tells : goal.returns-clause-tells
returns-clause-tells c =
    let e = event_view c.args.event.now in
    let nodes = c.args.self.now.nodes in
    λ before entries part es t.
    c.in_ok-put.ensures.tells before (entries ++ naming nodes e) part es
    (elim c.match-node_of.branch [
      | in-Some+in_ok-name w ↦
          subst (λ h. Tells before (entries ++ naming nodes e) part es h) (sym w.self-is)
          (subst (λ o. Tells before (entries ++ option_map_or (naming_as nodes) o []) part es w.name.new.self)
          (ap (option_map name_view) (sym w.in-Some.is) ∙ c.node_of.ensures)
          (w.in_ok-name.ensures.tells before entries part es t))
      | in_default w ↦
          subst (λ h. Tells before (entries ++ naming nodes e) part es h) (sym w.self-is)
          (subst (λ o. Tells before (entries ++ option_map_or (naming_as nodes) o []) part es c.args.self.now)
          (ap (option_map name_view) (sym w.in_default.is) ∙ c.node_of.ensures)
          (subst (λ more. Tells before more part es c.args.self.now) (sym (append-nil entries)) t))
    ])

pub returns-in_err-name-clause-refused : goal.returns-in_err-name-clause-refused
returns-in_err-name-clause-refused c =
    let p = err_from_is_err_and c.from_residual.result c.from_residual.ensures.1 in
    rw (p.1, p.2)
    (elim c.in_err-name.ensures.refused [
      | inl none ↦ inl none
      | inr not ↦ inr (inl (subst (λ o. IsNotNamed c.name.new.self.parts o c.in_err-name.field-0.0) (ap (option_map name_view) (sym c.in-Some.is) ∙ c.node_of.ensures) not))
    ])
