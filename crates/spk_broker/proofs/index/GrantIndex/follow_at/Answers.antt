use Rattle.std.proofs.Common.{◌∙◌, ◌++◌, ◌∷◌, [], sym}
use Rattle.spk_broker.proofs.Follows.{alike-held, none-held, touched-alike}
use Rattle.spk_broker.specs.View.{session_now}
use Rattle.std.specs.List.{flat_map}
use Rattle.spk_broker.proofs.index.GrantIndex.follow_at.Goals as goal
use Rattle.spk_broker.proofs.index.GrantIndex.follow_at.Goals.{else-is_some-via-then-is_some+else-is_any_turned, else-is_some-via-else-is_some}

pub returns-else-is_some : goal.returns-else-is_some
returns-else-is_some c o h =
    elim c.else-is_some.branch [
      | else-is_some-via-then-is_some+else-is_any_turned w ↦
          alike-held c.args.self.now.tree c.args.self.now.size c.args.sessions.now
          (touched-alike (c.args.places.now ++ c.args.place ∷ []) c.args.sessions.now c.requires (w.is_any_turned.ensures w.if-is_any_turned.false)) h
      | else-is_some-via-else-is_some w ↦ none-held c.args.self.now.tree c.args.self.now.size (flat_map session_now c.args.sessions.now) (sym c.is_some.ensures ∙ w.if-is_some.false)
    ]
