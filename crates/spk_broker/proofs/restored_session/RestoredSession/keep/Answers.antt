use Rattle.std.proofs.Common.{◌≡◌, ◌∙◌, ap, map, List, [], ◌∷◌, ◌++◌}
use Rattle.std.proofs.lemmas.List.{map-append}
use Rattle.spk_broker_rules.specs.Data as plain
use Rattle.spk_broker.specs.Parts.{app_message_view, in_flight_view}
use Rattle.spk_broker.specs.Restoring.{is_app_message, message_view}
use Rattle.spk_broker.specs.Kept.{session_view}
use Rattle.spk_broker.proofs.Restores.{kept-as}
use Rattle.spk_broker.proofs.restored_session.RestoredSession.keep.Goals as goal

pub returns-clause-done : goal.returns-clause-done
returns-clause-done c =
    let m = message_view c.args.message in
    let same : app_message_view c.in-Some.app_message ≡ m = kept-as (app_message_view c.in-Some.app_message) m (is_app_message m) c.in-Some.ensures in
    let new : plain.InFlight = record { id = c.args.id; app_message = m; handed = c.args.handed } in
    let pushed : map in_flight_view c.push.new.self.items ≡ map in_flight_view c.self.inside.in_flight.items ++ new ∷ [] =
    ap (map in_flight_view) c.in_ok-push.ensures.items
    ∙ map-append in_flight_view c.self.inside.in_flight.items _
    ∙ ap (λ (p : plain.AppMessage). map in_flight_view c.self.inside.in_flight.items ++ (record { id = c.args.id; app_message = p; handed = c.args.handed }) ∷ []) same in
    ap (λ (l : List plain.InFlight). record (session_view c.self.inside) { in_flight = l }) pushed
    ∙ ap (λ (s : plain.Session). record s { in_flight = s.in_flight ++ new ∷ [] }) c.self.view_is
