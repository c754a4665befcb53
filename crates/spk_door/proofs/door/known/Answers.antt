use Rattle.std.proofs.Common.{◌∙◌, length, map, refl, sym, ap, true, false}
use Rattle.std.proofs.lemmas.Bool.{ltb-true}
use Rattle.std.proofs.lemmas.Option.{slice_get-map, slice_get_read}
use Rattle.std.specs.Option.{option_map}
use Rattle.spk_door.specs.View.{login_view, user_view}
use Rattle.spk_door.proofs.Users.{by-nobody, by-user, user-placed, user-unplaced}
use Rattle.spk_door.proofs.door.known.Goals as goal

pub returns-in_err-place-clause-none : goal.returns-in_err-place-clause-none
returns-in_err-place-clause-none c =
    let users = c.args.users.now in
    let login = login_view c.args.login.now in
    rw c.from_residual.ensures (by-nobody (map user_view users) login (user-unplaced users login.0 (sym c.place_of.ensures ∙ c.in_err-place.was)))

pub returns-then-knows-clause-some : goal.returns-then-knows-clause-some
returns-then-knows-clause-some c =
    let users = c.args.users.now in
    let login = login_view c.args.login.now in
    let at = slice_get_read users (length users) c.in_ok-place.place c.in_ok-user.user.now refl (ltb-true _ _ (sym c.in_ok-user.ensures.lookup.0)) c.in_ok-user.ensures.lookup.1 in
    let named = user-placed users login.0 c.in_ok-place.place c.in_ok-user.user.now (sym c.place_of.ensures ∙ c.in_ok-place.was) at in
    (user_view c.in_ok-user.user.now, slice_get-map user_view users c.in_ok-place.place ∙ ap (option_map user_view) at, by-user (map user_view users) login (user_view c.in_ok-user.user.now) true named (sym c.if-knows.ensures))

pub returns : goal.returns
returns c =
    let users = c.args.users.now in
    let login = login_view c.args.login.now in
    let at = slice_get_read users (length users) c.in_ok-place.place c.in_ok-user.user.now refl (ltb-true _ _ (sym c.in_ok-user.ensures.lookup.0)) c.in_ok-user.ensures.lookup.1 in
    let named = user-placed users login.0 c.in_ok-place.place c.in_ok-user.user.now (sym c.place_of.ensures ∙ c.in_ok-place.was) at in
    record { some = tt; none = by-user (map user_view users) login (user_view c.in_ok-user.user.now) false named (sym c.if-knows.ensures) }
