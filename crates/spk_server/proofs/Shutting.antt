-- Whose socket is shut, and why.
use Rattle.std.proofs.Common.{◌≡◌, ℕ, if◌then◌else◌, Option, Some, None, refl, ap}
use Rattle.std.specs.Prelude.{IfNone, IfSome}
use Rattle.std.specs.Option.{option_map_or}
use Rattle.spk_clients.specs.declared.cause.Cause.{Cause}
use Rattle.spk_clients.specs.declared.client.Client.{Client}
use Rattle.spk_clients.specs.declared.client.Phase.{Phase}
use Rattle.spk_clients.specs.declared.client.Phase.TheVariants.{Quiet, Open, Over, Done}
use Rattle.spk_clients.specs.declared.clients.Clients.{Clients}
use Rattle.spk_clients.specs.Client.{cause_done, is_shut}
use Rattle.spk_clients.specs.Data.{AllStay, AreNoted, NobodyIsToShut, OthersStay, cause_at, client_at}
use Rattle.spk_server.specs.declared.server.Server.{Server}
use Rattle.spk_server.specs.Calls.{IsDone, NextToShut}
use Rattle.spk_server.specs.Data.{Room}
use Rattle.spk_server.specs.Rooms.{room_of}
use Rattle.spk_server.proofs.Rooms.{all_stay_is, placed_is}

shut_for : (p : Phase) (why x : Cause) → (if is_shut p then Some why else None) ≡ Some x → (p ≡ Done) × (why ≡ x)
shut_for Quiet why x e = cc
shut_for Open why x e = cc
shut_for Over why x e = cc
shut_for Done why x e = (refl, cc)

done_client : (o : Option Client) (x : Cause) → option_map_or cause_done o None ≡ Some x → (c : Client) × (o ≡ Some c) × ((c.phase ≡ Done) × (c.cause ≡ x))
done_client None x e = cc
done_client (Some c) x e = (c, refl, shut_for c.phase c.cause x e)

pub some_shut : (old : Server) (n : Clients) (o : Option (ℕ × Cause))
    → IfSome o (λ r. (cause_at old.clients r.0 ≡ Some r.1) × (client_at n r.0 ≡ None) × OthersStay r.0 old.clients n)
    → IfSome o (λ r. IsDone (NextToShut (Some r)) (room_of old) (room_of (record old { clients = n })))
some_shut old n None some = tt
some_shut old n (Some r) some = (
  done_client (client_at old.clients r.0) r.1 some.0,
  ap {B = Room} (λ cs. record (room_of old) { clients = cs }) (placed_is r.0 None (client_at old.clients) (client_at n) some.1 some.2),
)

pub none_shut : (old : Server) (n : Clients) (o : Option (ℕ × Cause)) → IfNone o (AllStay old.clients n)
    → IfNone o (room_of (record old { clients = n }) ≡ room_of old)
none_shut old n None none = ap {B = Room} (λ cs. record (room_of old) { clients = cs }) (all_stay_is old.clients n none)
none_shut old n (Some r) none = tt

pub shut_done : (old : Server) (n : Clients) (o : Option (ℕ × Cause))
    → IfSome o (λ r. (cause_at old.clients r.0 ≡ Some r.1) × (client_at n r.0 ≡ None) × OthersStay r.0 old.clients n)
    → IfNone o (AllStay old.clients n) → IfNone o (AreNoted old.clients → NobodyIsToShut (client_at old.clients)) → AreNoted old.clients
    → IsDone (NextToShut o) (room_of old) (room_of (record old { clients = n }))
shut_done old n None some none nobody noted = (none_shut old n None none, nobody noted)
shut_done old n (Some r) some none nobody noted = some_shut old n (Some r) some
