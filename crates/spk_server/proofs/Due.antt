-- Before the moment that `due` says nothing is due.
use Rattle.std.proofs.Common.{◌≡◌, ℕ, ◌+◌, ◌<◌, ◌≤◌, min, ◌==◌, nat_lt, if◌then◌else◌, Bool, true, false, List, [], ◌∷◌, length, Option, Some, None, refl, ap, arith}
use Rattle.std.specs.List.{list_all}
use Rattle.std.specs.Option.{option_map_or}
use Rattle.std.proofs.lemmas.Bool.{and_from, lt-ltb}
use Rattle.spk_clients.specs.Client.{most_number}
use Rattle.spk_clients.specs.Data.{IsSettled, client_at, client_count}
use Rattle.spk_server.specs.declared.server.Server.{Server}
use Rattle.spk_server.specs.Rooms.{IsCalm, due_of}
use Rattle.spk_server.specs.Step.{Clients, first_wait, later, second, still_waits, wait_of, waits_until}
use Rattle.spk_server.proofs.Told.{nobody_yet}

waits_on : (now : ℕ) (o : Option ℕ) → now < option_map_or (λ (until : ℕ). until) o 0 → option_map_or (λ last. nat_lt now last) o false ≡ true
waits_on now None less = absurd (omega (arith, less))
waits_on now (Some until) less = lt-ltb now until less

all_wait : (now : ℕ) (clients : Clients) (conns : List ℕ) → now < first_wait clients conns → list_all (still_waits now clients) conns ≡ true
all_wait now clients [] less = refl
all_wait now clients (conn ∷ conns) less =
    let here : now < wait_of clients conn = omega (arith, less) in
    let rest : now < first_wait clients conns = omega (arith, less) in
    and_from (still_waits now clients conn) (list_all (still_waits now clients) conns) (waits_on now (waits_until clients conn) here) (all_wait now clients conns rest)

some_is : (b : Bool) (x m : ℕ) → (if b then None else Some x) ≡ Some m → x ≡ m
some_is true x m e = cc
some_is false x m e = cc

pub calm_before : (s : Server) (m now : ℕ) → IsSettled s.clients → due_of s ≡ Some m → now < m → IsCalm now s
calm_before s m now settled due less =
    let is : min (min (later second s.ticked) s.clients.soonest) (first_wait (client_at s.clients) s.held.items) ≡ m = some_is (client_count s.clients == 0) _ m due in
    let tick : now < s.ticked + second = omega (arith, is, less) in
    let soon : now < s.clients.soonest = omega (arith, is, less) in
    let waits : now < first_wait (client_at s.clients) s.held.items = omega (arith, is, less) in
    (nobody_yet now s.clients soon settled.0, all_wait now (client_at s.clients) s.held.items waits, tick)

-- ---- the first wait, one after the other

waits_most : (clients : Clients) (conns : List ℕ) → first_wait clients conns ≤ most_number
waits_most clients [] = omega arith
waits_most clients (conn ∷ conns) =
    let rest : first_wait clients conns ≤ most_number = waits_most clients conns in
    omega (arith, rest)

pub all_waits : (clients : Clients) (rest items : List ℕ) → rest ≡ items → min most_number (first_wait clients rest) ≡ first_wait clients items
all_waits clients rest items e =
    let most : first_wait clients rest ≤ most_number = waits_most clients rest in
    let same : first_wait clients rest ≡ first_wait clients items = ap (first_wait clients) e in
    omega (arith, most, same)

pub no_more_waits : (clients : Clients) (rest : List ℕ) (first all : ℕ) → length rest ≡ 0 → first ≤ most_number
    → min first (first_wait clients rest) ≡ all → first ≡ all
no_more_waits clients [] first all none less e = omega (arith, less, e)
no_more_waits clients (conn ∷ conns) first all none less e = absurd (omega (arith, none))
