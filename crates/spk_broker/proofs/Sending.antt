-- Packets behind those that are sent.
use Rattle.std.proofs.Common.{◌≡◌, ℕ, ◌+◌, ◌<◌, ◌≤◌, List, [], ◌∷◌, ◌++◌, map, length, take, get_or, sym, ap, ◌∙◌, append_assoc, append-nil}
use Rattle.std.proofs.lemmas.List.{map-append, take_all, take_more}
use Rattle.spk_broker_rules.specs.Data as plain
use Rattle.spk_broker_rules.specs.Words.{resent}
use Rattle.spk_broker.specs.Drafts.{Drafted}
use Rattle.spk_broker.specs.Entering.{again, with_sends}
use Rattle.spk_broker.specs.Parts.{in_flight_view}
use Rattle.spk_broker.specs.Sent.{Sent, outgoing}
use Rattle.spk_broker.specs.declared.session.InFlight.{InFlight}

pub no-sends : (d : Drafted) → d ≡ with_sends [] d
no-sends d = ap (λ (xs : List Sent). record d { sends = xs }) (sym (append-nil d.sends))

-- some, and then more
pub more-sends : (xs ys : List plain.Send) (d : Drafted) → with_sends ys (with_sends xs d) ≡ with_sends (xs ++ ys) d
more-sends xs ys d = ap (λ (zs : List Sent). record d { sends = zs })
    (append_assoc d.sends (map outgoing xs) (map outgoing ys) ∙ ap (λ zs. d.sends ++ zs) (sym (map-append outgoing xs ys)))

resent-append : (conn : ℕ) (cs ds : List plain.InFlight) → resent conn (cs ++ ds) ≡ resent conn cs ++ resent conn ds
resent-append conn cs ds = map-append (again conn) cs ds

pub one-resent : (conn : ℕ) (cs : List InFlight) (i : ℕ) (c d : InFlight) (draft : Drafted) → i < length cs → c ≡ get_or cs i d
    → with_sends (again conn (in_flight_view c) ∷ []) (with_sends (resent conn (map in_flight_view (take i cs))) draft) ≡ with_sends (resent conn (map in_flight_view (take (i + 1) cs))) draft
one-resent conn cs i c d draft lt is =
    more-sends (resent conn (map in_flight_view (take i cs))) (again conn (in_flight_view c) ∷ []) draft
    ∙ ap (λ xs. with_sends xs draft)
    (sym (resent-append conn (map in_flight_view (take i cs)) (in_flight_view c ∷ []))
    ∙ ap (resent conn) (sym (map-append in_flight_view (take i cs) (c ∷ [])) ∙ ap (λ (x : InFlight). map in_flight_view (take i cs ++ x ∷ [])) is ∙ ap (map in_flight_view) (sym (take_more cs i d lt))))

pub all-resent : (conn : ℕ) (cs : List InFlight) (i : ℕ) (draft : Drafted) → length cs ≤ i
    → with_sends (resent conn (map in_flight_view (take i cs))) draft ≡ with_sends (resent conn (map in_flight_view cs)) draft
all-resent conn cs i draft le = ap (λ xs. with_sends (resent conn (map in_flight_view xs)) draft) (take_all i cs le)
