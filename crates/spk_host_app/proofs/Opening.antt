-- What a host says where its session begins.
use Rattle.std.proofs.Common.{◌≡◌, ◌∙◌, sym, ap, refl, ℕ, Bool, true, false, ◌||◌, ◌⊎◌, inl, inr, List, [], Option, Some, None, is_some, Result, Ok, Err, OnOk, OnErr}
use Rattle.spk_packets.specs.Message.{Message}
use Rattle.spk_connection.specs.Step.{after_opened, is_open}
use Rattle.spk_host_session.specs.Answer as answer
use Rattle.spk_host_session.specs.Step as session
use Rattle.spk_host_session.specs.Step.{outside}
use Rattle.spk_host_session.specs.declared.fault.HostFault.{HostFault}
use Rattle.spk_host.specs.Data.{HostData}
use Rattle.spk_host.specs.Inputs as host
use Rattle.spk_host.specs.Inputs.{host_with}
use Rattle.spk_host.specs.Step.{said_by, spelled}
use Rattle.spk_host_app.specs.Data.{App, Fate, Began, Connected, Lost, Whole}
use Rattle.spk_host_app.specs.Log.{IsAnswered, IsBegun, IsGivenUp}
use Rattle.spk_host_app.specs.Step.{after, answered, is_within, join, with_login}

abbrev pub said : List (List ℕ) → Result (List (List ℕ)) HostFault
said bytes = Ok bytes

abbrev bytes_in : Result (List (List ℕ)) HostFault → List (List ℕ)
bytes_in (Ok bytes) = bytes
bytes_in (Err f) = []

pub outside_then : (began : Option ℕ) (packets : List Message) (bytes : List (List ℕ)) → answer.spelled (outside began packets) ≡ said bytes → is_some began ≡ false
outside_then None packets bytes e = refl
outside_then (Some n) packets bytes e = absurd cc

outside_bytes : (began : Option ℕ) (packets : List Message) (bytes : List (List ℕ)) → answer.spelled (outside began packets) ≡ said bytes
    → bytes ≡ spelled (said_by (outside began packets))
outside_bytes None packets bytes e = sym (ap bytes_in e)
outside_bytes (Some n) packets bytes e = absurd cc

or_false : (b : Bool) → b ≡ (b || false)
or_false true = refl
or_false false = refl

-- the program once the host has begun a session
abbrev pub begun_with : App → ℕ → HostData → Bool → App
begun_with a now k closing = record a { host = k; connection = after_opened a.connection now; words = record a.words { begun = true }; closing = closing }

pub opened_by : (fate : Fate) (a x b : App) (now : ℕ) (bytes : List (List ℕ)) (k : HostData)
    → answer.spelled (session.says a.host.session (session.Connected now)) ≡ said bytes → k ≡ host_with a.host (host.Connected now)
    → x ≡ begun_with a now k a.closing → b ≡ answered fate [] (with_login x.login (join bytes)) x
    → b ≡ after (Connected now fate) (after (Began now) a)
opened_by fate a x b now bytes k out kept is e = e
    ∙ ap (λ y. answered fate [] (with_login y.login (join bytes)) y) is
    ∙ ap (λ h. answered fate [] (with_login a.login (join bytes)) (begun_with a now h a.closing)) kept
    ∙ ap (λ c. answered fate [] (with_login a.login (join bytes)) (begun_with a now (host_with a.host (host.Connected now)) c)) (or_false a.closing)
    ∙ ap (λ q. answered fate [] (with_login a.login (join q)) (begun_with a now (host_with a.host (host.Connected now)) (a.closing || false)))
    (outside_bytes a.host.session.began _ bytes out)

abbrev pub IsGreeted : App → List (List ℕ) → App → Type 0
IsGreeted x bytes b = IsAnswered [] (with_login x.login (join bytes)) x b ⊎ IsGivenUp x b

begun_by : (a x b : App) (now : ℕ) (bytes : List (List ℕ)) (k : HostData)
    → answer.spelled (session.says a.host.session (session.Connected now)) ≡ said bytes → k ≡ host_with a.host (host.Connected now)
    → x ≡ begun_with a now k a.closing → IsGreeted x bytes b → IsBegun now a b
begun_by a x b now bytes k out kept is (inl (fate, here, e)) =
    inl (fate, outside_then a.host.session.began _ bytes out, opened_by fate a x b now bytes k out kept is e)
begun_by a x b now bytes k out kept is (inr (f, reason, e)) =
    inl (Lost, outside_then a.host.session.began _ bytes out, opened_by Lost a x b now bytes k out kept is e)

pub on_ok : {X E A B : Type 0} (r : Result X E) → OnOk r A → (A → B) → OnOk r B
on_ok (Ok x) a f = f a
on_ok (Err e) a f = a

pub on_err : {X E A B : Type 0} (r : Result X E) → (A → B) → OnErr r A → OnErr r B
on_err (Ok x) f a = a
on_err (Err e) f a = f a

abbrev pub IsDone : ℕ → App → App → Type 0
IsDone now a b = (is_open a.connection ≡ false) × (is_within a ≡ false) × (b ≡ after (Connected now Whole) (after (Began now) a))

pub done_by : (a x b : App) (now : ℕ) (bytes : List (List ℕ)) (k : HostData) → is_open a.connection ≡ false
    → answer.spelled (session.says a.host.session (session.Connected now)) ≡ said bytes → k ≡ host_with a.host (host.Connected now)
    → b ≡ answered Whole [] (with_login x.login (join bytes)) x → x ≡ begun_with a now k a.closing → IsDone now a b
done_by a x b now bytes k shut out kept e is =
    (shut, outside_then a.host.session.began _ bytes out, opened_by Whole a x b now bytes k out kept is e)

abbrev pub IsFailed : ℕ → App → App → Type 0
IsFailed now a b = (b ≡ a) ⊎ ((b.closing ≡ true) × (is_open a.connection ≡ false) × IsBegun now a b)

pub failed_by : (a x b : App) (now : ℕ) (bytes : List (List ℕ)) (k : HostData) → is_open a.connection ≡ false
    → answer.spelled (session.says a.host.session (session.Connected now)) ≡ said bytes → k ≡ host_with a.host (host.Connected now)
    → IsGreeted x bytes b → x ≡ begun_with a now k a.closing → b.closing ≡ true → IsFailed now a b
failed_by a x b now bytes k shut out kept greeted is closing = inr (closing, shut, begun_by a x b now bytes k out kept is greeted)
