-- The definitions at worked texts and lists.
use Rattle.std.proofs.Common.{◌≡◌, ℕ, true, false, [], ◌∷◌, codes, refl, sym, ◌∙◌, ap, arith, Some, None}
use Rattle.std.specs.Fmt.{digits}
use lib.Utf8.{encode}
use Rattle.std.specs.Str.{chars, is_utf8}
use Rattle.std.proofs.lemmas.Str.{IsUtf8-from_is_utf8}
use Rattle.serde_json.specs.Data.{object, no_members, boolean}
use Rattle.serde_json.specs.Read.{read}
use Rattle.serde_json.specs.Find.{get}
use Rattle.serde_json.proofs.OnLiterals.{serde_json_on_literals}
use Rattle.spk_state.specs.declared.state.State.{State}
use Rattle.spk_state.specs.declared.primary.Heard.TheVariants.{Online, Offline, Ignored}
use Rattle.spk_state.specs.Text.{MeansState, state_text, state_data}
use Rattle.spk_state.specs.Step.{heard_as, after_all}

abbrev online : ℕ → State
online timestamp = record { online = true; timestamp = timestamp }

abbrev offline : ℕ → State
offline timestamp = record { online = false; timestamp = timestamp }

-- how a STATE is written
text_online : state_text (online 5) ≡ codes "{\"online\":true,\"timestamp\":5}"
unfolding digits
text_online = refl

text_offline : state_text (offline 1700000000000) ≡ codes "{\"online\":false,\"timestamp\":1700000000000}"
unfolding digits
text_offline = refl

-- how one is read
read_online : read (codes "{\"online\":true,\"timestamp\":5}") ≡ Some (state_data (online 5))
unfolding serde_json_on_literals
read_online = refl

read_spaced : read (codes " { \"timestamp\" : 7, \"online\" : false } ") ≡ Some (state_data (offline 7))
unfolding serde_json_on_literals
read_spaced = refl

online_meant : MeansState (codes "{\"online\":true,\"timestamp\":5}") (online 5)
unfolding is_utf8 chars encode
online_meant = record { text = IsUtf8-from_is_utf8 (codes "{\"online\":true,\"timestamp\":5}") refl; value = state_data (online 5); is_value = read_online; online = refl; timestamp = refl; below = omega arith }

-- an object without members says nothing
read_empty : read (codes "{}") ≡ Some (object no_members)
unfolding serde_json_on_literals
read_empty = refl

empty_is_none : (s : State) → MeansState (codes "{}") s → ⊥
empty_is_none s h =
    let same : Some h.value ≡ Some (object no_members) = sym h.is_value ∙ read_empty in
    let value : h.value ≡ object no_members = cc in
    let none : None ≡ Some (boolean s.online) = ap (get (codes "online")) (sym value) ∙ h.online in
    cc

-- online 5 is heard, offline 4 ignored, offline 5 heard
first_heard : heard_as (after_all None []) (online 5) ≡ Online
first_heard = refl

less_ignored : heard_as (after_all None (online 5 ∷ [])) (offline 4) ≡ Ignored
less_ignored = refl

equal_heard : heard_as (after_all None (online 5 ∷ offline 4 ∷ [])) (offline 5) ≡ Offline
equal_heard = refl

greatest_stands : after_all None (online 5 ∷ offline 9 ∷ online 7 ∷ []) ≡ Some 9
greatest_stands = refl
