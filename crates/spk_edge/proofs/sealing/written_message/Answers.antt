use Rattle.std.proofs.Common.{◌≡◌, ap, sym, ◌∙◌, ℕ, List, false, None}
use Rattle.std.proofs.lemmas.Str.{IsUtf8-string_bytes}
use Rattle.spk_edge_rules.specs.Writable.{is_writable}
use Rattle.spk_packets.specs.Message.{Publish}
use Rattle.spk_payload.specs.Spelling.{spelling}
use Rattle.spk_edge.specs.Sealing.{wire_of}
use Rattle.spk_edge.specs.View.{message_view}
use Rattle.spk_edge.proofs.Written.{on-ok, written-whole}
use Rattle.spk_edge.proofs.sealing.written_message.Goals as goal

pub returns-clause-whole : goal.returns-clause-whole
returns-clause-whole c =
    let m = message_view c.args.message.now in
    let spelt : c.deref.result.now ≡ spelling m.payload = c.deref.ensures.value ∙ c.in_ok-payload.ensures.spelled in
    let same : Publish false 0 false c.as_str.result.now None c.deref.result.now ≡ wire_of m =
    ap (λ (topic : List ℕ). Publish false 0 false topic None c.deref.result.now) c.as_str.ensures.value ∙ ap (λ (bytes : List ℕ). Publish false 0 false m.topic None bytes) spelt in
    on-ok c.published.result
    (λ writable. written-whole c.spelling_spells.ensures m (IsUtf8-string_bytes c.args.message.now.topic) c.in_ok-payload.ensures.fits
    (ap is_writable (sym same) ∙ writable)) c.published.ensures.writable
