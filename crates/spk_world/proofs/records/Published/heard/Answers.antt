use Rattle.std.proofs.Common.{◌≡◌, ◌∙◌, ◌⊎◌, sym, ap, subst, false, None, Ok, Result}
use Rattle.spk_payload.specs.Meaning.{PayloadData}
use Rattle.spk_payload.specs.declared.values.Values.TheVariants as choice
use Rattle.spk_payload.specs.Reading.{payload_at}
use Rattle.spk_payload.specs.Spelling as payload
use Rattle.spk_payload.specs.View.{payload_view}
use Rattle.spk_payload.specs.declared.fault.PayloadFault.{PayloadFault}
use Rattle.spk_packets.specs.Message.{Publish}
use Rattle.spk_reading.specs.Answer.{Fails}
use Rattle.spk_reading.specs.Data.{HeardData}
use Rattle.spk_reading.specs.Meaning.{heard}
use Rattle.spk_reading.specs.View.{heard_view}
use Rattle.spk_reading.specs.declared.fault.ReadFault.{ReadFault}
use Rattle.spk_host.specs.Data.{HostData}
use Rattle.spk_world_run.specs.Step.{packet_of}
use Rattle.spk_world.specs.Outcome.{IsUnsendable}
use Rattle.spk_world.specs.View.{published_view}
use Rattle.spk_world.specs.declared.fault.WorldFault.{WorldFault}
use Rattle.spk_world.specs.declared.fault.WorldFault.TheVariants.{NoMemory}
use Rattle.spk_world.proofs.Readable.{refused}
use Rattle.spk_world.proofs.records.Published.heard.Goals as goal

abbrev meant : PayloadData → Result PayloadData PayloadFault
meant p = Ok p

abbrev told : HeardData → Result HeardData ReadFault
told h = Ok h

pub returns-in-Ok-clause-says : goal.returns-in-Ok-clause-says
returns-in-Ok-clause-says c =
    let p = payload_view c.args.self.now.payload in
    let e : payload_at choice.All (payload.spelling p) ≡ meant p = (c.reading.ensures.meaning choice.All (payload.spelling p) p).1 (c.canonical.ensures.means p c.requires.fits) in
    let h : heard (Publish false 0 false c.as_str.result.now None (payload.spelling p)) ≡ told (heard_view c.in-Ok.heard) =
    c.in-Ok.ensures false false (payload.spelling p) (e ∙ ap meant (sym c.in_ok-payload.ensures.same)) in
    record {
      packet = packet_of (published_view c.args.self.now);
      spelled = c.requires.spelled;
      is = subst (λ t. heard (Publish false 0 false t None (payload.spelling p)) ≡ told (heard_view c.in-Ok.heard)) c.as_str.ensures.value h;
    }

pub returns-in-Err-clause-fault : goal.returns-in-Err-clause-fault
returns-in-Err-clause-fault c =
    let m = published_view c.args.self.now in
    let p = payload_view c.args.self.now.payload in
    let e : payload_at choice.All (payload.spelling p) ≡ meant p = (c.reading.ensures.meaning choice.All (payload.spelling p) p).1 (c.canonical.ensures.means p c.requires.fits) in
    let h : Fails c.in-Err.fault (heard (Publish false 0 false c.as_str.result.now None (payload.spelling p))) =
    c.in-Err.ensures false false (payload.spelling p) (e ∙ ap meant (sym c.in_ok-payload.ensures.same)) in
    subst (λ (e : WorldFault). (e ≡ NoMemory) ⊎ ((h : HostData) → IsUnsendable h m e)) (sym c.unread.ensures)
    (refused m c.in-Err.fault c.requires.spelled
    (subst (λ t. Fails c.in-Err.fault (heard (Publish false 0 false t None (payload.spelling p)))) c.as_str.ensures.value h))
