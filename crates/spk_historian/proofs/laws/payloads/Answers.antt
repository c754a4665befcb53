use Rattle.spk_payload.specs.Spelling.{spelling}
use Rattle.spk_payload.specs.declared.values.Values.TheVariants as choice
use Rattle.spk_historian.specs.Kept.{kept_payload}
use Rattle.std.proofs.Common.{subst, ap, ◌∙◌, ◌≡◌}
use Rattle.spk_payload.specs.Reading.{payload_at}
use Rattle.std.proofs.Common.{Ok}
use Rattle.spk_historian.proofs.Unread.{spelled_same}
use Rattle.spk_historian.proofs.laws.payloads.Goals as goal

pub returns : goal.returns
returns c = λ p fits.
    subst (λ bytes. payload_at choice.All bytes ≡ Ok (kept_payload p)) (spelled_same p)
    ((c.reading.ensures.meaning choice.All (spelling (kept_payload p)) (kept_payload p)).1 (c.canonical.ensures.means (kept_payload p) fits))
