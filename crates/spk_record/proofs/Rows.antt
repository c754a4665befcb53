-- Records by hand, and their texts.
use Rattle.std.proofs.Common.{◌≡◌, codes, refl}
use Rattle.std.specs.Fmt.{digits}
use Rattle.spk_record.specs.Covers.{reserved}
use Rattle.spk_record.specs.Text.{record_text}

first : record_text (record { bd = 0; stamp = 0 }) ≡ codes "{\"bd\":0,\"stamp\":0}"
unfolding digits
first = refl

last : record_text (record { bd = 255; stamp = 1764115200000 }) ≡ codes "{\"bd\":255,\"stamp\":1764115200000}"
unfolding digits
last = refl

-- the session 255 is followed by 0
behind_255 : reserved 255 1764115200000 ≡ record { bd = 0; stamp = 1764115205000 }
behind_255 = refl
