use Rattle.std.proofs.Common.{◌≡◌, ℕ, ◌+◌, ◌-◌, ◌%◌, ◌^◌, ap, arith, min}
use Rattle.spk_record.specs.Covers.{ahead}
use Rattle.spk_record.specs.declared.record.Record.{Record}
use Rattle.spk_lives.proofs.Earlier.{earlier}
use Rattle.spk_lives.proofs.Published.{Laws}
use Rattle.spk_lives.proofs.Survivors.{cut, survivors}
use Rattle.spk_lives.proofs.laws.records.Goals as goal

next-byte : (bd session : ℕ) → ((bd + session) % 256 + 1) % 256 ≡ (bd + (session + 1)) % 256
next-byte bd session = omega arith

next-back : (bd session : ℕ) → (bd + (session + 1)) % 256 ≡ ((bd + session) % 256 + 1) % 256
next-back bd session = omega arith

pub returns-clause-survivors : goal.returns-clause-survivors
returns-clause-survivors c = survivors

pub returns-clause-earlier : goal.returns-clause-earlier
returns-clause-earlier c =
    let laws : Laws = record { node = c.any_list.ensures.record; openings = c.any_list.ensures.openings; joined = c.any_list.ensures.joined } in
    earlier laws c.published.ensures.grows

pub returns-clause-cut : goal.returns-clause-cut
returns-clause-cut c = cut

pub returns-clause-covers : goal.returns-clause-covers
returns-clause-covers c = λ s session stamp used le. record { session = next-back s.bd session; stamp = le }

pub returns-clause-reserved : goal.returns-clause-reserved
returns-clause-reserved c = λ s session stamp.
    ap (λ (bd : ℕ). let r : Record = record { bd = bd; stamp = min (stamp + ahead) (2 ^ 63 - 1) } in r) (next-byte s.bd session)
