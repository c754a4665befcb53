use Rattle.std.proofs.Common.{◌≡◌, ◌≢◌, ◌⊎◌, inl, inr, ℕ, ◌+◌, ◌≤◌, ◌==◌, true, false, List, map, drop, take, get_or, sym, subst, Bor, arith}
use Rattle.std.proofs.lemmas.Bool.Decides.{eqb_tells}
use Rattle.std.proofs.lemmas.List.{take_more}
use Rattle.spk_journal.specs.File.{Says}
use Rattle.spk_journal.proofs.Bytes.{long_as, says_end, says_other}
use Rattle.spk_journal.proofs.reading.lines_in.Goals as goal

made : (c : goal.In_ok-start) → let b = get_or c.args.bytes.now c.loop-place.place 0 in (((b == 10) ≡ true) × (b ≡ 10)) ⊎ (((b == 10) ≡ false) × (b ≢ 10))
    → (c.in_ok-start.start ≤ c.loop-place.place + 1)
    × Says (take (c.loop-place.place + 1) c.args.bytes.now) (map (λ (line : Bor (List ℕ)). line.now) c.put_byte.new.lines.items)
    (drop c.in_ok-start.start (take (c.loop-place.place + 1) c.args.bytes.now))
made c (inl is) =
    let bytes = c.args.bytes.now in
    let place = c.loop-place.place in
    let lines = map (λ (line : Bor (List ℕ)). line.now) c.loop-place.lines.items in
    let more = map (λ (line : Bor (List ℕ)). line.now) c.put_byte.new.lines.items in
    let told = c.in_ok-start.ensures.end is.1 in
    let at : c.in_ok-start.start ≡ place + 1 = told.0 in (
      omega arith,
      subst (λ n. Says (take (place + 1) bytes) more (drop n (take (place + 1) bytes))) (sym at)
          (says_end bytes lines more c.loop-place.start place (get_or bytes place 0) c.loop-place.invariant.within (long_as bytes place c.loop-place-test.true)
          (take_more bytes place 0 c.loop-place-test.true) is.1 told.1 c.loop-place.invariant.says),
    )
made c (inr is) =
    let bytes = c.args.bytes.now in
    let place = c.loop-place.place in
    let lines = map (λ (line : Bor (List ℕ)). line.now) c.loop-place.lines.items in
    let more = map (λ (line : Bor (List ℕ)). line.now) c.put_byte.new.lines.items in
    let told = c.in_ok-start.ensures.other is.1 in
    let at : c.in_ok-start.start ≡ c.loop-place.start = told.0 in
    let le : c.loop-place.start ≤ place = c.loop-place.invariant.within in (
      omega arith,
      subst (λ n. Says (take (place + 1) bytes) more (drop n (take (place + 1) bytes))) (sym at)
          (says_other bytes lines more c.loop-place.start place (get_or bytes place 0) le (long_as bytes place c.loop-place-test.true)
          (take_more bytes place 0 c.loop-place-test.true) is.0 told.1 c.loop-place.invariant.says),
    )

pub loop-place-preserved : goal.loop-place-preserved
loop-place-preserved c =
    let it = made c (eqb_tells (get_or c.args.bytes.now c.loop-place.place 0) 10) in
    record { within = it.0; says = it.1 }
