use Rattle.std.proofs.Common.{ℕ, ◌<◌, List, [], map, length, get_or, sym, subst, Bor}
use Rattle.std.proofs.lemmas.List.{length-map}
use Rattle.spk_journal.specs.File.{is_mark}
use Rattle.spk_journal.proofs.Bytes.{line_at, long_as, waits_behind, within_behind}
use Rattle.spk_journal.proofs.reading.settled_in.Goals as goal

pub loop-place-preserved : goal.loop-place-preserved
loop-place-preserved c =
    let lines = c.args.lines.now in
    let all = map (λ (line : Bor (List ℕ)). line.now) lines in
    let place = c.loop-place.place in
    let none : Bor (List ℕ) = record { ref_ptr = (0, 0); now = [] } in
    let line = (get_or lines place none).now in
    let within : place < length all = subst (λ n. place < n) (sym (length-map lines (λ (line : Bor (List ℕ)). line.now))) c.loop-place-test.true in
    record {
      within = within_behind (is_mark line) c.loop-place.settled place c.settled_behind-settled.result c.loop-place.invariant.within c.settled_behind-settled.ensures;
      wait = waits_behind all c.loop-place.settled place c.settled_behind-settled.result line c.loop-place.invariant.within (long_as all place within)
          (line_at lines place none c.loop-place-test.true) c.settled_behind-settled.ensures c.loop-place.invariant.wait;
    }
