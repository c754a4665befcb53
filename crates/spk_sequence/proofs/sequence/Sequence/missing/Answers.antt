use Rattle.std.proofs.Common.{◌≡◌, ◌<◌, ◌≤◌, arith, length, sym, ◌∙◌}
use Rattle.spk_sequence.specs.Data.{IsWhole}
use Rattle.spk_sequence.proofs.LossCalls.{missing_is, none_missing}
use Rattle.spk_sequence.proofs.sequence.Sequence.missing.Goals as goal

pub returns-then-is_held_at-clause-value : goal.returns-then-is_held_at-clause-value
returns-then-is_held_at-clause-value c =
    let w : IsWhole c.args.self.now = c.width-width.ensures.whole in
    let test : c.loop-place.place < c.width-width.result = c.loop-place-test.true in
    let wide : c.width-width.result ≡ c.args.self.now.width = c.width-width.ensures.value in
    let sized : length c.args.self.now.held ≡ c.args.self.now.width = w.all_places in
    missing_is c.args.self.now.held c.loop-place.place (omega arith) c.loop-place.invariant (sym c.is_held_at.ensures ∙ c.if-is_held_at.true)

pub returns-clause-value : goal.returns-clause-value
returns-clause-value c =
    let w : IsWhole c.args.self.now = c.width-width.ensures.whole in
    let test : c.width-width.result ≤ c.loop-place.place = c.loop-place-test.false in
    let wide : c.width-width.result ≡ c.args.self.now.width = c.width-width.ensures.value in
    let sized : length c.args.self.now.held ≡ c.args.self.now.width = w.all_places in
    none_missing c.args.self.now.held (λ k below. c.loop-place.invariant k (omega arith))
