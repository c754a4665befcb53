use Rattle.std.proofs.Common.{sym, ap, ◌∙◌, Some}
use Rattle.std.specs.Float.{binary64, float_is_finite}
use Rattle.spk_floats.specs.Text.{bits_in, word_of}
use Rattle.spk_floats.proofs.Words.{if_ok, number_again, word_again}
use Rattle.spk_floats.proofs.double.double_text.Goals as goal

pub returns-then-is_finite-clause-again : goal.returns-then-is_finite-clause-again
returns-then-is_finite-clause-again c =
    let is = c.f64_from_bits_with_nan-x.ensures in
    let finite = ap float_is_finite (sym is) ∙ sym (c.if-is_finite.ensures).value in
    let again = number_again binary64 c.args.bits c.format_finite.result.now c.ranges.bits.fits finite (c.format_finite.ensures.parses ∙ ap Some is) in
    if_ok c.from_str.result _ _ (λ text e. ap (bits_in binary64) e ∙ again) c.from_str.ensures.ok

pub returns-clause-again : goal.returns-clause-again
returns-clause-again c =
    let is = c.f64_from_bits_with_nan-x.ensures in
    let other = sym (c.if-is_finite.ensures).value in
    let word = c.word.ensures other ∙ ap word_of is in
    let again = word_again binary64 c.args.bits c.ranges.bits.fits (ap float_is_finite (sym is) ∙ other) in
    if_ok c.from_str-2.result _ _ (λ text e. ap (bits_in binary64) (e ∙ word) ∙ again) c.from_str-2.ensures.ok
