use Rattle.std.proofs.Common.{sym, ap, ◌∙◌}
use Rattle.std.specs.Float.{binary64}
use lib.Ieee.{to_bits}
use Rattle.spk_floats.specs.Text.{word_bits}
use Rattle.spk_floats.proofs.Words.{nan_is, plus_is, minus_is}
use Rattle.spk_floats.proofs.double.word_in.Goals as goal

pub returns-in-NaN : goal.returns-in-NaN
unfolding to_bits
returns-in-NaN c = sym (ap (word_bits binary64) c.in-NaN.is ∙ nan_is binary64)

pub returns-in-Infinity : goal.returns-in-Infinity
unfolding to_bits
returns-in-Infinity c = sym (ap (word_bits binary64) c.in-Infinity.is ∙ plus_is binary64)

pub returns-in-text : goal.returns-in-text
unfolding to_bits
returns-in-text c = sym (ap (word_bits binary64) c.in-text.is ∙ minus_is binary64)
