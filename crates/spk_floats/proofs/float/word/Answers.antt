use Rattle.std.proofs.Common.{sym}
use Rattle.spk_floats.proofs.Words.{of_nan, of_minus, of_plus}
use Rattle.spk_floats.proofs.float.word.Goals as goal

pub returns-then-is_nan : goal.returns-then-is_nan
returns-then-is_nan c = λ e. sym (of_nan c.args.x (sym (c.if-is_nan.ensures).value))

pub returns-then-is_sign_negative : goal.returns-then-is_sign_negative
returns-then-is_sign_negative c = λ e. sym (of_minus c.args.x (sym (c.if-is_nan.ensures).value) (sym (c.if-is_sign_negative.ensures)) e)

pub returns-else-is_sign_negative : goal.returns-else-is_sign_negative
returns-else-is_sign_negative c = λ e. sym (of_plus c.args.x (sym (c.if-is_nan.ensures).value) (sym (c.if-is_sign_negative.ensures)) e)
