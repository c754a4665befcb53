use Rattle.std.proofs.Common.{Some, ℕ, List, drop, sym, ap, ◌∙◌, subst}
use Rattle.std.specs.Str.{IsUtf8}
use Rattle.spk_frames.proofs.Names.{name_of_ok, name_of_not}
use Rattle.spk_frames.proofs.pieces.name_of.Goals as goal

pub returns-in-Ok : goal.returns-in-Ok
returns-in-Ok c =
    let front = c.split_at.ensures.front in
    let back = c.split_at.ensures.back in
    let read = c.in-Ok.ensures.cases in
    name_of_ok c.args.len c.args.bytes.now c.if-bytes-len.false (subst IsUtf8 front read.1)
    ∙ ap (λ (x : List ℕ). Some (x, drop c.args.len c.args.bytes.now)) (sym (read.0 ∙ front)) ∙ ap (λ (x : List ℕ). Some (c.in-Ok.name.now, x)) (sym back)

pub returns-in-Err : goal.returns-in-Err
returns-in-Err c =
    name_of_not c.args.len c.args.bytes.now c.if-bytes-len.false (λ u. c.in-Err.ensures.cases.0 (subst IsUtf8 (sym c.split_at.ensures.front) u))
