use Rattle.std.proofs.Common.{ap, inl}
use Rattle.spk_page.specs.declared.asked.Asked.TheVariants.{NoRequest}
use Rattle.spk_page.proofs.hearing.hear.Goals as goal

pub returns-in-Err : goal.returns-in-Err
returns-in-Err c =
    let refused = rw (c.new-server.ensures, c.limits.ensures) at c.in-Err.ensures.err in
    inl (c.in-Err.e, refused.0, refused.1, ap NoRequest c.status.ensures)
