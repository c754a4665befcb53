use Rattle.std.proofs.Common.{◌≤◌, ◌++◌, true, false, drop, sym, ap, ◌∙◌, subst}
use Rattle.spk_history.specs.Entry.{said}
use Rattle.spk_history.specs.Parts.{AreNamed, PartsData, Stands, named}
use Rattle.spk_history.specs.File.{records_of}
use Rattle.spk_history.specs.Record.{most, record_of}
use Rattle.spk_history.proofs.Rolling.{full_is, put_named, put_stands, record_long, unwritten_more}
use Rattle.spk_history.proofs.parts.Parts.put.Goals as goal

pub reserve_named-requires : goal.reserve_named-requires
reserve_named-requires c = record_long (said c.args.entry.now) c.in_ok-size.field-0 c.in_ok-size.ensures.size.0

pub returns-in_default-clause-refused : goal.returns-in_default-clause-refused
returns-in_default-clause-refused c =
    let i = c.self.inside in
    let w : PartsData = record { most = i.most; nodes = i.nodes.items; unwritten = drop i.done i.bytes.items; len = i.len; has_record = i.has_record } in
    let size = c.in_ok-size.ensures.size in (
      c.in_ok-size.ensures.texts,
      subst (λ n. n ≤ most) size.0 size.1,
      full_is w c.args.self.now (said c.args.entry.now) c.in_ok-size.field-0 true c.self.view_is size.0 c.in_default.ensures.none,
    )

pub returns-clause-not_full : goal.returns-clause-not_full
returns-clause-not_full c =
    let i = c.self.inside in
    let w : PartsData = record { most = i.most; nodes = i.nodes.items; unwritten = drop i.done i.bytes.items; len = i.len; has_record = i.has_record } in
    full_is w c.args.self.now (said c.args.entry.now) c.in_ok-size.field-0 false c.self.view_is c.in_ok-size.ensures.size.0 c.in-Some.ensures.some.1

pub returns-clause-stands : goal.returns-clause-stands
returns-clause-stands c =
    let i = c.self.inside in
    let e = said c.args.entry.now in
    let w : PartsData = record { most = i.most; nodes = i.nodes.items; unwritten = drop i.done i.bytes.items; len = i.len; has_record = i.has_record } in
    let q : PartsData = record { most = i.most; nodes = c.put_named.new.nodes.items; unwritten = drop i.done c.append.new.out.items; len = c.in-Some.len; has_record = true } in
    let more = unwritten_more i.bytes.items c.append.new.out.items (record_of e) i.done c.self.invariant c.in_ok-append.ensures.put in
    λ part entries stands. put_stands w q e c.in_ok-size.field-0 c.in_ok-append.ensures.fits more c.in_ok-size.ensures.size.0 c.in-Some.ensures.some.0 part entries
    (subst (λ x. Stands part entries x) (sym c.self.view_is) stands)

pub returns-clause-named : goal.returns-clause-named
returns-clause-named c =
    let i = c.self.inside in
    let e = said c.args.entry.now in
    let w : PartsData = record { most = i.most; nodes = i.nodes.items; unwritten = drop i.done i.bytes.items; len = i.len; has_record = i.has_record } in
    let q : PartsData = record { most = i.most; nodes = c.put_named.new.nodes.items; unwritten = drop i.done c.append.new.out.items; len = c.in-Some.len; has_record = true } in
    let more = c.put_named.ensures ∙ ap (λ t. t ++ records_of (named e)) c.reserve_named.ensures.items in
    λ nodes are. put_named w q e c.in_ok-append.ensures.fits more nodes (subst (λ x. AreNamed x nodes) (sym c.self.view_is) are)
