use Rattle.std.proofs.Common.{true, drop, refl, sym, ap, ◌∙◌, subst}
use Rattle.spk_history.specs.Entry.{said}
use Rattle.spk_history.specs.Parts.{AreNamed, PartsData, Stands}
use Rattle.spk_history.proofs.Rolling.{found_stands, over_is, put_named}
use Rattle.spk_history.proofs.parts.Parts.found.Goals as goal

pub returns-in_default-clause-refused : goal.returns-in_default-clause-refused
returns-in_default-clause-refused c =
    let i = c.self.inside in
    let w : PartsData = record { most = i.most; nodes = i.nodes.items; unwritten = drop i.done i.bytes.items; len = i.len; has_record = i.has_record } in
    over_is w c.args.self.now (said c.args.entry.now) c.in_ok-size.field-0 c.self.view_is c.in_ok-size.ensures.size.0 c.in_default.ensures.none

pub returns-clause-stands : goal.returns-clause-stands
returns-clause-stands c =
    let i = c.self.inside in
    let e = said c.args.entry.now in
    let w : PartsData = record { most = i.most; nodes = i.nodes.items; unwritten = drop i.done i.bytes.items; len = i.len; has_record = i.has_record } in
    let q : PartsData = record { most = i.most; nodes = c.append_named.new.nodes.items; unwritten = drop i.done i.bytes.items; len = c.in-Some.all; has_record = true } in
    λ part entries is none stands. found_stands w q e c.in_ok-size.field-0 refl c.in_ok-size.ensures.size.0 c.in-Some.ensures.some.0 part entries is
    (ap (λ (p : PartsData). p.unwritten) c.self.view_is ∙ none) (subst (λ x. Stands part entries x) (sym c.self.view_is) stands)

pub returns-clause-named : goal.returns-clause-named
returns-clause-named c =
    let i = c.self.inside in
    let e = said c.args.entry.now in
    let w : PartsData = record { most = i.most; nodes = i.nodes.items; unwritten = drop i.done i.bytes.items; len = i.len; has_record = i.has_record } in
    let q : PartsData = record { most = i.most; nodes = c.append_named.new.nodes.items; unwritten = drop i.done i.bytes.items; len = c.in-Some.all; has_record = true } in
    λ nodes is are. put_named w q e is c.in_ok-append_named.ensures.put nodes (subst (λ x. AreNamed x nodes) (sym c.self.view_is) are)
