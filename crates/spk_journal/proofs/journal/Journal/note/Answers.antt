use Rattle.std.proofs.Common.{◌≡◌, false, [], ◌∷◌, ◌++◌, map, sym, ap, ◌∙◌, subst, string_bytes}
use Rattle.std.proofs.lemmas.List.{map-append}
use Rattle.spk_journal.specs.Journal.{AreGood, SayThatWait, Stands, is_bad}
use Rattle.spk_journal.proofs.Noting.{good_more, noted}
use Rattle.spk_journal.proofs.journal.Journal.note.Goals as goal

fits : (c : goal.In-Ok) → is_bad (string_bytes c.args.line) ≡ false
fits c = ap is_bad (sym c.as_str.ensures.value) ∙ sym c.is_bad.ensures ∙ c.if-is_bad.false

are : (c : goal.In-Ok) → map string_bytes c.push_back.new.self.items ≡ map string_bytes c.self.inside.lines.items ++ string_bytes c.args.line ∷ []
are c =
    ap (map string_bytes) (c.in-Ok.ensures.items ∙ ap (λ xs. xs ++ c.args.line ∷ []) c.reserve.ensures.items)
    ∙ map-append string_bytes c.self.inside.lines.items (c.args.line ∷ [])

pub invariant_of-self-2 : goal.invariant_of-self-2
invariant_of-self-2 c = subst AreGood (sym (are c)) (good_more (map string_bytes c.self.inside.lines.items) (string_bytes c.args.line) c.self.invariant (fits c))

pub returns-clause-stands : goal.returns-clause-stands
returns-clause-stands c =
    let line = string_bytes c.args.line in
    let tail = c.self.inside.tail in
    let put : c.put.new.self.is_broken ≡ false → (tail.is_broken ≡ false) × (c.put.new.self.unwritten.items ≡ tail.unwritten.items ++ (line ++ 10 ∷ [])) =
    λ e. ((c.put.ensures e).0, (c.put.ensures e).1 ∙ ap (λ t. tail.unwritten.items ++ (t ++ 10 ∷ [])) c.as_bytes.ensures.value) in
    λ file stands e. subst (SayThatWait (file ++ c.put.new.self.unwritten.items)) (sym (are c))
    (noted file tail.unwritten.items c.put.new.self.unwritten.items line tail.is_broken c.put.new.self.is_broken (map string_bytes c.self.inside.lines.items) (fits c) put
    (subst (λ j. Stands file j) (sym c.self.view_is) stands) e)
