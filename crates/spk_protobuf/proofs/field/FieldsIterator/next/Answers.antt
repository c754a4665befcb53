use Rattle.std.proofs.Common.{◌≡◌, ◌≢◌, ℕ, List, [], ◌∷◌, length, Result, Err, sym, ap, ◌∙◌, true, false, eqb, rules}
use Rattle.std.proofs.lemmas.Bool.{eqb-true, eqb-false}
use Rattle.std.proofs.lemmas.List.{nil_from_length}
use Rattle.spk_protobuf.specs.declared.fault.WireFault.{WireFault}
use Rattle.spk_protobuf.specs.Grammar.{Entry}
use Rattle.spk_protobuf.specs.Reading.{field_at, items_of}
use Rattle.spk_protobuf.specs.View.{entry_of}
use Rattle.spk_protobuf.proofs.Items.{items_of-nil, items_of-ok, items_of-err}
use Rattle.spk_protobuf.proofs.field.FieldsIterator.next.Goals as goal

nothing : (bytes : List ℕ) → eqb (length bytes) 0 ≡ true → items_of bytes ≡ []
nothing bytes e = ap items_of (nil_from_length bytes (eqb-true _ _ e)) ∙ items_of-nil

something : (bytes : List ℕ) → eqb (length bytes) 0 ≡ false → bytes ≢ []
something bytes e nil = eqb-false _ _ e (ap length nil)

pub returns-then-is_empty-clause-steps : goal.returns-then-is_empty-clause-steps
returns-then-is_empty-clause-steps c =
    let none = nothing c.args.self.now.rest.now (sym c.is_empty.ensures ∙ c.if-is_empty.true) in
    (none, none)

pub returns-in-Ok-clause-steps : goal.returns-in-Ok-clause-steps
returns-in-Ok-clause-steps c = items_of-ok c.args.self.now.rest.now (entry_of c.in-Ok.field, c.in-Ok.rest.now) c.in-Ok.ensures

pub returns-in-Ok-clause-goes : goal.returns-in-Ok-clause-goes
returns-in-Ok-clause-goes c =
    let shorter = ap length (items_of-ok c.args.self.now.rest.now (entry_of c.in-Ok.field, c.in-Ok.rest.now) c.in-Ok.ensures) in
    search rules

failed : (bytes : List ℕ) (w : WireFault) → eqb (length bytes) 0 ≡ false → field_at bytes ≡ Err w → items_of bytes ≡ Err w ∷ items_of []
failed bytes w some e = items_of-err bytes w (something bytes some) e ∙ ap (λ (others : List (Result Entry WireFault)). Err w ∷ others) (sym items_of-nil)

pub returns-in-Err-clause-steps : goal.returns-in-Err-clause-steps
returns-in-Err-clause-steps c = failed c.args.self.now.rest.now c.in-Err.fault (sym c.is_empty.ensures ∙ c.if-is_empty.false) c.in-Err.ensures

pub returns-in-Err-clause-goes : goal.returns-in-Err-clause-goes
returns-in-Err-clause-goes c =
    let shorter = ap length (failed c.args.self.now.rest.now c.in-Err.fault (sym c.is_empty.ensures ∙ c.if-is_empty.false) c.in-Err.ensures) in
    search rules
