-- One answer alone is right for what stands at the front of bytes.
use Rattle.std.proofs.Common.{◌≡◌, ℕ, ◌<◌, List, [], ◌++◌, length, sym, ap, ◌∙◌, arith}
use Rattle.spk_history.specs.declared.reading.Front.{Front}
use Rattle.spk_history.specs.declared.reading.Front.TheVariants as fronts
use Rattle.spk_history.specs.Entry.{EntryData, said}
use Rattle.spk_history.specs.File.{IsFront, IsTorn, SaysSame}
use Rattle.spk_history.specs.Record.{IsEntry, content, record_of}
use Rattle.spk_history.proofs.Framing.{framed_stands}
use Rattle.spk_history.proofs.Whole.{record_is, some_bytes}

filled : (bytes : List ℕ) → bytes ≡ [] → 0 < length bytes → ⊥
filled bytes e lt = omega (arith, ap length e)

empty : (bytes rest : List ℕ) (e : EntryData) → bytes ≡ record_of e ++ rest → bytes ≡ [] → ⊥
empty bytes rest e here none = some_bytes e rest (sym here ∙ none)

whole : (bytes rest : List ℕ) (e : EntryData) → IsEntry e → bytes ≡ record_of e ++ rest → IsTorn bytes → ⊥
whole bytes rest e is here torn = (framed_stands bytes (content e) (is.small, (rest, here))).1 torn

pub one_front : (bytes : List ℕ) (answer other : Front) → IsFront bytes answer → IsFront bytes other → SaysSame answer other
one_front bytes (fronts.Record entry len) (fronts.Record other size) a b =
    let same = (record_is (said entry) (said other) a.1.0 b.1.0 a.0 b.0 (sym a.1.1 ∙ b.1.1)).0 in
    (same, a.2 ∙ ap (λ e. length (record_of e)) same ∙ sym b.2)
one_front bytes (fronts.Record entry len) fronts.End a b = empty bytes a.1.0 (said entry) a.1.1 b
one_front bytes (fronts.Record entry len) fronts.Torn a b = whole bytes a.1.0 (said entry) a.0 a.1.1 b
one_front bytes (fronts.Record entry len) fronts.Broken a b = b.2 (said entry) a.1.0 a.0 a.1.1
one_front bytes fronts.End (fronts.Record other size) a b = empty bytes b.1.0 (said other) b.1.1 a
one_front bytes fronts.End fronts.End a b = tt
one_front bytes fronts.End fronts.Torn a b = filled bytes a b.0
one_front bytes fronts.End fronts.Broken a b = filled bytes a b.0
one_front bytes fronts.Torn (fronts.Record other size) a b = whole bytes b.1.0 (said other) b.0 b.1.1 a
one_front bytes fronts.Torn fronts.End a b = filled bytes b a.0
one_front bytes fronts.Torn fronts.Torn a b = tt
one_front bytes fronts.Torn fronts.Broken a b = b.1 a
one_front bytes fronts.Broken (fronts.Record other size) a b = a.2 (said other) b.1.0 b.0 b.1.1
one_front bytes fronts.Broken fronts.End a b = filled bytes b a.0
one_front bytes fronts.Broken fronts.Torn a b = a.1 b
one_front bytes fronts.Broken fronts.Broken a b = tt
