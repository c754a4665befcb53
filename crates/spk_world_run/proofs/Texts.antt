-- The topic of a node's NDEATH is a text if its names are, so what can be written is spelled.
use Rattle.std.proofs.Common.{◌≡◌, ◌∙◌, ap, sym, refl, ℕ, ◌<◌, Bool, true, false, ◌&&◌, List, [], ◌∷◌, ◌++◌, nat_lt, Option, Some, None}
use Rattle.std.specs.Prelude.{All, codes, is_none}
use Rattle.std.specs.List.{list_all}
use Rattle.std.specs.Str.{IsUtf8, IsAscii}
use Rattle.std.proofs.lemmas.Bool.{true≢false, and_parts, ltb-true}
use Rattle.std.proofs.lemmas.List.Elements.{All-cons, All-nil}
use Rattle.std.proofs.lemmas.Str.{IsUtf8-append, IsUtf8-from_ascii}
use Rattle.std.proofs.lemmas.Str.Ascii.{IsAscii-from_all}
use Rattle.spk_packets.specs.Fault.{first_of}
use Rattle.spk_packets.specs.Grammar.{Spells}
use Rattle.spk_packets.specs.Message.{Message, Publish}
use Rattle.spk_packets.specs.Spelling.{HasWords, PacketFits, spelling, unwritable}
use Rattle.spk_packets.specs.declared.fault.PacketFault.{PacketFault}
use Rattle.spk_edge_rules.specs.Writable.{is_writable}
use Rattle.spk_edge_rules.specs.Config.{Config}
use Rattle.spk_edge_rules.specs.Packets.{death_topic}
use Rattle.spk_world_run.specs.Step.{death_of}

abbrev pub SpellingSpells : Type 0
SpellingSpells = (p : Message) → PacketFits p → first_of (unwritable p) ≡ None → Spells (spelling p) p

below : (bs : List ℕ) → list_all (λ b. nat_lt b 128) bs ≡ true → All (λ b. b < 128) bs
below [] e = All-nil (λ b. b < 128)
below (b ∷ bs) e =
    let both = and_parts (nat_lt b 128) (list_all (λ x. nat_lt x 128) bs) e in
    All-cons (λ x. x < 128) b bs (ltb-true b 128 both.0) (below bs both.1)

plain : (bs : List ℕ) → list_all (λ b. nat_lt b 128) bs ≡ true → IsUtf8 bs
plain bs e = IsUtf8-from_ascii bs (IsAscii-from_all bs (below bs e))

topic-text : (c : Config) → IsUtf8 c.group → IsUtf8 c.node → IsUtf8 (death_topic c)
topic-text c group node =
    let last = IsUtf8-append (47 ∷ []) c.node (plain (47 ∷ []) refl) node in
    let kind = IsUtf8-append (codes "NDEATH") (47 ∷ c.node) (plain (codes "NDEATH") refl) last in
    let third = IsUtf8-append (47 ∷ []) (codes "NDEATH" ++ 47 ∷ c.node) (plain (47 ∷ []) refl) kind in
    let second = IsUtf8-append c.group (47 ∷ (codes "NDEATH" ++ 47 ∷ c.node)) group third in
    let first = IsUtf8-append (47 ∷ []) (c.group ++ 47 ∷ (codes "NDEATH" ++ 47 ∷ c.node)) (plain (47 ∷ []) refl) second in
    IsUtf8-append (codes "spBv1.0") (47 ∷ (c.group ++ 47 ∷ (codes "NDEATH" ++ 47 ∷ c.node))) (plain (codes "spBv1.0") refl) first

none-of : (o : Option PacketFault) → is_none o ≡ true → o ≡ None
none-of None e = refl
none-of (Some f) e = absurd (true≢false (sym e))

fits : (c : Config) (session time : ℕ) → IsUtf8 (death_topic c) → PacketFits (death_of c session time)
unfolding HasWords
fits c session time text = (tt, text)

pub death-spelled : SpellingSpells → (c : Config) (session time : ℕ) → IsUtf8 c.group → IsUtf8 c.node → is_writable (death_of c session time) ≡ true
    → Spells (spelling (death_of c session time)) (death_of c session time)
death-spelled spells c session time group node can =
    spells (death_of c session time) (fits c session time (topic-text c group node)) (none-of (first_of (unwritable (death_of c session time))) can)
