-- The levels of a Sparkplug topic's text.
use Rattle.std.proofs.Common.{◌≡◌, ℕ, List, [], ◌∷◌, true, refl, sym, ap, ◌∙◌, codes, cond, nat_eq, get_or}
use Rattle.std.specs.Prelude.{not}
use Rattle.spk_topics.specs.Levels.{levels, joined}
use Rattle.spk_topics.specs.Text.{holds}
use Rattle.spk_topics.specs.Spark.{Named, named_levels, topic_of, has_names, is_name, node_type, device_type}
use Rattle.spk_topics.specs.Spark.Named.{of_node, of_device, of_state}
use Rattle.spk_topics.specs.declared.spark.Verb.{Verb}
use Rattle.spk_topics.specs.declared.spark.Verb.TheVariants.{Birth, Death, Data, Command}
use Rattle.spk_topics.proofs.BoolLemmas.{and_parts, and_both}
use Rattle.spk_topics.proofs.LevelLemmas.{levels-joined, joined-levels}

no_slash : (t : List ℕ) → is_name t ≡ true → not (holds 47 t) ≡ true
no_slash t h = (and_parts _ _ (and_parts _ _ (and_parts _ _ h).0).0).1

node_type_plain : (kind : Verb) → not (holds 47 (node_type kind)) ≡ true
node_type_plain Birth = refl
node_type_plain Death = refl
node_type_plain Data = refl
node_type_plain Command = refl

device_type_plain : (kind : Verb) → not (holds 47 (device_type kind)) ≡ true
device_type_plain Birth = refl
device_type_plain Death = refl
device_type_plain Data = refl
device_type_plain Command = refl

-- the text of a topic has these levels
pub levels-topic_of : (n : Named) → has_names n ≡ true → levels (topic_of n) ≡ named_levels n
levels-topic_of (of_node group kind node) h =
    let (g, n) = and_parts _ _ h in
    levels-joined (codes "spBv1.0") (group ∷ node_type kind ∷ node ∷ []) refl
    (and_both _ _ (no_slash group g) (and_both _ _ (node_type_plain kind) (and_both _ _ (no_slash node n) refl)))
levels-topic_of (of_device group kind node device) h =
    let (gn, d) = and_parts _ _ h in
    let (g, n) = and_parts _ _ gn in
    levels-joined (codes "spBv1.0") (group ∷ device_type kind ∷ node ∷ device ∷ []) refl
    (and_both _ _ (no_slash group g) (and_both _ _ (device_type_plain kind) (and_both _ _ (no_slash node n) (and_both _ _ (no_slash device d) refl))))
levels-topic_of (of_state host) h =
    levels-joined (codes "spBv1.0") (codes "STATE" ∷ host ∷ []) refl (and_both _ _ (no_slash host h) refl)

-- levels that are a topic's come from its text
pub topic_of-levels : (text : List ℕ) (n : Named) → levels text ≡ named_levels n → topic_of n ≡ text
topic_of-levels text n e = ap joined (sym e) ∙ joined-levels text

pub no_topic : (text : List ℕ) → ((n : Named) → has_names n ≡ true → levels text ≡ named_levels n → ⊥) → (n : Named) → has_names n ≡ true → topic_of n ≡ text → ⊥
no_topic text none n h e = none n h (ap levels (sym e) ∙ levels-topic_of n h)

-- ---- a topic has one meaning

abbrev verb_of : List ℕ → Verb
verb_of text =
    cond (nat_eq (get_or text 1 0) 66) Birth (cond (nat_eq (get_or text 1 0) 67) Command (cond (nat_eq (get_or text 2 0) 69) Death Data))

node_verb : (k : Verb) → verb_of (node_type k) ≡ k
node_verb Birth = refl
node_verb Death = refl
node_verb Data = refl
node_verb Command = refl

device_verb : (k : Verb) → verb_of (device_type k) ≡ k
device_verb Birth = refl
device_verb Death = refl
device_verb Data = refl
device_verb Command = refl

same_node : (k l : Verb) → node_type k ≡ node_type l → k ≡ l
same_node k l e = sym (node_verb k) ∙ ap verb_of e ∙ node_verb l

same_device : (k l : Verb) → device_type k ≡ device_type l → k ≡ l
same_device k l e = sym (device_verb k) ∙ ap verb_of e ∙ device_verb l

from_levels : (m n : Named) → named_levels m ≡ named_levels n → m ≡ n
from_levels (of_node g k n) (of_node h l o) e =
    let a : g ≡ h = cc in
    let b : n ≡ o = cc in
    let t : node_type k ≡ node_type l = cc in
    let c : k ≡ l = same_node k l t in
    cc
from_levels (of_node g k n) (of_device h l o d) e = cc
from_levels (of_node g k n) (of_state h) e = cc
from_levels (of_device g k n d) (of_node h l o) e = cc
from_levels (of_device g k n d) (of_device h l o x) e =
    let a : g ≡ h = cc in
    let b : n ≡ o = cc in
    let f : d ≡ x = cc in
    let t : device_type k ≡ device_type l = cc in
    let c : k ≡ l = same_device k l t in
    cc
from_levels (of_device g k n d) (of_state h) e = cc
from_levels (of_state g) (of_node h l o) e = cc
from_levels (of_state g) (of_device h l o x) e = cc
from_levels (of_state g) (of_state h) e = let a : g ≡ h = cc in cc

pub same_named : (m n : Named) → has_names m ≡ true → has_names n ≡ true → topic_of m ≡ topic_of n → m ≡ n
same_named m n h k e = from_levels m n (sym (levels-topic_of m h) ∙ ap levels e ∙ levels-topic_of n k)
