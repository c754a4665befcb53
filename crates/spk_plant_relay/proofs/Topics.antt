-- Filters of a plant's clients fit all numbered topics of a node, or none.
use Rattle.std.proofs.Common.{◌≡◌, sym, ap, refl, ◌∙◌, ℕ, Bool, true, false, not, ◌&&◌, ◌||◌, ltb, List, [], ◌∷◌, length, Option, Some, None, IsTrue, ◌↔◌, codes, bytes_eq}
use Rattle.std.specs.List.{list_all}
use Rattle.std.specs.Option.{option_map_or}
use Rattle.std.proofs.lemmas.Bool.{and_from, and_parts}
use Rattle.std.proofs.lemmas.Slice.Eq.{bytes_eq-Decides}
use Rattle.spk_topics.specs.Fitting.{begins_with_dollar, fits, is_match, starts_with_wildcard}
use Rattle.spk_topics.specs.Levels.{is_empty, joined, levels}
use Rattle.spk_topics.specs.Spark.{Named, device_type, has_names, is_name, named_at, named_levels, node_type, topic_of}
use Rattle.spk_topics.specs.Spark.Named.{of_node, of_device, of_state}
use Rattle.spk_topics.specs.Text.{holds, is_plain}
use Rattle.spk_topics.specs.declared.spark.Verb.{Verb}
use Rattle.spk_topics.specs.declared.spark.Verb.TheVariants.{Birth, Death, Data, Command}
use Rattle.spk_plant_relay.specs.Topics.{is_numbered_name, is_numbered_topic}
use Rattle.spk_plant_relay.proofs.Offers.{no-yes}

-- what the laws on topics say
pub record TopicFacts : Type 0 where
  pub reading : (text : List ℕ) (n : Named) → (named_at text ≡ Some n) ↔ (IsTrue (has_names n) × (topic_of n ≡ text))
  pub again : (level : List ℕ) (rest : List (List ℕ)) → IsTrue (list_all (λ l. not (holds 47 l)) (level ∷ rest)) → levels (joined (level ∷ rest)) ≡ level ∷ rest

-- ---- names and levels

abbrev pub slashless : List ℕ → Bool
slashless l = not (holds 47 l)

pub name-slashless : (text : List ℕ) → is_name text ≡ true → slashless text ≡ true
name-slashless text e = by (not (is_empty text)) (slashless text) (is_plain text) (not (holds 0 text)) e
  where
    by : (a b c d : Bool) → (a && b && c && d) ≡ true → b ≡ true
    by true true c d e = refl
    by true false c d e = absurd (no-yes e)
    by false b c d e = absurd (no-yes e)

pub name-plain : (text : List ℕ) → is_name text ≡ true → is_plain text ≡ true
name-plain text e = by (not (is_empty text)) (slashless text) (is_plain text) (not (holds 0 text)) e
  where
    by : (a b c d : Bool) → (a && b && c && d) ≡ true → c ≡ true
    by true true true d e = refl
    by true true false d e = absurd (no-yes e)
    by true false c d e = absurd (no-yes e)
    by false b c d e = absurd (no-yes e)

node-slashless : (v : Verb) → slashless (node_type v) ≡ true
node-slashless Birth = refl
node-slashless Death = refl
node-slashless Data = refl
node-slashless Command = refl

device-slashless : (v : Verb) → slashless (device_type v) ≡ true
device-slashless Birth = refl
device-slashless Death = refl
device-slashless Data = refl
device-slashless Command = refl

four : (a b c d : Bool) → a ≡ true → b ≡ true → c ≡ true → d ≡ true → (a && (b && (c && (d && true)))) ≡ true
four a b c d x y z w = and_from _ _ x (and_from _ _ y (and_from _ _ z (and_from _ _ w refl)))

five : (a b c d e : Bool) → a ≡ true → b ≡ true → c ≡ true → d ≡ true → e ≡ true → (a && (b && (c && (d && (e && true))))) ≡ true
five a b c d e x y z w v = and_from _ _ x (four b c d e y z w v)

-- the levels of a filter on a node's device commands
pub five-levels : (g m : List ℕ) → slashless g ≡ true → slashless m ≡ true →
    (slashless (codes "spBv1.0") && (slashless g && (slashless (codes "DCMD") && (slashless m && (slashless (codes "+") && true))))) ≡ true
five-levels g m x y = five _ _ _ _ _ refl x refl y refl

-- the levels of a host's filter on a group
pub three-levels : (g : List ℕ) → slashless g ≡ true → (slashless (codes "spBv1.0") && (slashless g && (slashless (35 ∷ []) && true))) ≡ true
three-levels g x = and_from _ _ refl (and_from _ _ x (and_from _ _ refl refl))

names-two : (a b : Bool) → (a && b) ≡ true → (a ≡ true) × (b ≡ true)
names-two a b e = and_parts a b e

pub names-three : (a b c : Bool) → (a && b && c) ≡ true → (a ≡ true) × (b ≡ true) × (c ≡ true)
names-three true true true e = (refl, refl, refl)
names-three true true false e = absurd (no-yes e)
names-three true false c e = absurd (no-yes e)
names-three false b c e = absurd (no-yes e)

pub levels-of : TopicFacts → (n : Named) → has_names n ≡ true → levels (topic_of n) ≡ named_levels n
levels-of t (of_node g v m) e =
    let two = names-two _ _ e in
    t.again (codes "spBv1.0") (g ∷ node_type v ∷ m ∷ []) (four _ _ _ _ refl (name-slashless g two.0) (node-slashless v) (name-slashless m two.1))
levels-of t (of_device g v m d) e =
    let three = names-three _ _ _ e in
    t.again (codes "spBv1.0") (g ∷ device_type v ∷ m ∷ d ∷ []) (five _ _ _ _ _ refl (name-slashless g three.0) (device-slashless v) (name-slashless m three.1) (name-slashless d three.2))
levels-of t (of_state h) e =
    t.again (codes "spBv1.0") (codes "STATE" ∷ h ∷ []) (and_from _ _ refl (and_from _ _ refl (and_from _ _ (name-slashless h e) refl)))

-- ---- numbered topics

pub record IsNumberedTopic (group node topic : List ℕ) : Type 0 where
  pub name : Named
  pub numbered : is_numbered_name group node name ≡ true
  pub parts : levels topic ≡ named_levels name

pub numbered-topic : TopicFacts → (group node topic : List ℕ) → is_numbered_topic group node topic ≡ true → IsNumberedTopic group node topic
unfolding is_numbered_topic
numbered-topic t group node topic e = by (named_at topic) refl e
  where
    by : (o : Option Named) → named_at topic ≡ o → option_map_or (is_numbered_name group node) o false ≡ true → IsNumberedTopic group node topic
    by None at e = absurd (no-yes e)
    by (Some n) at e =
        let is = (t.reading topic n).0 at in
        record { name = n; numbered = e; parts = ap levels (sym is.1) ∙ levels-of t n is.0 }

pub numbered-is : TopicFacts → (group node : List ℕ) (n : Named) → has_names n ≡ true → is_numbered_topic group node (topic_of n) ≡ is_numbered_name group node n
unfolding is_numbered_topic
numbered-is t group node n e = ap (λ o. option_map_or (is_numbered_name group node) o false) ((t.reading (topic_of n) n).1 (e, refl))

-- one of the node's numbered topics, or none that a packet can have
abbrev pub barred : (group node : List ℕ) → List ℕ → Bool
barred group node topic = is_numbered_topic group node topic || ltb 65535 (length topic)

-- ---- filters

match-levels : (filter topic : List ℕ) (fs ts : List (List ℕ)) → levels filter ≡ fs → levels topic ≡ ts → starts_with_wildcard fs ≡ false → is_match filter topic ≡ fits fs ts
match-levels filter topic fs ts f t plain =
    ap (λ ls. not (starts_with_wildcard ls && begins_with_dollar topic) && fits ls (levels topic)) f
    ∙ ap (λ ls. not (starts_with_wildcard fs && begins_with_dollar topic) && fits fs ls) t
    ∙ ap (λ b. not (b && begins_with_dollar topic) && fits fs ts) plain

neither : (x y : Bool) → (x && false || y && false) ≡ false
neither true true = refl
neither true false = refl
neither false true = refl
neither false false = refl

-- commands to a node, and to its devices
pub node-commands : (g m group node : List ℕ) (n : Named) → is_numbered_name group node n ≡ true →
    fits (named_levels (of_node g Command m)) (named_levels n) ≡ false
node-commands g m group node (of_node h Birth k) e = neither (bytes_eq g (35 ∷ [])) (bytes_eq g (43 ∷ []) || bytes_eq g h)
node-commands g m group node (of_node h Data k) e = neither (bytes_eq g (35 ∷ [])) (bytes_eq g (43 ∷ []) || bytes_eq g h)
node-commands g m group node (of_node h Death k) e = absurd (no-yes e)
node-commands g m group node (of_node h Command k) e = absurd (no-yes e)
node-commands g m group node (of_device h Birth k d) e = neither (bytes_eq g (35 ∷ [])) (bytes_eq g (43 ∷ []) || bytes_eq g h)
node-commands g m group node (of_device h Data k d) e = neither (bytes_eq g (35 ∷ [])) (bytes_eq g (43 ∷ []) || bytes_eq g h)
node-commands g m group node (of_device h Death k d) e = neither (bytes_eq g (35 ∷ [])) (bytes_eq g (43 ∷ []) || bytes_eq g h)
node-commands g m group node (of_device h Command k d) e = absurd (no-yes e)
node-commands g m group node (of_state h) e = absurd (no-yes e)

pub device-commands : (g m x group node : List ℕ) (n : Named) → is_numbered_name group node n ≡ true →
    fits (named_levels (of_device g Command m x)) (named_levels n) ≡ false
device-commands g m x group node (of_node h Birth k) e = neither (bytes_eq g (35 ∷ [])) (bytes_eq g (43 ∷ []) || bytes_eq g h)
device-commands g m x group node (of_node h Data k) e = neither (bytes_eq g (35 ∷ [])) (bytes_eq g (43 ∷ []) || bytes_eq g h)
device-commands g m x group node (of_node h Death k) e = absurd (no-yes e)
device-commands g m x group node (of_node h Command k) e = absurd (no-yes e)
device-commands g m x group node (of_device h Birth k d) e = neither (bytes_eq g (35 ∷ [])) (bytes_eq g (43 ∷ []) || bytes_eq g h)
device-commands g m x group node (of_device h Data k d) e = neither (bytes_eq g (35 ∷ [])) (bytes_eq g (43 ∷ []) || bytes_eq g h)
device-commands g m x group node (of_device h Death k d) e = neither (bytes_eq g (35 ∷ [])) (bytes_eq g (43 ∷ []) || bytes_eq g h)
device-commands g m x group node (of_device h Command k d) e = absurd (no-yes e)
device-commands g m x group node (of_state h) e = absurd (no-yes e)

-- all topics of a group
either : (x y : Bool) → (x && false || y && true) ≡ y
either true true = refl
either true false = refl
either false true = refl
either false false = refl

abbrev pub group-test : List ℕ → List ℕ → Bool
group-test g group = bytes_eq g (43 ∷ []) || bytes_eq g group

in-group : (g group node h k : List ℕ) → (bytes_eq h group && bytes_eq k node) ≡ true → group-test g h ≡ group-test g group
in-group g group node h k e = ap (group-test g) ((bytes_eq-Decides h group).0 (and_parts _ _ e).0)

pub group-topics : (g group node : List ℕ) (n : Named) → is_numbered_name group node n ≡ true →
    fits (codes "spBv1.0" ∷ g ∷ (35 ∷ []) ∷ []) (named_levels n) ≡ group-test g group
group-topics g group node (of_node h Birth k) e = either (bytes_eq g (35 ∷ [])) (group-test g h) ∙ in-group g group node h k e
group-topics g group node (of_node h Data k) e = either (bytes_eq g (35 ∷ [])) (group-test g h) ∙ in-group g group node h k e
group-topics g group node (of_node h Death k) e = absurd (no-yes e)
group-topics g group node (of_node h Command k) e = absurd (no-yes e)
group-topics g group node (of_device h Birth k d) e = either (bytes_eq g (35 ∷ [])) (group-test g h) ∙ in-group g group node h k e
group-topics g group node (of_device h Data k d) e = either (bytes_eq g (35 ∷ [])) (group-test g h) ∙ in-group g group node h k e
group-topics g group node (of_device h Death k d) e = either (bytes_eq g (35 ∷ [])) (group-test g h) ∙ in-group g group node h k e
group-topics g group node (of_device h Command k d) e = absurd (no-yes e)
group-topics g group node (of_state h) e = absurd (no-yes e)

-- STATE
no-hash : (text : List ℕ) → is_name text ≡ true → bytes_eq text (35 ∷ []) ≡ false
no-hash text e = by (bytes_eq text (35 ∷ [])) refl
  where
    by : (b : Bool) → bytes_eq text (35 ∷ []) ≡ b → b ≡ false
    by true at = absurd (no-yes (ap is_plain (sym ((bytes_eq-Decides text (35 ∷ [])).0 at)) ∙ name-plain text e))
    by false at = refl

third : (x y z : Bool) → x ≡ false → (y && (x && true || z && false)) ≡ false
third x true true e = ap (λ a. a && true || false) e
third x true false e = ap (λ a. a && true || false) e
third x false z e = refl

pub states : (s group node : List ℕ) (n : Named) → is_name s ≡ true → is_numbered_name group node n ≡ true →
    fits (named_levels (of_state s)) (named_levels n) ≡ false
states s group node (of_node h Birth k) name e = third (bytes_eq s (35 ∷ [])) (bytes_eq (codes "STATE") h) (bytes_eq s (43 ∷ []) || bytes_eq s (codes "NBIRTH")) (no-hash s name)
states s group node (of_node h Data k) name e = third (bytes_eq s (35 ∷ [])) (bytes_eq (codes "STATE") h) (bytes_eq s (43 ∷ []) || bytes_eq s (codes "NDATA")) (no-hash s name)
states s group node (of_node h Death k) name e = absurd (no-yes e)
states s group node (of_node h Command k) name e = absurd (no-yes e)
states s group node (of_device h Birth k d) name e = third (bytes_eq s (35 ∷ [])) (bytes_eq (codes "STATE") h) (bytes_eq s (43 ∷ []) || bytes_eq s (codes "DBIRTH")) (no-hash s name)
states s group node (of_device h Data k d) name e = third (bytes_eq s (35 ∷ [])) (bytes_eq (codes "STATE") h) (bytes_eq s (43 ∷ []) || bytes_eq s (codes "DDATA")) (no-hash s name)
states s group node (of_device h Death k d) name e = third (bytes_eq s (35 ∷ [])) (bytes_eq (codes "STATE") h) (bytes_eq s (43 ∷ []) || bytes_eq s (codes "DDEATH")) (no-hash s name)
states s group node (of_device h Command k d) name e = absurd (no-yes e)
states s group node (of_state h) name e = absurd (no-yes e)

-- ---- a filter that fits all of them or none

-- what a filter of these levels does
pub record IsAlike (group node : List ℕ) (fs : List (List ℕ)) : Type 0 where
  pub plain : starts_with_wildcard fs ≡ false
  pub verdict : Bool
  pub same : (n : Named) → is_numbered_name group node n ≡ true → fits fs (named_levels n) ≡ verdict

pub fits-alike : TopicFacts → (group node filter : List ℕ) (fs : List (List ℕ)) → levels filter ≡ fs → IsAlike group node fs → (one other : List ℕ) →
    is_numbered_topic group node one ≡ true → is_numbered_topic group node other ≡ true → is_match filter one ≡ is_match filter other
fits-alike t group node filter fs at alike one other x y =
    let a = numbered-topic t group node one x in
    let b = numbered-topic t group node other y in
    match-levels filter one fs (named_levels a.name) at a.parts alike.plain ∙ alike.same a.name a.numbered
    ∙ sym (match-levels filter other fs (named_levels b.name) at b.parts alike.plain ∙ alike.same b.name b.numbered)
