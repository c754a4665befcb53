-- What a text names, as a function of it.
use Rattle.std.proofs.Common.{◌≡◌, ◌≢◌, ◌⊎◌, ◌↔◌, ℕ, List, [], ◌∷◌, Bool, true, false, refl, sym, ap, subst, ◌∙◌, codes, cond, Option, Some, None, option_and_then, inl, inr}
use Rattle.std.specs.Option.{option_map}
use Rattle.std.specs.Prelude.{IsTrue}
use Rattle.std.specs.Str.{bytes_eq}
use Rattle.spk_topics.specs.Levels.{levels}
use Rattle.spk_topics.specs.Spark.{Named, named_levels, topic_of, has_names, node_type, device_type, verb_in, named_behind, named_by, if_names, named_at, RefusesText}
use Rattle.spk_topics.specs.Spark.Named.{of_node, of_device, of_state}
use Rattle.spk_topics.specs.declared.fault.TopicFault.{TopicFault}
use Rattle.spk_topics.specs.declared.fault.TopicFault.TheVariants.{NoMemory, Empty, Wildcard, Nul, TooLong, NotSparkplug}
use Rattle.spk_topics.specs.declared.spark.Verb.{Verb}
use Rattle.spk_topics.specs.declared.spark.Verb.TheVariants.{Birth, Death, Data, Command}
use Rattle.spk_topics.proofs.FitLemmas.{bytes_same}
use Rattle.spk_topics.proofs.SparkLemmas.{levels-topic_of, topic_of-levels}

-- ---- levels that name something are its levels

chosen : {X : Type 0} (b : Bool) (x : Option X) (y : X) → cond b x None ≡ Some y → (b ≡ true) × (x ≡ Some y)
chosen true x y e = (refl, e)
chosen false x y e = cc

mapped : {X Y : Type 0} (f : X → Y) (o : Option X) (y : Y) → option_map f o ≡ Some y → (x : X) × (o ≡ Some x) × (f x ≡ y)
mapped f None y e = cc
mapped f (Some x) y e = (x, refl, cc)

abbrev some_verb : Verb → Option Verb
some_verb v = Some v

same_verb : (v w : Verb) → some_verb v ≡ some_verb w → v ≡ w
same_verb v w e = cc

either : (type : Verb → List ℕ) (level : List ℕ) (first v : Verb) (rest : Option Verb) (b : Bool) → bytes_eq (type first) level ≡ b → cond b (Some first) rest ≡ Some v
    → (rest ≡ Some v → type v ≡ level) → type v ≡ level
either type level first v rest true is e go = subst (λ w. type w ≡ level) (same_verb first v e) (bytes_same _ _ is)
either type level first v rest false is e go = go e

verb-in : (type : Verb → List ℕ) (level : List ℕ) (v : Verb) → verb_in type level ≡ Some v → type v ≡ level
verb-in type level v e =
    either type level Birth v _ (bytes_eq (type Birth) level) refl e (λ e1.
    either type level Death v _ (bytes_eq (type Death) level) refl e1 (λ e2.
    either type level Data v _ (bytes_eq (type Data) level) refl e2 (λ e3.
    either type level Command v None (bytes_eq (type Command) level) refl e3 (λ e4. cc))))

abbrev prefixed : List (List ℕ) → List (List ℕ)
prefixed rest = codes "spBv1.0" ∷ rest

state-behind : (state host : List ℕ) (n : Named) → named_behind (state ∷ host ∷ []) ≡ Some n → prefixed (state ∷ host ∷ []) ≡ named_levels n
state-behind state host n e =
    let (is, same) = chosen (bytes_eq state (codes "STATE")) (Some (of_state host)) n e in
    let named : of_state host ≡ n = cc in
    ap (λ s. prefixed (s ∷ host ∷ [])) (bytes_same _ _ is) ∙ ap named_levels named

node-behind : (group kind node : List ℕ) (n : Named) → named_behind (group ∷ kind ∷ node ∷ []) ≡ Some n → prefixed (group ∷ kind ∷ node ∷ []) ≡ named_levels n
node-behind group kind node n e =
    let (verb, is, named) = mapped (λ verb. of_node group verb node) (verb_in node_type kind) n e in
    ap (λ k. prefixed (group ∷ k ∷ node ∷ [])) (sym (verb-in node_type kind verb is)) ∙ ap named_levels named

device-behind : (group kind node device : List ℕ) (n : Named) → named_behind (group ∷ kind ∷ node ∷ device ∷ []) ≡ Some n → prefixed (group ∷ kind ∷ node ∷ device ∷ []) ≡ named_levels n
device-behind group kind node device n e =
    let (verb, is, named) = mapped (λ verb. of_device group verb node device) (verb_in device_type kind) n e in
    ap (λ k. prefixed (group ∷ k ∷ node ∷ device ∷ [])) (sym (verb-in device_type kind verb is)) ∙ ap named_levels named

behind : (rest : List (List ℕ)) (n : Named) → named_behind rest ≡ Some n → prefixed rest ≡ named_levels n
behind [] n e = cc
behind (a ∷ []) n e = cc
behind (a ∷ b ∷ []) n e = state-behind a b n e
behind (a ∷ b ∷ c ∷ []) n e = node-behind a b c n e
behind (a ∷ b ∷ c ∷ d ∷ []) n e = device-behind a b c d n e
behind (a ∷ b ∷ c ∷ d ∷ f ∷ rest) n e = cc

named-levels : (ls : List (List ℕ)) (n : Named) → named_by ls ≡ Some n → ls ≡ named_levels n
named-levels [] n e = cc
named-levels (prefix ∷ rest) n e =
    let (is, more) = chosen (bytes_eq prefix (codes "spBv1.0")) (named_behind rest) n e in
    ap (λ p. p ∷ rest) (bytes_same _ _ is) ∙ behind rest n more

-- ---- its levels name it

node-named : (group node : List ℕ) (kind : Verb) → named_by (named_levels (of_node group kind node)) ≡ Some (of_node group kind node)
node-named group node Birth = refl
node-named group node Death = refl
node-named group node Data = refl
node-named group node Command = refl

device-named : (group node device : List ℕ) (kind : Verb) → named_by (named_levels (of_device group kind node device)) ≡ Some (of_device group kind node device)
device-named group node device Birth = refl
device-named group node device Death = refl
device-named group node device Data = refl
device-named group node device Command = refl

levels-named : (n : Named) → named_by (named_levels n) ≡ Some n
levels-named (of_node group kind node) = node-named group node kind
levels-named (of_device group kind node device) = device-named group node device kind
levels-named (of_state host) = refl

-- ---- both ways

abbrev some_named : Named → Option Named
some_named m = Some m

if-names : (m n : Named) (b : Bool) → has_names m ≡ b → cond b (some_named m) None ≡ Some n → (m ≡ n) × (has_names m ≡ true)
if-names m n true is e = (cc, is)
if-names m n false is e = cc

parted : (o : Option Named) (n : Named) → option_and_then if_names o ≡ Some n → (o ≡ Some n) × (has_names n ≡ true)
parted None n e = cc
parted (Some m) n e =
    let (same, names) = if-names m n (has_names m) refl e in
    (ap some_named same, ap has_names (sym same) ∙ names)

pub named-at : (text : List ℕ) (n : Named) → named_at text ≡ Some n → IsTrue (has_names n) × (topic_of n ≡ text)
named-at text n e =
    let (by, names) = parted (named_by (levels text)) n e in
    (names, topic_of-levels text n (named-levels (levels text) n by))

pub at-named : (text : List ℕ) (n : Named) → IsTrue (has_names n) × (topic_of n ≡ text) → named_at text ≡ Some n
at-named text n h =
    ap (λ t. option_and_then if_names (named_by (levels t))) (sym h.1)
    ∙ ap (λ ls. option_and_then if_names (named_by ls)) (levels-topic_of n h.0)
    ∙ ap (option_and_then if_names) (levels-named n)
    ∙ ap (λ b. cond b (some_named n) None) h.0

pub reading : (text : List ℕ) (n : Named) → (named_at text ≡ Some n) ↔ (IsTrue (has_names n) × (topic_of n ≡ text))
reading text n = (named-at text n, at-named text n)

-- a text that is refused names nothing
names-nothing : (text : List ℕ) (o : Option Named) → named_at text ≡ o → ((n : Named) → IsTrue (has_names n) → topic_of n ≢ text) → o ≡ None
names-nothing text None is none = refl
names-nothing text (Some n) is none = let (names, topic) = named-at text n is in absurd (none n names topic)

pub refused-none : (text : List ℕ) (f : TopicFault) → RefusesText text f → (f ≡ NoMemory) ⊎ ((f ≡ NotSparkplug) × (named_at text ≡ None))
refused-none text NoMemory h = inl refl
refused-none text NotSparkplug h = inr (refl, names-nothing text (named_at text) refl h)
refused-none text Empty h = absurd h
refused-none text Wildcard h = absurd h
refused-none text Nul h = absurd h
refused-none text TooLong h = absurd h
