-- Messages by position: one position, how many, and more behind them.
use Rattle.std.proofs.Common.{◌≡◌, ◌∙◌, ap, sym, refl, subst, ℕ, zero, suc, ◌+◌, ◌-◌, ◌<◌, length, arith, List, [], ◌∷◌, ◌++◌, drop, Some, option_map}
use Rattle.std.specs.Prelude.{slice_get}
use Rattle.std.proofs.Math.Seq.{drop-append_seam}
use Rattle.std.proofs.lemmas.List.{length-drop}
use Rattle.spk_edge_rules.specs.Config.{Setup}
use Rattle.spk_edge_rules.specs.Run.{Message, number_at}
use Rattle.spk_edge.specs.Along.{message_at, messages_from}
use Rattle.spk_edge.specs.View.{MessageData}
use Rattle.spk_edge.proofs.Along.{Stays, number-stays, posted_at}

-- ---- one position

posted-get : (s : Setup) (all messages : List Message) (p k : ℕ) → slice_get (posted_at s all p messages) k ≡ option_map (message_at s all (p + k)) (slice_get messages k)
posted-get s all [] p k = refl
posted-get s all (m ∷ messages) p zero = let e : p ≡ p + zero = omega arith in ap (λ q. Some (message_at s all q m)) e
posted-get s all (m ∷ messages) p (suc k) =
    let e : p + 1 + k ≡ p + suc k = omega arith in
    posted-get s all messages (p + 1) k ∙ ap (λ q. option_map (message_at s all q) (slice_get messages k)) e

get-drop : {X : Type 0} (xs : List X) (p k : ℕ) → slice_get (drop p xs) k ≡ slice_get xs (p + k)
get-drop xs zero k = let e : k ≡ 0 + k = omega arith in ap (slice_get xs) e
get-drop [] (suc p) k = refl
get-drop (x ∷ xs) (suc p) k = let e : suc (p + k) ≡ suc p + k = omega arith in get-drop xs p k ∙ ap (slice_get (x ∷ xs)) e

pub placed-at : (s : Setup) (messages : List Message) (p k : ℕ) → slice_get (messages_from s messages p) k ≡ option_map (message_at s messages (p + k)) (slice_get messages (p + k))
placed-at s messages p k =
    posted-get s messages (drop p messages) p k ∙ ap (option_map (message_at s messages (p + k))) (get-drop messages p k)

-- ---- how many

length-posted : (s : Setup) (all messages : List Message) (p : ℕ) → length (posted_at s all p messages) ≡ length messages
length-posted s all [] p = refl
length-posted s all (m ∷ messages) p = ap (λ n. suc n) (length-posted s all messages (p + 1))

pub placed-count : (s : Setup) (messages : List Message) (p : ℕ) → length (messages_from s messages p) ≡ length messages - p
placed-count s messages p = length-posted s messages (drop p messages) p ∙ length-drop p messages

-- ---- more behind them

posted-append : (s : Setup) (all xs ys : List Message) (p : ℕ) → posted_at s all p (xs ++ ys) ≡ posted_at s all p xs ++ posted_at s all (p + length xs) ys
posted-append s all [] ys p = let e : p ≡ p + 0 = omega arith in ap (λ q. posted_at s all q ys) e
posted-append s all (x ∷ xs) ys p =
    let e : p + 1 + length xs ≡ p + length (x ∷ xs) = omega arith in
    ap (λ (l : List MessageData). message_at s all p x ∷ l) (posted-append s all xs ys (p + 1))
    ∙ ap (λ q. message_at s all p x ∷ (posted_at s all (p + 1) xs ++ posted_at s all q ys)) e

-- the messages of positions whose numbers are the same
posted-same : (s : Setup) (all some xs : List Message) (p : ℕ) → ((q : ℕ) → q < p + length xs → number_at s all q ≡ number_at s some q) → posted_at s all p xs ≡ posted_at s some p xs
posted-same s all some [] p same = refl
posted-same s all some (x ∷ xs) p same =
    let first : number_at s all p ≡ number_at s some p = same p (omega arith) in
    ap (λ n. record (message_at s all p x) { payload = record (message_at s all p x).payload { seq = Some n } } ∷ posted_at s all (p + 1) xs) first
    ∙ ap (λ (l : List MessageData). message_at s some p x ∷ l) (posted-same s all some xs (p + 1) (λ q below. same q (omega (arith, below))))

joined : (s : Setup) → Stays → (old more : List Message) → messages_from s (old ++ more) 0 ≡ messages_from s old 0 ++ posted_at s (old ++ more) (length old) more
joined s stays old more =
    let e : 0 + length old ≡ length old = omega arith in
    posted-append s (old ++ more) old more 0
    ∙ ap (λ (l : List MessageData). l ++ posted_at s (old ++ more) (0 + length old) more)
    (posted-same s (old ++ more) old old 0 (λ q below. number-stays s old more q stays (omega (arith, below))))
    ∙ ap (λ q. messages_from s old 0 ++ posted_at s (old ++ more) q more) e

-- the messages up to a position and those from it on
pub seam : (s : Setup) → Stays → (old more all : List Message) → all ≡ old ++ more → messages_from s old 0 ++ messages_from s all (length old) ≡ messages_from s all 0
seam s stays old more all same = subst (λ (l : List Message). messages_from s old 0 ++ messages_from s l (length old) ≡ messages_from s l 0) (sym same) (
    ap (λ (l : List Message). messages_from s old 0 ++ posted_at s (old ++ more) (length old) l) (drop-append_seam old more)
    ∙ sym (joined s stays old more))

pub placed-more : (s : Setup) → Stays → (messages more : List Message)
    → messages_from s (messages ++ more) 0 ≡ messages_from s messages 0 ++ messages_from s (messages ++ more) (length messages)
placed-more s stays messages more = sym (seam s stays messages more (messages ++ more) refl)
