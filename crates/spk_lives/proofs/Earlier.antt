-- A record that covers what a node did covers what it had done before.
use Rattle.std.proofs.Common.{◌≡◌, ℕ, zero, suc, ◌+◌, ◌<◌, ◌≤◌, Bool, true, false, cond, List, [], ◌∷◌, ◌++◌, length, map, Option, Some, None, Result, Ok, Err, refl, sym, ◌∙◌, ap, subst, arith, length-append}
use Rattle.std.specs.List.{last_or}
use Rattle.spk_sequence.specs.NodeRecord as sequence
use Rattle.spk_sequence.specs.NodeRecord.{IsNodeRecord, stamp_at}
use Rattle.spk_edge_rules.specs.declared.fault.EdgeFault.{EdgeFault}
use Rattle.spk_edge_rules.specs.Answers.{Answer}
use Rattle.spk_edge_rules.specs.Config.{Setup}
use Rattle.spk_edge_rules.specs.Inputs.{Input}
use Rattle.spk_edge_rules.specs.Run.{Done, Message, opened, outline, published, right_at, run_of, stamp_of, with_done}
use Rattle.spk_edge_rules.specs.Step.{is_open}
use Rattle.spk_lives.specs.Lives.{CoversRun, IsUpTo, Reserve}
use Rattle.spk_lives.proofs.Joined.{front}
use Rattle.spk_lives.proofs.Published.{FirstPast, Laws, first-past, outline-size, stamp-kept, up-to-last, up-to-more, up-to-same}

-- ---- sessions

not-fewer : (b : Bool) (n : ℕ) → n ≤ cond b (n + 1) n
not-fewer true n = omega arith
not-fewer false n = omega arith

one-more : (s : Setup) (is : List Input) (i : Input) → opened (run_of s is) ≤ opened (run_of s (i ∷ is))
one-more s is i = by (right_at s (run_of s is) i)
  where
    by : (r : Result Answer EdgeFault) → opened (run_of s is) ≤ opened (with_done (run_of s is) i r)
    by (Ok answer) = not-fewer (is_open i.act) (opened (run_of s is))
    by (Err f) = omega arith

pub opened-earlier : (s : Setup) (later is : List Input) → opened (run_of s is) ≤ opened (run_of s (later ++ is))
opened-earlier s [] is = omega arith
opened-earlier s (i ∷ later) is =
    let before = opened-earlier s later is in
    let step = one-more s (later ++ is) i in
    omega (arith, before, step)

-- ---- stamps

last-stamp : (o : Option ℕ) (m : Message) (ms : List Message) → last_or o (map (λ (x : Message). x.draft.stamp) (m ∷ ms)) ≡ Some (stamp_at (outline (m ∷ ms)) (length ms))
last-stamp o m [] = refl
last-stamp o m (n ∷ ms) = last-stamp (Some m.draft.stamp) n ms

outline-append : (ms more : List Message) → outline (ms ++ more) ≡ outline ms ++ outline more
outline-append [] more = refl
outline-append (m ∷ ms) more = ap (λ xs. (record { birth = m.birth; session = m.session; stamp = m.draft.stamp }) ∷ xs) (outline-append ms more)

still-there : (ms more : List Message) (p : ℕ) → p < length (outline ms) → stamp_at (outline (ms ++ more)) p ≡ stamp_at (outline ms) p
still-there ms more p below =
    ap (λ (r : sequence.NodeRecord). stamp_at r p) (outline-append ms more)
    ∙ ap (λ (m : sequence.Message). m.stamp) (front (outline ms) (outline more) p below)

-- the last stamp of the first messages isn't past that of all
front-stamp : (o : Option ℕ) (ms more : List Message) → IsNodeRecord (outline (ms ++ more)) → FirstPast o (ms ++ more)
    → IsUpTo (last_or o (map (λ (x : Message). x.draft.stamp) ms)) (last_or o (map (λ (x : Message). x.draft.stamp) (ms ++ more)))
front-stamp o [] more node first = stamp-kept o more node first
front-stamp o (m ∷ ms) more node first =
    let size : length (outline (m ∷ ms)) ≡ suc (length ms) = outline-size (m ∷ ms) in
    let whole : length (outline ((m ∷ ms) ++ more)) ≡ length ((m ∷ ms) ++ more) = outline-size ((m ∷ ms) ++ more) in
    let both : length ((m ∷ ms) ++ more) ≡ length (m ∷ ms) + length more = length-append (m ∷ ms) more in
    let there : stamp_at (outline ((m ∷ ms) ++ more)) (length ms) ≡ stamp_at (outline (m ∷ ms)) (length ms) =
    still-there (m ∷ ms) more (length ms) (omega (arith, size)) in
    subst (λ x. IsUpTo x (last_or o (map (λ (x : Message). x.draft.stamp) ((m ∷ ms) ++ more)))) (sym (last-stamp o m ms ∙ ap (λ n. Some n) (sym there)))
    (up-to-last o ((m ∷ ms) ++ more) node (length ms) (omega (arith, whole, both)))

-- messages stay where they stand
abbrev pub Grow : Type 0
Grow = (s : Setup) (later is : List Input) → (more : List Message) × (published (run_of s (later ++ is)) ≡ published (run_of s is) ++ more)

stamp-earlier : Laws → Grow → (s : Setup) (later is : List Input) → IsUpTo (stamp_of s (run_of s is)) (stamp_of s (run_of s (later ++ is)))
stamp-earlier laws grow s later is = by (grow s later is)
  where
    by : (more : List Message) × (published (run_of s (later ++ is)) ≡ published (run_of s is) ++ more)
        → IsUpTo (stamp_of s (run_of s is)) (stamp_of s (run_of s (later ++ is)))
    by (more, e) =
        subst (λ ms. IsUpTo (stamp_of s (run_of s is)) (last_or s.stamp (map (λ (x : Message). x.draft.stamp) ms))) (sym e)
        (front-stamp s.stamp (published (run_of s is)) more
        (subst (λ ms. IsNodeRecord (outline ms)) e (laws.node s (later ++ is)))
        (subst (FirstPast s.stamp) e (first-past laws s (later ++ is))))

pub earlier : Laws → Grow → (s : Setup) (later is : List Input) (r : Reserve) → CoversRun s (run_of s (later ++ is)) r → CoversRun s (run_of s is) r
earlier laws grow s later is r covers = record {
  sessions = (let before = opened-earlier s later is in let all = covers.sessions in omega (arith, before, all));
  stamp = up-to-more (stamp_of s (run_of s is)) (stamp_of s (run_of s (later ++ is))) r.stamp (stamp-earlier laws grow s later is) covers.stamp;
}
