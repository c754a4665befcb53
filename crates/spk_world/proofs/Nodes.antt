-- What an input does to a node.
use Rattle.std.proofs.Common.{◌≡◌, ◌∙◌, sym, ap, refl, ℕ, ◌+◌, ◌-◌, suc, List, [], ◌∷◌, ◌++◌, length, map, None, Option, Some}
use Rattle.std.proofs.lemmas.List.{length-map}
use Rattle.std.specs.Prelude.{if◌then◌else◌}
use Rattle.std.specs.List.{count_by, last_or}
use Rattle.spk_sequence.specs.NodeRecord.{Numbering}
use Rattle.spk_edge.specs.Sealing.{next_in, numbered}
use Rattle.spk_edge.specs.View.{MessageData, NodeData, unnumbered}
use Rattle.spk_edge_rules.specs.Answers.{Answer}
use Rattle.spk_edge_rules.specs.Config.{Config}
use Rattle.spk_edge_rules.specs.Inputs.{Input}
use Rattle.spk_edge_rules.specs.Messages.{Draft}
use Rattle.spk_edge_rules.specs.Step.{is_open, stepped}
use Rattle.spk_world_run.specs.Data.{NodePart, PublishedData}
use Rattle.spk_world_run.specs.Step.{after_input, messages_of, or_zero, posts_from, starts_from}

length-numbered : (numbering : Numbering) (seq : ℕ) (ms : List MessageData) → length (numbered numbering seq ms) ≡ length ms
length-numbered numbering seq [] = refl
length-numbered numbering seq (m ∷ ms) = ap suc (length-numbered numbering (next_in numbering seq m) ms)

-- so many are published as there are drafts
pub count-messages : (numbering : Numbering) (seq : ℕ) (c : Config) (drafts : List Draft) → length (numbered numbering seq (map (unnumbered c) drafts)) ≡ length drafts
count-messages numbering seq c drafts = length-numbered numbering seq (map (unnumbered c) drafts) ∙ length-map drafts (unnumbered c)

abbrev pub part_of : NodeData → List PublishedData → List ℕ → ℕ → List ℕ → NodePart
part_of node published starts births opened = record { node = node; published = published; starts = starts; births = births; opened = opened }

same-part : (n n' : NodeData) (p p' : List PublishedData) (s s' : List ℕ) (b b' : ℕ) (o o' : List ℕ) → n ≡ n' → p ≡ p' → s ≡ s' → b ≡ b' → o ≡ o' → part_of n p s b o ≡ part_of n' p' s' b' o'
same-part n n' p p' s s' b b' o o' en ep es eb eo =
    ap (λ x. part_of x p s b o) en ∙ ap (λ x. part_of n' x s b o) ep ∙ ap (λ x. part_of n' p' x b o) es ∙ ap (λ x. part_of n' p' s' x o) eb ∙ ap (λ x. part_of n' p' s' b' x) eo

pub after-parts : (before : NodePart) (input : Input) (given : Answer) (node : NodeData) (messages : List MessageData) (published : List PublishedData) (starts : List ℕ) (births : ℕ) (opened : List ℕ)
    → node ≡ record before.node { standing = stepped before.node.config before.node.standing input given.given }
    → messages ≡ messages_of before.node given
    → published ≡ before.published ++ posts_from (length before.opened - 1) before.births messages
    → starts ≡ before.starts ++ starts_from (length before.published) (or_zero (last_or None before.starts)) messages
    → births ≡ before.births + count_by (λ m. m.opens) messages
    → opened ≡ (if is_open input.act then before.opened ++ (input.now ∷ []) else before.opened)
    → part_of node published starts births opened ≡ after_input before input given
after-parts before input given node messages published starts births opened n m p s b o =
    same-part node _ published _ starts _ births _ opened _ n
    (p ∙ ap (λ ms. before.published ++ posts_from (length before.opened - 1) before.births ms) m)
    (s ∙ ap (λ ms. before.starts ++ starts_from (length before.published) (or_zero (last_or None before.starts)) ms) m)
    (b ∙ ap (λ (ms : List MessageData). before.births + count_by (λ m. m.opens) ms) m)
    o
