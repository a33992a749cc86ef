-- Leaves that are set to the players' own bounds, one after another.
use Rattle.std.proofs.Common.{◌≡◌, ◌≢◌, ℕ, ◌+◌, ◌<◌, ◌≤◌, arith, sym, ap, subst, ◌∙◌, List, length, map, get_or, set, ⊎_elim}
use Rattle.std.specs.Option.{option_map_or}
use Rattle.std.proofs.lemmas.Bool.{cases_eq, cases_lt}
use Rattle.std.proofs.lemmas.Option.{slice_get_past}
use Rattle.zr_game.specs.declared.leaf.Leaf.{Leaf}
use Rattle.zr_game.specs.Players.{GameOf, PlayerOf}
use Rattle.zr_game.specs.Forms.{IsPlayer}
use Rattle.zr_game.specs.Leaves.{leaf_of, root_leaf}
use Rattle.zr_boxes.specs.Boxes.{no_leaf, root_box, with_leaf}
use Rattle.zr_boxes.specs.Paths.{box_of}
use Rattle.zr_boxes.specs.Places.{leaf_size, player_size}
use Rattle.zr_boxes.proofs.BoxLists.{at_other, at_same, box_set, leaf_count, same_box, sizes_kept}

-- the leaves below i are root leaves, and all have the sizes that they had
pub record Started (game : GameOf) (old leaves : List Leaf) (i : ℕ) : Type 0 where
  pub roots : (k : ℕ) → k < i → box_of leaves k ≡ root_box game k
  pub sizes : map leaf_size leaves ≡ map leaf_size old

module _ (game : GameOf) (old leaves : List Leaf) (i : ℕ) (before : Started game old leaves i) where
  pub one_started : (was leaf : Leaf) (player : PlayerOf) → i < length leaves
      → was ≡ get_or leaves i was → IsPlayer game i player → leaf_of leaf ≡ root_leaf player
      → leaf_size leaf ≡ leaf_size was → Started game old (set leaves i leaf) (i + 1)
  one_started was leaf player here is found root size = record {
    roots = λ k h. ap (λ b. b k) (box_set leaves i leaf here) ∙
        ⊎_elim (λ (e : i ≡ k). at_i k e) (λ (n : i ≢ k). at_other (leaf_of leaf) (box_of leaves k)
        i k n ∙ before.roots k (omega arith)) (cases_eq i k);
    sizes = sizes_kept leaves i was leaf here is size ∙ before.sizes;
  }
    where
      at_i : (k : ℕ) → i ≡ k → with_leaf (box_of leaves) i (leaf_of leaf) k ≡ root_box game k
      at_i k e =
          subst (λ n. with_leaf (box_of leaves) i (leaf_of leaf) n ≡ root_box game n) e
          (at_same (leaf_of leaf) (box_of leaves i) i ∙ root ∙
          sym (ap (λ o. option_map_or root_leaf o no_leaf) found))

  pub all_started : length leaves ≤ i → map leaf_size old ≡ map player_size game
      → box_of leaves ≡ root_box game
  all_started end fits =
      let n = leaf_count game leaves (before.sizes ∙ fits) in
      same_box (box_of leaves) (root_box game)
      (λ k. ⊎_elim (λ (h : k < length leaves). before.roots k (omega (arith, h, end)))
      (λ (h : length leaves ≤ k). ap (λ o. option_map_or leaf_of o no_leaf)
      (slice_get_past leaves k h) ∙ sym (ap (λ o. option_map_or root_leaf o no_leaf)
      (slice_get_past game k (omega (arith, h, n))))) (cases_lt k (length leaves)))
