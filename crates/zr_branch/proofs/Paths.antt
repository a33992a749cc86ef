-- Paths, move by move.
use Rattle.std.proofs.Common.{◌≡◌, ℕ, zero, suc, ◌<◌, arith, refl, List, [], ◌∷◌, ◌++◌, length, take, get_or}
use Rattle.zr_game.specs.Players.{PlayerOf}
use Rattle.zr_game.specs.Leaves.{HasPoint, LeafOf}
use Rattle.zr_asked.specs.declared.question.Move.{Move}
use Rattle.zr_asked.specs.Paths.{AreOpenMoves, IsMove, child_by, leaf_after}

pub after_more : (leaf : LeafOf) (ms : List Move) (m : Move)
    → leaf_after leaf (ms ++ m ∷ []) ≡ child_by (leaf_after leaf ms) m
after_more leaf [] m = refl
after_more leaf (first ∷ ms) m = after_more (child_by leaf first) ms m

module _ (player : PlayerOf) where
  pub move_at : (leaf : LeafOf) (path : List Move) (i : ℕ) (d : Move) → i < length path
      → AreOpenMoves player leaf path
      → IsMove player (leaf_after leaf (take i path)) (get_or path i d)
  move_at leaf [] i d h all = absurd (omega (arith, h))
  move_at leaf (m ∷ ms) zero d h all = all.1
  move_at leaf (m ∷ ms) (suc i) d h all =
      move_at (child_by leaf m) ms i d (omega (arith, h)) all.2

  pub moves_more : (leaf : LeafOf) (ms : List Move) (m : Move) → AreOpenMoves player leaf ms
      → HasPoint player (leaf_after leaf ms) → IsMove player (leaf_after leaf ms) m
      → AreOpenMoves player leaf (ms ++ m ∷ [])
  moves_more leaf [] m all some one = (some, one, tt)
  moves_more leaf (first ∷ ms) m all some one =
      (all.0, all.1, moves_more (child_by leaf first) ms m all.2 some one)
