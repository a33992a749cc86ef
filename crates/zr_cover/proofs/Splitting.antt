-- Splits of a leaf that has a point.
use Rattle.std.proofs.Common.{ℕ, ◌<◌, arith, ℤ, inl, inr, length}
use Rattle.std.proofs.lemmas.Int.{ints}
use Rattle.zr_base.specs.Points.{PointOf}
use Rattle.zr_base.proofs.Worth.{le_of_times}
use Rattle.zr_game.specs.Players.{PlayerOf}
use Rattle.zr_game.specs.Leaves.{IsWholeVar, LeafOf, MeetsLeaf}
use Rattle.zr_tree.proofs.LeafRows.{high_reads, low_reads}
use Rattle.zr_bnb.specs.Splits.{AreNear}
use Rattle.zr_bnb.proofs.Apart.{is_split}
use Rattle.zr_cover.specs.declared.split.Split.TheVariants.{Var}
use Rattle.zr_cover.specs.Splits.{AreUnequal, AreInOrder, IsWithinBounds, PartsLeaf, StaysNear}
use Rattle.zr_cover.proofs.Near.{near_if}

module _ (player : PlayerOf) (leaf : LeafOf) (v : ℕ) where
  -- the bounds of a leaf that has a point are in order
  pub in_order : (x : PointOf) → MeetsLeaf player leaf x → v < length player.vars
      → AreUnequal (leaf.low v) (leaf.high v) → AreInOrder (leaf.low v) (leaf.high v)
  in_order x meets below apart l h low high =
      let a = low_reads player x leaf meets v l below low in
      let b = high_reads player x leaf meets v h below high in
      let le = le_of_times l h x.den meets.point (omega (arith, ints, a, b)) in
      let n = apart l h low high in
      omega (arith, ints, le, n)

  -- a number between them splits it
  pub divides : (at : ℤ) → IsWholeVar player v → IsWithinBounds (leaf.low v) (leaf.high v) at
      → StaysNear (leaf.low v) (leaf.high v) at → (more : ℕ) → AreNear leaf more
      → PartsLeaf player leaf more (Var v at)
  divides at whole between stays more near = (
    is_split player leaf v at whole between.0 between.1,
    stays more (near_if more (leaf.low v) (λ b e. near v b (inl e)))
        (near_if more (leaf.high v) (λ b e. near v b (inr e))),
  )
