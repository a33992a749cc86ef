use Rattle.std.proofs.Common.{rules, ◌≡◌, ◌∙◌, arith, sym, ℕ, None, FitsSigned}
use Rattle.std.specs.Int.{w64}
use Rattle.std.proofs.lemmas.Int.{to_z-of_z}
use Rattle.zr_base.proofs.SumSteps.{get_or_default}
use Rattle.zr_game.specs.Players.{PlayerOf, player_of}
use Rattle.zr_game.specs.Leaves.{LeafOf, leaf_of}
use Rattle.zr_cover.specs.Splits.{IsUnfixed}
use Rattle.zr_cover.proofs.Splitting.{divides, in_order}
use Rattle.zr_cover.proofs.visit.at_point.Goals as goal
use Rattle.zr_cover.proofs.visit.at_point.Goals.{After-index-high}

module _ (c : After-index-high) where
  abbrev player : PlayerOf
  player = player_of c.args.player.now

  abbrev leaf : LeafOf
  leaf = leaf_of c.args.leaf.now

  abbrev v : ℕ
  v = c.in-Some-next_variable.v

  unfixed : IsUnfixed player.vars c.args.leaf.now.low.items c.args.leaf.now.high.items v
  unfixed =
      rw (c.deref-2.ensures.value, c.deref-3.ensures.value, c.deref-4.ensures.value) at
      c.in-Some-next_variable.ensures

  low_is : c.index-low.result.now ≡ leaf.low v
  low_is =
      let h = unfixed.0 in
      c.index-low.ensures ∙
      get_or_default c.args.leaf.now.low.items v c.index-low.result.now None
      (omega (arith, h, c.requires.lengths.lows))

  high_is : c.index-high.result.now ≡ leaf.high v
  high_is =
      let h = unfixed.0 in
      c.index-high.ensures ∙
      get_or_default c.args.leaf.now.high.items v c.index-high.result.now None
      (omega (arith, h, c.requires.lengths.highs))

pub split_number-requires-clause-order : goal.split_number-requires-clause-order
split_number-requires-clause-order c l h low high =
    let at = (goal.at.split_number-requires-clause-order c).After-index-high in
    in_order (player_of c.args.player.now) (leaf_of c.args.leaf.now) c.in-Some-next_variable.v
    c.args.point c.requires.meets (unfixed at).0 (unfixed at).2 l h (sym (low_is at) ∙ low)
    (sym (high_is at) ∙ high)

pub returns-clause-fate : goal.returns-clause-fate
returns-clause-fate c more near =
    let at = (goal.at.returns-clause-fate c).After-index-high in
    let r : FitsSigned w64 c.in-Ok.at = search rules in
    simp to_z-of_z (
      (c.args.point, c.requires.meets),
      divides (player_of c.args.player.now) (leaf_of c.args.leaf.now) c.in-Some-next_variable.v
          c.in-Ok.at (unfixed at).1 (rw (low_is at, high_is at) at c.in-Ok.ensures.between)
          (rw (low_is at, high_is at) at c.in-Ok.ensures.near) more near,
    )
