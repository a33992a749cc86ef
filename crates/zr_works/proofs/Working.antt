-- The work of deciding a game whose whole variables all have both bounds.
use Rattle.std.proofs.Common.{ℕ, ◌+◌, ◌^◌, ◌<◌, ◌≤◌, arith, List, [], length}
use Rattle.std.proofs.Math.Nat.{pow-le-pow_right}
use Rattle.zr_io.specs.Purses.{counted}
use Rattle.zr_io.specs.declared.purse.Purse.{Purse}
use Rattle.zr_game.specs.Forms.{IsGame}
use Rattle.zr_game.specs.Named.{NamedOf}
use Rattle.zr_game.specs.Players.{GameOf}
use Rattle.zr_game.specs.declared.kind.Kind.{Kind}
use Rattle.zr_tree.specs.Trees.{TreeOf}
use Rattle.zr_cases.specs.Trees.{CasesOf}
use Rattle.zr_refute.specs.Covered.{covered}
use Rattle.zr_comp.specs.OpenCases.{IsOpenCases, case_units}
use Rattle.zr_comp.specs.Sizes.{all_nodes}
use Rattle.zr_comp.proofs.Units.{few_units as few_cases}
use Rattle.zr_best.specs.Works.{AreOpenTrees, HasMoreBestWork, SpendsBestWork, all_units}
use Rattle.zr_works.specs.Most.{AreAllBounded, all_choices, all_places, most_work}
use Rattle.zr_works.proofs.Leaves.{all_few, few_units}
use Rattle.zr_works.proofs.Places.{all_most}

power_more : (n : ℕ) → 2 ^ n ≤ 2 ^ (1 + n)
power_more n = pow-le-pow_right (omega arith) (omega arith)

module _ (game : GameOf) (form : IsGame game) (bounded : AreAllBounded game) where
  pub few_inner : (trees : List TreeOf) → AreOpenTrees game trees
      → all_units trees + length game ≤ all_choices game
  few_inner trees o = all_few game trees (few_units game form bounded) o

  pub best_left : (purse : Purse) → HasMoreBestWork game purse
      → purse.limit < counted purse + all_choices game
  best_left purse more =
      let n = few_inner more.0 more.1 in
      let m = more.2 in
      omega (arith, n, m)

  pub best_spent : (old new : Purse) → SpendsBestWork game old new
      → new.branches < old.branches + all_choices game
  best_spent old new spends =
      let n = few_inner spends.trees spends.open_are in
      let u = spends.units_are in
      let s = form.some_player in
      omega (arith, n, u, s)

  module _ (trees : List TreeOf) (opens : AreOpenTrees game trees)
      (named : List (List NamedOf)) (kind : Kind) (t : CasesOf)
      (cases : IsOpenCases game (covered game trees named) kind [] t) where
    pub bounded_cases : case_units (covered game trees named) t + 1 ≤ 2 ^ all_places game
    bounded_cases =
        let u = few_cases game (covered game trees named) kind t cases in
        let n = all_most game trees named (few_units game form bounded) opens in
        let p : 2 ^ length (all_nodes game (covered game trees named)) ≤ 2 ^ all_places game =
        pow-le-pow_right (omega arith) n in
        omega (arith, u, p)

    pub all_work : (covers bounds : List TreeOf) → AreOpenTrees game covers
        → AreOpenTrees game bounds
        → all_units covers + case_units (covered game trees named) t + all_units bounds
        < most_work game
    all_work covers bounds c b =
        let m = few_inner covers c in
        let n = few_inner bounds b in
        let u = bounded_cases in
        let p = power_more (all_places game) in
        omega (arith, m, n, u, p)
