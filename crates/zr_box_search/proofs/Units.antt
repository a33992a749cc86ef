-- The units of open trees, player by player.
use Rattle.std.proofs.Common.{◌≡◌, ℕ, zero, suc, ◌+◌, arith, refl, sym, ◌∙◌, subst, [], ◌∷◌, take, inr}
use Rattle.zr_io.specs.declared.purse.Purse.{Purse}
use Rattle.zr_game.specs.Players.{GameOf, PlayerOf}
use Rattle.zr_game.specs.Forms.{IsPlayer}
use Rattle.zr_asked.specs.OpenTrees.{Work, units}
use Rattle.zr_tree.specs.Trees.{Loose}
use Rattle.zr_bnb.specs.Causes.{HasMoreWork, SpendsWork}
use Rattle.zr_boxes.specs.Boxes.{BoxOf}
use Rattle.zr_box_search.specs.declared.answer.BoxStop.{BoxStop}
use Rattle.zr_box_search.specs.declared.answer.BoxStop.TheVariants as AStop
use Rattle.zr_box_search.specs.Fates.{HasMoreAtEnd, IsEndCause, IsReplyCause, SpendsEnd, SpendsEndUnits, SpendsTree, SpendsUnits}
use Rattle.zr_box_search.specs.OpenBoxes.{HasEndUnits, HaveUnits, IsSingle}

-- a tree without inner nodes
abbrev no_work : (player : PlayerOf) → Work player
no_work player = record { tree = Loose; open_is = tt }

no_units : (game : GameOf) → HaveUnits game 0
no_units [] = refl
no_units (player ∷ players) = (no_work player, 0, no_units players, refl)

-- the first players' trees, and no work for the others
pub units_all : (game : GameOf) (i n : ℕ) → HaveUnits (take i game) n → HaveUnits game n
units_all [] zero n h = h
units_all [] (suc i) n h = h
units_all (player ∷ players) zero n h =
    subst (HaveUnits (player ∷ players)) (sym h) (no_units (player ∷ players))
units_all (player ∷ players) (suc i) n h =
    (h.0, h.1, units_all players i h.1 h.2, h.3)

-- one player's more
pub units_step : (game : GameOf) (i n : ℕ) (player : PlayerOf) → IsPlayer game i player
    → HaveUnits (take i game) n → (work : Work player)
    → HaveUnits (take (suc i) game) (n + units work.tree)
units_step [] i n player is h work = absurd cc
units_step (own ∷ players) zero n player is h work =
    let e : player ≡ own = cc in
    subst (λ (p : PlayerOf). HaveUnits (p ∷ []) (n + units work.tree)) e
    (work, 0, refl, omega (arith, h))
units_step (own ∷ players) (suc i) n player is h work =
    let r = units_step players i h.1 player is h.2 work in
    let e = h.3 in
    (h.0, h.1 + units work.tree, r, omega (arith, e))

-- ---- what a purse spends on players, one after another

-- n branches so far, and then those of one player's tree
pub step_spends : (a b c : Purse) (n : ℕ) (player : PlayerOf) → SpendsUnits a b n
    → (t : SpendsTree player b c) → SpendsUnits a c (n + units t.0.tree)
step_spends a b c n player p t = record {
  limit = t.1.limit ∙ p.limit;
  cuts = t.1.cuts ∙ p.cuts;
  pivots = (let x = p.pivots in let y = t.1.pivots in omega (arith, x, y));
  branches = (let x = p.branches in let y = t.1.branches in omega (arith, x, y));
}

module _ (game : GameOf) (box : BoxOf) (single : IsSingle game box) where
  pub end_of_all : (i n : ℕ) → HaveUnits (take i game) n → HasEndUnits game box n
  end_of_all i n h = inr (single, units_all game i n h)

  module _ (i : ℕ) (player : PlayerOf) (is : IsPlayer game i player) (a b c : Purse) (n : ℕ)
      (before : HaveUnits (take i game) n) (p : SpendsUnits a b n) where
    pub end_with : (work : Work player) → HasEndUnits game box (n + units work.tree)
    end_with work =
        inr (
          single,
          units_all game (suc i) (n + units work.tree)
              (units_step game i n player is before work),
        )

    -- the units of a search that ended or stopped
    pub spends_end : SpendsWork player b c → SpendsEndUnits game box a c
    spends_end s = record {
      limit = s.limit ∙ p.limit;
      cuts = s.cuts ∙ p.cuts;
      pivots = (let x = p.pivots in let y = s.pivots in omega (arith, x, y));
      branches = (let x = p.branches in let y = s.branches in omega (arith, x, y));
      most = n + units s.work.tree;
      units_are = end_with s.work;
      at_most = (let x = p.branches in let y = s.units_are in omega (arith, x, y));
    }

    pub more_at_end : HasMoreWork player b → HasMoreAtEnd game box a
    more_at_end more =
        let l = p.limit in
        let k = p.cuts in
        let x = p.branches in
        let y = more.1 in
        (n + units more.0.tree, end_with more.0, omega (arith, l, k, x, y))

    pub reply_cause : (stop : BoxStop) → IsReplyCause game player b c stop
        → IsEndCause game box a c stop
    reply_cause AStop.Spent h = (h.0, more_at_end h.1)
    reply_cause (AStop.Wide asked) h = h
    reply_cause AStop.NoMemory h = tt

  -- the units at an end, as they were spent
  pub end_spends : (a b : Purse) → SpendsEnd game box a b → SpendsEndUnits game box a b
  end_spends a b h =
      let x = h.2.branches in
      record {
        limit = h.2.limit;
        cuts = h.2.cuts;
        pivots = h.2.pivots;
        branches = omega (arith, x);
        most = h.0;
        units_are = h.1;
        at_most = omega (arith, x);
      }
