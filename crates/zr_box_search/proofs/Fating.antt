-- What becomes of a box, after pivots that are counted alone.
use Rattle.std.proofs.Common.{ℕ, arith, refl, sym, ◌∙◌, subst, inl}
use Rattle.zr_io.specs.declared.purse.Purse.{Purse}
use Rattle.zr_game.specs.Players.{GameOf, PlayerOf}
use Rattle.zr_game.specs.Forms.{IsPlayer}
use Rattle.zr_game.specs.Leaves.{root_leaf}
use Rattle.zr_tree.proofs.SettledLeaves.{KeepsRoot, root_keeps}
use Rattle.zr_asked.proofs.PresentRows.{path_keeps}
use Rattle.zr_branch.specs.Replies.{CountsPivotsAlone}
use Rattle.zr_boxes.specs.Boxes.{BoxOf}
use Rattle.zr_box_search.specs.declared.answer.BoxStop.{BoxStop}
use Rattle.zr_box_search.specs.declared.answer.BoxStop.TheVariants as AStop
use Rattle.zr_box_search.specs.declared.visit.BoxFate.{BoxFate}
use Rattle.zr_box_search.specs.declared.visit.BoxFate.TheVariants as AFate
use Rattle.zr_box_search.specs.Dues.{Paths, box_by, path_at}
use Rattle.zr_box_search.specs.Fates.{IsBoxFate, IsEndCause, SpendsEnd, SpendsEndUnits, SpendsUnits}
use Rattle.zr_box_search.proofs.Growing.{box_at}

pub pivots_units : (a b : Purse) → CountsPivotsAlone a b → SpendsUnits a b 0
pivots_units a b p = record {
  limit = p.limit;
  cuts = p.cuts;
  pivots = p.pivots;
  branches = (let x = p.branches in omega (arith, x));
}

pub pivots_on : (a b c : Purse) → CountsPivotsAlone a b → CountsPivotsAlone b c
    → CountsPivotsAlone a c
pivots_on a b c p q = record {
  limit = q.limit ∙ p.limit;
  branches = q.branches ∙ p.branches;
  cuts = q.cuts ∙ p.cuts;
  pivots = (let x = p.pivots in let y = q.pivots in omega (arith, x, y));
}

-- the parts of a box to which paths lead keep the variables' bounds
pub paths_keep : (game : GameOf) (paths : Paths) (k : ℕ) (player : PlayerOf)
    → IsPlayer game k player → KeepsRoot player (box_by game paths k)
paths_keep game paths k player is =
    subst (KeepsRoot player) (sym (box_at game paths k player is))
    (path_keeps player (root_leaf player) (path_at paths k) (root_keeps player))

module _ (game : GameOf) (box : BoxOf) where
  pub pivots_end : (a b : Purse) → CountsPivotsAlone a b → SpendsEnd game box a b
  pivots_end a b p = (0, inl refl, pivots_units a b p)

  pub pivots_end_units : (a b : Purse) → CountsPivotsAlone a b → SpendsEndUnits game box a b
  pivots_end_units a b p = record {
    limit = p.limit;
    cuts = p.cuts;
    pivots = p.pivots;
    branches = (let x = p.branches in omega (arith, x));
    most = 0;
    units_are = inl refl;
    at_most = (let x = p.branches in omega (arith, x));
  }

  module _ (a b c : Purse) (p : CountsPivotsAlone a b) where
    units_after : (n : ℕ) → SpendsUnits b c n → SpendsUnits a c n
    units_after n q = record {
      limit = q.limit ∙ p.limit;
      cuts = q.cuts ∙ p.cuts;
      pivots = (let x = p.pivots in let y = q.pivots in omega (arith, x, y));
      branches = (let x = p.branches in let y = q.branches in omega (arith, x, y));
    }

    pub fate_after : (fate : BoxFate) → IsBoxFate game box b c fate → IsBoxFate game box a c fate
    fate_after (AFate.Closed node) h = (h.0, h.1, (h.2.0, h.2.1, units_after h.2.0 h.2.2))
    fate_after (AFate.Divided split) h = (h.0, h.1, units_after 0 h.2)
    fate_after AFate.Stable h = h

    pub cause_after : (stop : BoxStop) → IsEndCause game box b c stop
        → IsEndCause game box a c stop
    cause_after AStop.Spent h =
        let l = p.limit in
        let k = p.cuts in
        let x = p.branches in
        let m = h.1.2 in
        (h.0, (h.1.0, h.1.1, omega (arith, l, k, x, m)))
    cause_after (AStop.Wide asked) h = h
    cause_after AStop.NoMemory h = tt

    pub spends_after : SpendsEndUnits game box b c → SpendsEndUnits game box a c
    spends_after s =
        let x = p.branches in
        let y = s.branches in
        let z = s.at_most in
        record {
          limit = s.limit ∙ p.limit;
          cuts = s.cuts ∙ p.cuts;
          pivots = (let m = p.pivots in let n = s.pivots in omega (arith, m, n));
          branches = omega (arith, x, y);
          most = s.most;
          units_are = s.units_are;
          at_most = omega (arith, x, z);
        }
