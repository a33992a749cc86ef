-- What a search spends from box to box.
use Rattle.std.proofs.Common.{◌≡◌, ℕ, ◌+◌, ◌-◌, ◌≤◌, arith, refl, ◌∙◌, inl, List, [], ◌∷◌}
use Rattle.zr_io.specs.declared.purse.Purse.{Purse}
use Rattle.zr_io.specs.declared.purse.Unit.TheVariants as AUnit
use Rattle.zr_io.specs.Purses.{Spends, counted}
use Rattle.zr_game.specs.Players.{GameOf}
use Rattle.zr_cases.specs.Cases.{BNodeOf}
use Rattle.zr_cases.specs.Trees.{Empty}
use Rattle.zr_box_search.specs.declared.answer.BoxStop.{BoxStop}
use Rattle.zr_box_search.specs.declared.answer.BoxStop.TheVariants as AStop
use Rattle.zr_box_search.specs.Causes.{HasMoreBoxWork, IsBoxCause, SpendsBoxWork}
use Rattle.zr_box_search.specs.Dues.{Paths, box_by}
use Rattle.zr_box_search.specs.Fates.{IsEndCause, SpendsEndUnits, SpendsUnits}
use Rattle.zr_box_search.proofs.Growing.{IsGrowing, work_of, work_with}

pub spent_nothing : (a : Purse) → SpendsUnits a a 0
spent_nothing a = record {
  limit = refl;
  cuts = refl;
  pivots = omega arith;
  branches = omega arith;
}

pub spent_on : (a b c : Purse) (m n : ℕ) → SpendsUnits a b m → SpendsUnits b c n
    → SpendsUnits a c (m + n)
spent_on a b c m n p q = record {
  limit = q.limit ∙ p.limit;
  cuts = q.cuts ∙ p.cuts;
  pivots = (let x = p.pivots in let y = q.pivots in omega (arith, x, y));
  branches = (let x = p.branches in let y = q.branches in omega (arith, x, y));
}

pub spent_branch : (a b : Purse) → Spends a b AUnit.Branch → SpendsUnits a b 1
spent_branch a b p = record {
  limit = p.3;
  cuts = p.2;
  pivots = (let x = p.0 in omega (arith, x));
  branches = p.1;
}

-- a number of branches is known by the purses
pub spent_is : (a b : Purse) (n : ℕ) → SpendsUnits a b n → b.branches - a.branches ≡ n
spent_is a b n p = let x = p.branches in omega (arith, x)

pub few_spent : (a b : Purse) (n : ℕ) → a.limit ≤ 1000000000 → SpendsUnits a b n
    → b.branches + b.cuts ≤ b.limit → n ≤ 1000000000
few_spent a b n limit p within =
    let x = p.branches in let l = p.limit in omega (arith, limit, x, l, within)

module _ (game : GameOf) (nodes : List BNodeOf) (boxes : List Paths) (spent : ℕ)
    (g : IsGrowing game nodes boxes spent) (old new : Purse) (p : SpendsUnits old new spent) where
  pub spends_so_far : SpendsBoxWork game old new
  spends_so_far =
      let w = work_of game nodes boxes spent g in
      let e = w.1 in
      let x = p.branches in
      record {
        limit = p.limit;
        cuts = p.cuts;
        pivots = p.pivots;
        branches = omega (arith, x);
        work = w.0;
        units_are = omega (arith, x, e);
      }

module _ (game : GameOf) (nodes : List BNodeOf) (paths : Paths) (boxes : List Paths) (spent : ℕ)
    (g : IsGrowing game nodes (paths ∷ boxes) spent) (old mid new : Purse)
    (p : SpendsUnits old mid spent) where
  pub spends_with : SpendsEndUnits game (box_by game paths) mid new → SpendsBoxWork game old new
  spends_with s =
      let w = work_with game nodes paths boxes spent s.most g s.units_are in
      let e = w.1 in
      let x = p.branches in
      let y = s.branches in
      let z = s.at_most in
      record {
        limit = s.limit ∙ p.limit;
        cuts = s.cuts ∙ p.cuts;
        pivots = (let m = p.pivots in let n = s.pivots in omega (arith, m, n));
        branches = omega (arith, x, y);
        work = w.0;
        units_are = omega (arith, x, z, e);
      }

  pub cause_with : (stop : BoxStop) → IsEndCause game (box_by game paths) mid new stop
      → IsBoxCause game old new stop
  cause_with AStop.Spent h =
      let w = work_with game nodes paths boxes spent h.1.0 g h.1.1 in
      let e = w.1 in
      let x = p.branches in
      let l = p.limit in
      let k = p.cuts in
      let m = h.1.2 in
      (h.0, (w.0, omega (arith, x, l, k, m, e)))
  cause_with (AStop.Wide asked) h = h
  cause_with AStop.NoMemory h = tt

-- the purse is full and a split is due
pub full_more : (game : GameOf) (nodes : List BNodeOf) (boxes : List Paths) (spent : ℕ)
    → IsGrowing game nodes boxes (spent + 1) → (old new : Purse) → SpendsUnits old new spent
    → counted new ≡ new.limit → HasMoreBoxWork game old
full_more game nodes boxes spent g old new p full =
    let w = work_of game nodes boxes (spent + 1) g in
    let e = w.1 in
    let x = p.branches in
    let l = p.limit in
    let k = p.cuts in
    (w.0, omega (arith, x, l, k, full, e))

-- nothing was done
pub spends_nothing : (game : GameOf) (a : Purse) → SpendsBoxWork game a a
spends_nothing game a = record {
  limit = refl;
  cuts = refl;
  pivots = omega arith;
  branches = omega arith;
  work = record { tree = Empty 0 []; open_is = tt; units_of = 0; units_are = inl refl };
  units_are = omega arith;
}
