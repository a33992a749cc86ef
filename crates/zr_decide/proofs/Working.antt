-- Work that is done player by player.
use Rattle.std.proofs.Common.{◌≡◌, ℕ, ◌+◌, arith, refl, sym, ap, subst, ◌∙◌, List, [], ◌∷◌, ◌++◌, take, drop}
use Rattle.std.proofs.lemmas.List.{take-append-drop, take_more}
use Rattle.std.proofs.lemmas.Option.{get_or_from_slice_get, slice_get_within}
use Rattle.zr_io.specs.declared.purse.Purse.{Purse}
use Rattle.zr_game.specs.Forms.{IsPlayer}
use Rattle.zr_game.specs.Leaves.{root_leaf}
use Rattle.zr_game.specs.Players.{GameOf, PlayerOf}
use Rattle.zr_tree.specs.Trees.{Loose, TreeOf}
use Rattle.zr_asked.specs.OpenTrees.{IsOpenTree, units}
use Rattle.zr_bnb.specs.Causes.{HasMoreWork as HasMoreOwnWork, SpendsWork as SpendsOwnWork}
use Rattle.zr_best.specs.Works.{AreOpenTrees, HasMoreBestWork, SpendsBestWork, all_units}

-- ---- trees

open_append : (ps qs : GameOf) (ts us : List TreeOf) → AreOpenTrees ps ts → AreOpenTrees qs us
    → AreOpenTrees (ps ++ qs) (ts ++ us)
open_append [] qs [] us p q = q
open_append [] qs (t ∷ ts) us p q = absurd p
open_append (player ∷ ps) qs [] us p q = absurd p
open_append (player ∷ ps) qs (t ∷ ts) us p q = (p.0, open_append ps qs ts us p.1 q)

units_append : (ts us : List TreeOf) → all_units (ts ++ us) ≡ all_units ts + all_units us
units_append [] us = let e : all_units us ≡ 0 + all_units us = omega arith in e
units_append (t ∷ ts) us =
    let r = units_append ts us in
    let e : units t + all_units (ts ++ us) ≡ units t + all_units ts + all_units us = omega (arith, r) in
    e

-- a loose tree for each player
abbrev pub loose : GameOf → List TreeOf
loose [] = []
loose (player ∷ players) = Loose ∷ loose players

pub loose_open : (game : GameOf) → AreOpenTrees game (loose game)
loose_open [] = tt
loose_open (player ∷ players) = (tt, loose_open players)

pub loose_units : (game : GameOf) → all_units (loose game) ≡ 0
loose_units [] = refl
loose_units (player ∷ players) =
    let r = loose_units players in
    let e : 0 + all_units (loose players) ≡ 0 = omega (arith, r) in
    e

-- the trees of the first players, and loose ones for the others
record Filled (game : GameOf) (n : ℕ) : Type 0 where
  pub trees : List TreeOf
  pub open_are : AreOpenTrees game trees
  pub units_are : all_units trees ≡ n

filled : (game : GameOf) (i : ℕ) (ts : List TreeOf) → AreOpenTrees (take i game) ts → Filled game (all_units ts)
filled game i ts h = record {
  trees = ts ++ loose (drop i game);
  open_are = subst (λ (g : GameOf). AreOpenTrees g (ts ++ loose (drop i game))) (take-append-drop i game)
      (open_append (take i game) (drop i game) ts (loose (drop i game)) h (loose_open (drop i game)));
  units_are = (let e = units_append ts (loose (drop i game)) in let z = loose_units (drop i game) in omega (arith, e, z));
}

one_more : (game : GameOf) (i : ℕ) (player : PlayerOf) → IsPlayer game i player
    → take (i + 1) game ≡ take i game ++ player ∷ []
one_more game i player is =
    take_more game i player (slice_get_within game i player is)
    ∙ ap (λ (p : PlayerOf). take i game ++ p ∷ []) (get_or_from_slice_get game i player player is)

-- ---- work

pub no_work : (game : GameOf) (purse : Purse) → SpendsBestWork (take 0 game) purse purse
no_work game purse = record {
  limit = refl;
  cuts = refl;
  pivots = omega arith;
  branches = omega arith;
  trees = [];
  open_are = tt;
  units_are = omega arith;
}

module _ (game : GameOf) (i : ℕ) (player : PlayerOf) (is : IsPlayer game i player) (old mid : Purse)
    (before : SpendsBestWork (take i game) old mid) where
  with_tree : (t : TreeOf) → IsOpenTree player (root_leaf player) t
      → AreOpenTrees (take (i + 1) game) (before.trees ++ t ∷ [])
  with_tree t open_is =
      subst (λ (g : GameOf). AreOpenTrees g (before.trees ++ t ∷ [])) (sym (one_more game i player is))
      (open_append (take i game) (player ∷ []) before.trees (t ∷ []) before.open_are (open_is, tt))

  with_units : (t : TreeOf) → all_units (before.trees ++ t ∷ []) ≡ all_units before.trees + units t
  with_units t = let e = units_append before.trees (t ∷ []) in omega (arith, e)

  -- a player more
  pub more_work : (new : Purse) → SpendsOwnWork player mid new → SpendsBestWork (take (i + 1) game) old new
  more_work new own = record {
    limit = own.limit ∙ before.limit;
    cuts = own.cuts ∙ before.cuts;
    pivots = (let a = before.pivots in let b = own.pivots in omega (arith, a, b));
    branches = (let a = before.branches in let b = own.branches in omega (arith, a, b));
    trees = before.trees ++ own.work.tree ∷ [];
    open_are = with_tree own.work.tree own.work.open_is;
    units_are = (let a = before.units_are in let b = own.units_are in let e = with_units own.work.tree in omega (arith, a, b, e));
  }

  -- more work for this player is more for all
  pub more_left : HasMoreOwnWork player mid → HasMoreBestWork game old
  more_left own =
      let f = filled game (i + 1) (before.trees ++ own.0.tree ∷ []) (with_tree own.0.tree own.0.open_is) in
      let e = with_units own.0.tree in
      let u = f.units_are in
      let l = before.limit in
      let k = before.cuts in
      let a = before.units_are in
      let m = own.1 in
      (f.trees, f.open_are, omega (arith, e, u, l, k, a, m))

-- the work of the first players is some of all
pub all_work : (game : GameOf) (i : ℕ) (old new : Purse) → SpendsBestWork (take i game) old new → SpendsBestWork game old new
all_work game i old new h =
    let f = filled game i h.trees h.open_are in
    record {
      limit = h.limit;
      cuts = h.cuts;
      pivots = h.pivots;
      branches = h.branches;
      trees = f.trees;
      open_are = f.open_are;
      units_are = (let a = h.units_are in let u = f.units_are in omega (arith, a, u));
    }
