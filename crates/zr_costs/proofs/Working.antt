-- The players' bounds and their work, player by player.
use Rattle.std.proofs.Common.{◌≡◌, ℕ, zero, suc, ◌+◌, ◌-◌, ◌*◌, ◌<◌, ◌≤◌, arith, refl, sym, ap, subst, ◌∙◌, Some, List, [], ◌∷◌, ◌++◌, map, length, take, drop, slice_get, All, ⊎_elim}
use Rattle.std.proofs.lemmas.Bool.{cases_eq}
use Rattle.std.proofs.lemmas.List.{length-append, map-append, take-append-drop, take_more}
use Rattle.std.proofs.lemmas.List.Elements.{All-append, All-cons, All-nil}
use Rattle.std.proofs.lemmas.Option.{get_or_from_slice_get, slice_get_within}
use Rattle.zr_io.specs.declared.purse.Purse.{Purse}
use Rattle.zr_game.specs.Forms.{IsPlayer}
use Rattle.zr_game.specs.Leaves.{root_leaf}
use Rattle.zr_game.specs.Players.{GameOf, PlayerOf}
use Rattle.zr_game.specs.Profiles.{Profile}
use Rattle.zr_tree.specs.Trees.{Loose, TreeOf}
use Rattle.zr_asked.specs.OpenTrees.{IsOpenTree, units}
use Rattle.zr_bnb.specs.Causes.{HasMoreWork as HasMoreOwnWork, SpendsWork as SpendsOwnWork}
use Rattle.zr_cert.specs.declared.cert.Bound.{Bound}
use Rattle.zr_cert.specs.Certs.{BoundOf, bound_of}
use Rattle.zr_cert.specs.Forms.{IsBoundForm}
use Rattle.zr_check.specs.Right.{IsRightBound}
use Rattle.zr_best.specs.Works.{AreOpenTrees, HasMoreBestWork, SpendsBestWork, all_units}
use Rattle.zr_costs.specs.Costs.{AreRightBounds, HaveFewNodes, node_count}
use Rattle.zr_costs.specs.Drawn.{AreDrawnBounds, IsDrawnBound}
use Rattle.zr_costs.specs.Halts.{IsBoundMade}

-- ---- trees

open_append : (ps qs : GameOf) (ts us : List TreeOf) → AreOpenTrees ps ts → AreOpenTrees qs us
    → AreOpenTrees (ps ++ qs) (ts ++ us)
open_append [] qs [] us p q = q
open_append [] qs (t ∷ ts) us p q = absurd p
open_append (player ∷ ps) qs [] us p q = absurd p
open_append (player ∷ ps) qs (t ∷ ts) us p q = (p.0, open_append ps qs ts us p.1 q)

units_append : (ts us : List TreeOf) → all_units (ts ++ us) ≡ all_units ts + all_units us
units_append [] us = let e : all_units us ≡ 0 + all_units us = omega arith in e
units_append (t ∷ ts) us =
    let r = units_append ts us in
    let e : units t + all_units (ts ++ us) ≡ units t + all_units ts + all_units us =
    omega (arith, r) in
    e

-- a loose tree for each player
abbrev loose : GameOf → List TreeOf
loose [] = []
loose (player ∷ players) = Loose ∷ loose players

loose_open : (game : GameOf) → AreOpenTrees game (loose game)
loose_open [] = tt
loose_open (player ∷ players) = (tt, loose_open players)

loose_units : (game : GameOf) → all_units (loose game) ≡ 0
loose_units [] = refl
loose_units (player ∷ players) =
    let r = loose_units players in
    let e : 0 + all_units (loose players) ≡ 0 = omega (arith, r) in
    e

-- the trees of the first players, and loose ones for the others
record Filled (game : GameOf) (n : ℕ) : Type 0 where
  pub trees : List TreeOf
  pub open_are : AreOpenTrees game trees
  pub units_are : all_units trees ≡ n

filled : (game : GameOf) (i : ℕ) (ts : List TreeOf) → AreOpenTrees (take i game) ts
    → Filled game (all_units ts)
filled game i ts h = record {
  trees = ts ++ loose (drop i game);
  open_are = subst (λ (g : GameOf). AreOpenTrees g (ts ++ loose (drop i game)))
      (take-append-drop i game)
      (open_append (take i game) (drop i game) ts (loose (drop i game)) h
      (loose_open (drop i game)));
  units_are = (
      let e = units_append ts (loose (drop i game)) in
      let z = loose_units (drop i game) in
      omega (arith, e, z)
      );
}

one_more : (game : GameOf) (i : ℕ) (player : PlayerOf) → IsPlayer game i player
    → take (i + 1) game ≡ take i game ++ player ∷ []
one_more game i player is =
    take_more game i player (slice_get_within game i player is)
    ∙ ap (λ (p : PlayerOf). take i game ++ p ∷ []) (get_or_from_slice_get game i player player is)

-- ---- work

pub no_work : (game : GameOf) (purse : Purse) → SpendsBestWork (take 0 game) purse purse
no_work game purse = record {
  limit = refl;
  cuts = refl;
  pivots = omega arith;
  branches = omega arith;
  trees = [];
  open_are = tt;
  units_are = omega arith;
}

module _ (game : GameOf) (i : ℕ) (player : PlayerOf) (is : IsPlayer game i player) (old mid : Purse)
    (before : SpendsBestWork (take i game) old mid) where
  with_tree : (t : TreeOf) → IsOpenTree player (root_leaf player) t
      → AreOpenTrees (take (i + 1) game) (before.trees ++ t ∷ [])
  with_tree t open_is =
      subst (λ (g : GameOf). AreOpenTrees g (before.trees ++ t ∷ []))
      (sym (one_more game i player is))
      (open_append (take i game) (player ∷ []) before.trees (t ∷ []) before.open_are (open_is, tt))

  with_units : (t : TreeOf) → all_units (before.trees ++ t ∷ []) ≡ all_units before.trees + units t
  with_units t = let e = units_append before.trees (t ∷ []) in omega (arith, e)

  -- a player more
  pub more_work : (new : Purse) → SpendsOwnWork player mid new
      → SpendsBestWork (take (i + 1) game) old new
  more_work new own = record {
    limit = own.limit ∙ before.limit;
    cuts = own.cuts ∙ before.cuts;
    pivots = (let a = before.pivots in let b = own.pivots in omega (arith, a, b));
    branches = (let a = before.branches in let b = own.branches in omega (arith, a, b));
    trees = before.trees ++ own.work.tree ∷ [];
    open_are = with_tree own.work.tree own.work.open_is;
    units_are = (
        let a = before.units_are in
        let b = own.units_are in
        let e = with_units own.work.tree in
        omega (arith, a, b, e)
        );
  }

  -- more work for this player is more for all
  pub more_left : HasMoreOwnWork player mid → HasMoreBestWork game old
  more_left own =
      let f = filled game (i + 1) (before.trees ++ own.0.tree ∷ [])
      (with_tree own.0.tree own.0.open_is) in
      let e = with_units own.0.tree in
      let u = f.units_are in
      let l = before.limit in
      let k = before.cuts in
      let a = before.units_are in
      let m = own.1 in
      (f.trees, f.open_are, omega (arith, e, u, l, k, a, m))

-- the work of the first players is some of all
pub all_work : (game : GameOf) (i : ℕ) (old new : Purse) → SpendsBestWork (take i game) old new
    → SpendsBestWork game old new
all_work game i old new h =
    let f = filled game i h.trees h.open_are in
    record {
      limit = h.limit;
      cuts = h.cuts;
      pivots = h.pivots;
      branches = h.branches;
      trees = f.trees;
      open_are = f.open_are;
      units_are = (let a = h.units_are in let u = f.units_are in omega (arith, a, u));
    }

-- ---- bounds

-- the bound is right and drawn
abbrev pub IsGoodBound : PlayerOf → ℕ → Profile → BoundOf → Type 0
IsGoodBound player i profile bound =
    IsRightBound player i profile bound × IsDrawnBound player i profile bound

-- the bounds of the first players
pub record BoundsSoFar (game : GameOf) (profile : Profile) (i : ℕ) (bounds : List Bound)
    (old new : Purse) : Type 0 where
  pub len : length (map bound_of bounds) ≡ i
  pub forms : All IsBoundForm (map bound_of bounds)
  pub bounds_of : (k : ℕ) (player : PlayerOf) → k < i → IsPlayer game k player
      → (bound : BoundOf) × (slice_get (map bound_of bounds) k ≡ Some bound)
      × IsGoodBound player k profile bound
  pub few : node_count (map bound_of bounds) ≤ i + 2 * (new.branches - old.branches)
  pub work : SpendsBestWork (take i game) old new

pub no_bounds : (game : GameOf) (profile : Profile) (purse : Purse)
    → BoundsSoFar game profile 0 [] purse purse
no_bounds game profile purse = record {
  len = refl;
  forms = All-nil IsBoundForm;
  bounds_of = λ k player below is. absurd (omega (arith, below));
  few = omega arith;
  work = no_work game purse;
}

count_append : (xs ys : List BoundOf) → node_count (xs ++ ys) ≡ node_count xs + node_count ys
count_append [] ys = let e : node_count ys ≡ 0 + node_count ys = omega arith in e
count_append (x ∷ xs) ys =
    let r = count_append xs ys in
    let e : length x.tree + node_count (xs ++ ys) ≡ length x.tree + node_count xs + node_count ys =
    omega (arith, r) in
    e

at_end : (xs : List BoundOf) (x : BoundOf) → slice_get (xs ++ x ∷ []) (length xs) ≡ Some x
at_end [] x = refl
at_end (y ∷ ys) x = at_end ys x

before_end : (xs : List BoundOf) (x y : BoundOf) (k : ℕ) → slice_get xs k ≡ Some y
    → slice_get (xs ++ x ∷ []) k ≡ Some y
before_end [] x y k e = absurd cc
before_end (z ∷ zs) x y zero e = e
before_end (z ∷ zs) x y (suc k) e = before_end zs x y k e

module _ (game : GameOf) (profile : Profile) (i : ℕ) (player : PlayerOf)
    (is : IsPlayer game i player) (bounds : List Bound) (old mid new : Purse)
    (before : BoundsSoFar game profile i bounds old mid) (bound : Bound)
    (made : IsBoundMade player i profile mid new bound) (work : SpendsOwnWork player mid new) where
  abbrev listed : List BoundOf
  listed = map bound_of bounds

  joined : map bound_of (bounds ++ bound ∷ []) ≡ listed ++ bound_of bound ∷ []
  joined = map-append bound_of bounds (bound ∷ [])

  found : (k : ℕ) (other : PlayerOf) → k < i + 1 → IsPlayer game k other
      → (b : BoundOf) × (slice_get (listed ++ bound_of bound ∷ []) k ≡ Some b)
      × IsGoodBound other k profile b
  found k other below here =
      ⊎_elim (λ (e : k ≡ i). last e) (λ (n : k ≡ i → ⊥). first (omega (arith, n, below)))
      (cases_eq k i)
    where
      first : k < i → (b : BoundOf) × (slice_get (listed ++ bound_of bound ∷ []) k ≡ Some b)
          × IsGoodBound other k profile b
      first h =
          let b = before.bounds_of k other h here in
          (b.0, before_end listed (bound_of bound) b.0 k b.1, b.2)

      last : k ≡ i → (b : BoundOf) × (slice_get (listed ++ bound_of bound ∷ []) k ≡ Some b)
          × IsGoodBound other k profile b
      last e =
          let q = subst (λ n. IsPlayer game n other) e here in
          let same = sym (get_or_from_slice_get game i player player is)
          ∙ get_or_from_slice_get game i other player q in
          let at = subst (λ n. slice_get (listed ++ bound_of bound ∷ []) n ≡ Some (bound_of bound))
          before.len (at_end listed (bound_of bound)) in
          subst (λ n. (b : BoundOf) × (slice_get (listed ++ bound_of bound ∷ []) n ≡ Some b)
          × IsGoodBound other n profile b) (sym e) (
            bound_of bound,
            at,
            subst (λ (p : PlayerOf). IsGoodBound p i profile (bound_of bound)) same
                (made.right, made.drawn),
          )

  -- a bound more
  pub more_bounds : BoundsSoFar game profile (i + 1) (bounds ++ bound ∷ []) old new
  more_bounds = record {
    len = (
        let e = ap length joined in
        let a = length-append listed (bound_of bound ∷ []) in
        let l = before.len in
        omega (arith, e, a, l)
        );
    forms = subst (All IsBoundForm) (sym joined)
        (All-append IsBoundForm listed (bound_of bound ∷ []) before.forms
        (All-cons IsBoundForm (bound_of bound) [] made.form (All-nil IsBoundForm)));
    bounds_of = λ k other below here.
        subst (λ (xs : List BoundOf). (b : BoundOf) × (slice_get xs k ≡ Some b)
        × IsGoodBound other k profile b) (sym joined) (found k other below here);
    few = (
        let e = ap node_count joined in
        let a = count_append listed (bound_of bound ∷ []) in
        let f = before.few in
        let g = made.few in
        let m = before.work.branches in
        let n = work.branches in
        omega (arith, e, a, f, g, m, n)
        );
    work = more_work game i player is old mid before.work new work;
  }

-- the bounds of all players
pub all_bounds : (game : GameOf) (profile : Profile) (i : ℕ) (bounds : List Bound) (old new : Purse)
    → i ≡ length game → BoundsSoFar game profile i bounds old new
    → AreRightBounds game profile (map bound_of bounds)
all_bounds game profile i bounds old new e h = record {
  len = h.len ∙ e;
  forms = h.forms;
  bounds_of = λ k player is.
      let b = h.bounds_of k player (subst (λ n. k < n) (sym e) (slice_get_within game k player is))
      is in
      (b.0, b.1, b.2.0);
}

pub drawn_bounds : (game : GameOf) (profile : Profile) (i : ℕ) (bounds : List Bound)
    (old new : Purse) → i ≡ length game → BoundsSoFar game profile i bounds old new
    → AreDrawnBounds game profile (map bound_of bounds)
drawn_bounds game profile i bounds old new e h k player is =
    let b = h.bounds_of k player (subst (λ n. k < n) (sym e) (slice_get_within game k player is))
    is in
    (b.0, b.1, b.2.1)

pub few_nodes : (game : GameOf) (profile : Profile) (i : ℕ) (bounds : List Bound) (old new : Purse)
    → i ≡ length game → BoundsSoFar game profile i bounds old new
    → HaveFewNodes game old new (map bound_of bounds)
few_nodes game profile i bounds old new e h =
    subst (λ n. node_count (map bound_of bounds) ≤ n + 2 * (new.branches - old.branches)) e h.few
