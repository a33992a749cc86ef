-- One loose leaf in place of a player's cover.
use Rattle.std.proofs.Common.{◌≡◌, ℕ, zero, suc, ◌<◌, arith, refl, sym, ap, subst, ◌∙◌, Some, Result, Ok, Err, IfErr, List, [], ◌∷◌, length, map, set, slice_get, ◌⊎◌, inl, inr, ⊎_elim}
use Rattle.std.specs.Global.{Vec}
use Rattle.std.proofs.lemmas.List.{length-set, map-set}
use Rattle.std.proofs.lemmas.Option.{slice_get_within}
use Rattle.zr_io.specs.declared.purse.Purse.{Purse}
use Rattle.zr_game.specs.Forms.{IsGame, IsPlayer}
use Rattle.zr_game.specs.Named.{NamedOf}
use Rattle.zr_game.specs.Players.{GameOf, PlayerOf}
use Rattle.zr_game.specs.Rays.{Direction, HasWholeRay}
use Rattle.zr_game.specs.declared.kind.Kind.{Kind}
use Rattle.zr_game.specs.declared.named.Named.{Named}
use Rattle.zr_tree.specs.declared.tree.Tree.{Tree}
use Rattle.zr_tree.specs.Nodes.{NodeOf, LooseNode}
use Rattle.zr_tree.specs.Trees.{TreeOf, Loose, preorder}
use Rattle.zr_asked.specs.declared.question.AskedLp.{AskedLp}
use Rattle.zr_branch.specs.Replies.{CountsPivotsAlone}
use Rattle.zr_best.specs.Works.{SpendsBestWork}
use Rattle.zr_cert.specs.Certs.{MixtureOf, named_list, nodes_of, profile_with}
use Rattle.zr_convex.proofs.Refuted.{has_none}
use Rattle.zr_costs.specs.Causes.{IsCostCause, IsOpenOwn, IsStuckOwn}
use Rattle.zr_costs.specs.declared.stop.CostStop.{CostStop}
use Rattle.zr_costs.specs.declared.stop.CostStop.TheVariants as ACost
use Rattle.zr_refute.specs.Covered.{covered}
use Rattle.zr_refute.proofs.CoveredLeaves.{are_covers}
use Rattle.zr_decide.specs.declared.stop.DecideStop.{DecideStop}
use Rattle.zr_decide.specs.declared.stop.DecideStop.TheVariants as AStop
use Rattle.zr_decide.specs.Decided.{AreDecidedCovers, IsDecidedCover}
use Rattle.zr_decide.specs.Equilibria.{IsDrawn, IsOpenByClaim, IsStuckClaim}
use Rattle.zr_decide.specs.Later.{IsBoundsStop, IsSizeStop, open_player, stop_with}
use Rattle.zr_decide.specs.NamedCovers.{AreNamedOver, IsFull}
use Rattle.zr_decide.specs.Naming.{IsNamingStop}
use Rattle.zr_decide.proofs.Refuting.{right_covers}

-- an item after a write
set_cases : {A : Type 0} (xs : List A) (i k : ℕ) (a x : A) → slice_get (set xs i a) k ≡ Some x
    → ((k ≡ i) × (a ≡ x)) ⊎ (slice_get xs k ≡ Some x)
set_cases [] i k a x e = inr e
set_cases (y ∷ ys) zero zero a x e = let s : a ≡ x = cc in inl (refl, s)
set_cases (y ∷ ys) zero (suc k) a x e = inr e
set_cases (y ∷ ys) (suc i) zero a x e = inr e
set_cases (y ∷ ys) (suc i) (suc k) a x e =
    ⊎_elim (λ (h : (k ≡ i) × (a ≡ x)). inl (ap suc h.0, h.1)) (λ (h : slice_get ys k ≡ Some x). inr h)
    (set_cases ys i k a x e)

-- the nodes of the trees
pub set_listed : (trees : List TreeOf) (covers : List Tree) (i : ℕ) (loose : Tree)
    → map preorder trees ≡ map nodes_of covers → nodes_of loose ≡ LooseNode ∷ []
    → map preorder (set trees i Loose) ≡ map nodes_of (set covers i loose)
set_listed trees covers i loose e l =
    map-set preorder trees i Loose
    ∙ ap (λ (xs : List (List NodeOf)). set xs i (LooseNode ∷ [])) e
    ∙ ap (λ (x : List NodeOf). set (map nodes_of covers) i x) (sym l)
    ∙ sym (map-set nodes_of covers i loose)

module _ (game : GameOf) (trees : List TreeOf) (d : AreDecidedCovers game trees) (i : ℕ)
    (player : PlayerOf) (is : IsPlayer game i player) (ray : HasWholeRay player) where
  pub decided_loose : AreDecidedCovers game (set trees i Loose)
  decided_loose = record {
    len = length-set trees i Loose ∙ d.len;
    each = λ k p t at e. ⊎_elim
        (λ (h : (k ≡ i) × (Loose ≡ t)). subst (λ (u : TreeOf). IsDecidedCover p u) h.1
        (inr (refl, subst HasWholeRay (same_player p (subst (λ n. IsPlayer game n p) h.0 at)) ray)))
        (λ (h : slice_get trees k ≡ Some t). d.each k p t at h)
        (set_cases trees i k Loose t e);
  }
    where
      same_player : (p : PlayerOf) → IsPlayer game i p → player ≡ p
      same_player p h = let e : Some player ≡ Some p = sym is ∙ h in cc

pub open_by_claim : (game : GameOf) → IsGame game → (kind : Kind) (mixtures : List MixtureOf)
    → (drawn : IsDrawn game kind mixtures) (i var : ℕ) (player : PlayerOf) → IsPlayer game i player
    → (dir : Direction) → IsOpenOwn i player (profile_with mixtures) var dir
    → (named : List (List NamedOf)) → AreNamedOver game (set drawn.trees i Loose) named
    → IsOpenByClaim game kind i var dir named
open_by_claim game sound kind mixtures drawn i var player is dir least named items = record {
  mixtures = mixtures;
  drawn = drawn;
  player = player;
  is_player = is;
  least_open = least;
  names = items;
  not_refuted = λ t r. has_none game sound (covered game (set drawn.trees i Loose) named)
      (are_covers game sound (set drawn.trees i Loose) named
      (right_covers (IsFull game (covered game (set drawn.trees i Loose) named)) game
      (set drawn.trees i Loose) named
      (decided_loose game drawn.trees drawn.covers.small.covers i player is (dir, var, least.changes))
      items))
      kind t r (profile_with mixtures) drawn.drawn.of_kind drawn.drawn.equilibrium;
}

-- naming counts pivots alone
pub naming_after : (game : GameOf) (old mid new : Purse) → SpendsBestWork game old mid
    → CountsPivotsAlone mid new → SpendsBestWork game old new
naming_after game old mid new s p = record {
  limit = p.limit ∙ s.limit;
  cuts = p.cuts ∙ s.cuts;
  pivots = (let a = s.pivots in let b = p.pivots in omega (arith, a, b));
  branches = (let a = s.branches in let b = p.branches in omega (arith, a, b));
  trees = s.trees;
  open_are = s.open_are;
  units_are = (let a = s.units_are in let b = p.branches in omega (arith, a, b));
}

-- why nothing is named is why there are no bounds
pub naming_stop : (game : GameOf) (kind : Kind) (old new : Purse) (stop : DecideStop)
    → IsNamingStop game stop → IsBoundsStop game kind old new stop
naming_stop game kind old new AStop.Spent h = absurd h
naming_stop game kind old new (AStop.Wide asked) h = inl h
naming_stop game kind old new (AStop.Step wide) h = absurd h
naming_stop game kind old new (AStop.Endless i var dir named) h = absurd h
naming_stop game kind old new (AStop.TooLarge cells) h = absurd h
naming_stop game kind old new AStop.NoMemory h = tt

-- and why the leaves can't be had
pub naming_size : (game : GameOf) (trees : List TreeOf) (stop : DecideStop)
    → IsNamingStop game stop → IsSizeStop game trees stop
naming_size game trees AStop.Spent h = absurd h
naming_size game trees (AStop.Wide asked) h = h
naming_size game trees (AStop.Step wide) h = absurd h
naming_size game trees (AStop.Endless i var dir named) h = absurd h
naming_size game trees (AStop.TooLarge cells) h = absurd h
naming_size game trees AStop.NoMemory h = tt

-- a stuck question of a player's cost
pub stuck_claim : (game : GameOf) (kind : Kind) (mixtures : List MixtureOf)
    → IsDrawn game kind mixtures → (asked : AskedLp)
    → (i : ℕ) × (player : PlayerOf) × IsPlayer game i player
    × IsStuckOwn i player (profile_with mixtures) asked → IsStuckClaim game kind asked
stuck_claim game kind mixtures drawn asked h = record {
  mixtures = mixtures;
  drawn = drawn;
  i = h.0;
  player = h.1;
  is_player = h.2;
  stuck = h.3;
}

-- the stop of the bounds, with what is named
pub bounds_cause : (game : GameOf) → IsGame game → (kind : Kind) (mixtures : List MixtureOf)
    → (drawn : IsDrawn game kind mixtures) (named : Vec (Vec Named)) (old mid new : Purse)
    → CountsPivotsAlone mid new → (stop : CostStop) → IsCostCause game mixtures old mid stop
    → ((i : ℕ) → open_player stop ≡ Some i
    → AreNamedOver game (set drawn.trees i Loose) (map named_list named.items))
    → IsBoundsStop game kind old new (stop_with named stop)
bounds_cause game sound kind mixtures drawn named old mid new p ACost.Spent h items =
    let a = h.0 in
    let l = p.limit in
    let b = p.branches in
    let k = p.cuts in
    (omega (arith, a, l, b, k), h.1)
bounds_cause game sound kind mixtures drawn named old mid new p (ACost.Wide asked) h items =
    inr (stuck_claim game kind mixtures drawn asked h)
bounds_cause game sound kind mixtures drawn named old mid new p (ACost.Step wide) h items =
    (mixtures, drawn, h)
bounds_cause game sound kind mixtures drawn named old mid new p (ACost.Endless i var dir) h items =
    open_by_claim game sound kind mixtures drawn i var h.0 h.1 dir.items h.2
    (map named_list named.items) (items i refl)
bounds_cause game sound kind mixtures drawn named old mid new p ACost.NoMemory h items = tt

pub open_below : (game : GameOf) (mixtures : List MixtureOf) (old new : Purse) (stop : CostStop)
    → IsCostCause game mixtures old new stop → (i : ℕ) → open_player stop ≡ Some i
    → i < length game
open_below game mixtures old new ACost.Spent h i e = absurd cc
open_below game mixtures old new (ACost.Wide asked) h i e = absurd cc
open_below game mixtures old new (ACost.Step wide) h i e = absurd cc
open_below game mixtures old new (ACost.Endless k var dir) h i e =
    let s : k ≡ i = cc in
    subst (λ n. n < length game) s (slice_get_within game k h.0 h.1)
open_below game mixtures old new ACost.NoMemory h i e = absurd cc

pub naming_stops : {A : Type 0} (game : GameOf) (kind : Kind) (old new : Purse)
    (r : Result A DecideStop) → IfErr r (IsNamingStop game) → IfErr r (IsBoundsStop game kind old new)
naming_stops game kind old new (Ok x) h = tt
naming_stops game kind old new (Err stop) h = naming_stop game kind old new stop h
