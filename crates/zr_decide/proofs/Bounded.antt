-- The work of deciding a game whose whole variables all have both bounds.
use Rattle.std.proofs.Common.{◌≡◌, ℕ, suc, ◌+◌, ◌<◌, arith, refl, sym, subst, Result, Ok, Err, IfErr, Some, List, [], ◌∷◌, length, slice_get, inl, inr}
use Rattle.zr_io.specs.declared.purse.Purse.{Purse}
use Rattle.zr_game.specs.Forms.{IsGame}
use Rattle.zr_game.specs.Leaves.{root_leaf}
use Rattle.zr_game.specs.Players.{GameOf, PlayerOf}
use Rattle.zr_game.specs.declared.kind.Kind.{Kind}
use Rattle.zr_tree.specs.Trees.{TreeOf}
use Rattle.zr_asked.specs.OpenTrees.{IsOpenTree}
use Rattle.zr_cases.specs.Trees.{Close}
use Rattle.zr_best.specs.Works.{AreOpenTrees, all_units}
use Rattle.zr_works.specs.Most.{AreAllBounded, most_work}
use Rattle.zr_works.proofs.Working.{all_work}
use Rattle.zr_decide.specs.declared.stop.DecideStop.{DecideStop}
use Rattle.zr_decide.specs.declared.stop.DecideStop.TheVariants as AStop
use Rattle.zr_decide.specs.Causes.{IsDecideCause}
use Rattle.zr_decide.specs.Decided.{AreDecidedCovers, IsDecidedCover}
use Rattle.zr_decide.specs.Works.{AreCaseUnits, HasMoreDecideWork, HasWork, IsBelowMostWork, SpendsDecideWork}

-- ---- decided covers are open trees

open_trees : (players : GameOf) (trees : List TreeOf) → length trees ≡ length players
    → ((i : ℕ) (player : PlayerOf) (t : TreeOf) → slice_get players i ≡ Some player
    → slice_get trees i ≡ Some t → IsOpenTree player (root_leaf player) t)
    → AreOpenTrees players trees
open_trees [] [] len each = tt
open_trees [] (t ∷ ts) len each = absurd (omega (arith, len))
open_trees (player ∷ players) [] len each = absurd (omega (arith, len))
open_trees (player ∷ players) (t ∷ ts) len each = (
  each 0 player t refl refl,
  open_trees players ts (omega (arith, len)) (λ i p u is at. each (suc i) p u is at),
)

decided_open : (player : PlayerOf) (t : TreeOf) → IsDecidedCover player t
    → IsOpenTree player (root_leaf player) t
decided_open player t (inl settled) = settled.0.open_is
decided_open player t (inr loose) =
    subst (λ (u : TreeOf). IsOpenTree player (root_leaf player) u) (sym loose.0) tt

all_open : (game : GameOf) (trees : List TreeOf) → AreDecidedCovers game trees
    → AreOpenTrees game trees
all_open game trees covers =
    open_trees game trees covers.len
    (λ i player t is at. decided_open player t (covers.each i player t is at))

-- ---- work

module _ (game : GameOf) (form : IsGame game) (bounded : AreAllBounded game) (kind : Kind) where
  few_cases : (n : ℕ) → AreCaseUnits game kind n → (covers bounds : List TreeOf)
      → AreOpenTrees game covers → AreOpenTrees game bounds
      → all_units covers + n + all_units bounds < most_work game
  few_cases n (inl none) covers bounds c b =
      let w = all_work game form bounded covers c [] kind (Close []) tt covers bounds c b in
      omega (arith, none, w)
  few_cases n (inr some) covers bounds c b =
      let o = all_open game some.0 some.2.small.covers in
      let w = all_work game form bounded some.0 o some.1 kind some.3.tree some.3.open_is covers
      bounds c b in
      let e = some.4 in
      omega (arith, e, w)

  few_units : (n : ℕ) → HasWork game kind n → n < most_work game
  few_units n h =
      let r = few_cases h.0.cases h.0.cases_are h.0.covers h.0.bounds h.0.covers_are h.0.bounds_are in
      let e = h.1 in
      omega (arith, e, r)

  pub small_spent : (old new : Purse) → SpendsDecideWork game kind old new
      → new.branches < old.branches + most_work game
  small_spent old new spends =
      let n = few_units spends.units spends.work in
      let u = spends.units_are in
      omega (arith, n, u)

  below_most : (purse : Purse) → HasMoreDecideWork game kind purse → IsBelowMostWork game purse
  below_most purse more =
      let n = few_units more.0 more.1 in
      let m = more.2 in
      λ is_bounded. omega (arith, n, m)

pub below_stop : {A : Type 0} (game : GameOf) → IsGame game → (kind : Kind) (old new : Purse)
    (result : Result A DecideStop) → IfErr result (IsDecideCause game kind old new)
    → IfErr result (λ stop. stop ≡ AStop.Spent → IsBelowMostWork game old)
below_stop game form kind old new (Ok x) cause = tt
below_stop game form kind old new (Err stop) cause = λ e bounded.
    below_most game form bounded kind old
    (subst (IsDecideCause game kind old new) e cause).1 bounded
