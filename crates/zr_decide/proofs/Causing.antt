-- What a stop says of the game, and the work up to it.
use Rattle.std.proofs.Common.{ℕ, ◌+◌, arith, refl, ◌∙◌, Result, Ok, Err, IfErr, List, take, inl, inr, ⊎_elim}
use Rattle.zr_io.specs.declared.purse.Purse.{Purse}
use Rattle.zr_game.specs.Forms.{IsPlayer}
use Rattle.zr_game.specs.Named.{NamedOf}
use Rattle.zr_game.specs.Players.{GameOf, PlayerOf}
use Rattle.zr_game.specs.declared.kind.Kind.{Kind}
use Rattle.zr_tree.specs.Trees.{TreeOf}
use Rattle.zr_best.specs.Works.{HasMoreBestWork, SpendsBestWork, all_units}
use Rattle.zr_branch.specs.Replies.{CountsPivotsAlone}
use Rattle.zr_comp.specs.Causes.{SpendsCases}
use Rattle.zr_comp.specs.OpenCases.{case_units}
use Rattle.zr_refute.specs.Covered.{covered}
use Rattle.zr_system.specs.Regions.{LeavesOf}
use Rattle.zr_decide.specs.declared.stop.DecideStop.{DecideStop}
use Rattle.zr_decide.specs.declared.stop.DecideStop.TheVariants as AStop
use Rattle.zr_decide.specs.Causes.{IsDecideCause}
use Rattle.zr_decide.specs.Coverings.{IsCoverStop}
use Rattle.zr_decide.specs.Decided.{AreDecidedCovers}
use Rattle.zr_decide.specs.NamedCovers.{AreNamedCovers}
use Rattle.zr_decide.specs.Later.{IsBoundsStop, IsLaterCause, IsSearchStop, IsSizeStop, LaterWork, SpendsLaterWork}
use Rattle.zr_decide.specs.Works.{AreCaseUnits, DecideWork, HasMoreDecideWork, SpendsDecideWork}
use Rattle.zr_decide.proofs.Working.{all_work, loose, loose_open, loose_units, more_left, no_work}

-- ---- covers

module _ (game : GameOf) (kind : Kind) where
  by_covers : (old : Purse) → HasMoreBestWork game old → HasMoreDecideWork game kind old
  by_covers old h =
      let z = loose_units game in
      let m = h.2 in
      let work : DecideWork game kind = record {
        covers = h.0;
        covers_are = h.1;
        cases = 0;
        cases_are = inl refl;
        bounds = loose game;
        bounds_are = loose_open game;
      } in
      (all_units h.0 + 0 + all_units (loose game), (work, refl), omega (arith, z, m))

  pub cover_cause : (i : ℕ) (player : PlayerOf) (is : IsPlayer game i player) (old mid new : Purse)
      (before : SpendsBestWork (take i game) old mid) (stop : DecideStop)
      → IsCoverStop i player mid new stop → IsDecideCause game kind old new stop
  cover_cause i player is old mid new before AStop.Spent h =
      (h.0, by_covers old (more_left game i player is old mid before h.1))
  cover_cause i player is old mid new before (AStop.Wide asked) h = inl (i, player, is, h)
  cover_cause i player is old mid new before (AStop.Step wide) h = absurd h
  cover_cause i player is old mid new before (AStop.Endless k var dir named) h = absurd h
  cover_cause i player is old mid new before (AStop.TooLarge cells) h = absurd h
  cover_cause i player is old mid new before AStop.NoMemory h = tt

  -- what covers spend
  pub covers_spend : (old new : Purse) → SpendsBestWork game old new
      → SpendsDecideWork game kind old new
  covers_spend old new h = record {
    limit = h.limit;
    cuts = h.cuts;
    pivots = h.pivots;
    branches = h.branches;
    units = all_units h.trees + 0 + all_units (loose game);
    work = (
      record {
        covers = h.trees;
        covers_are = h.open_are;
        cases = 0;
        cases_are = inl refl;
        bounds = loose game;
        bounds_are = loose_open game;
      },
      refl,
    );
    units_are = (let u = h.units_are in let z = loose_units game in omega (arith, u, z));
  }

  pub nothing_decided : (purse : Purse) → SpendsDecideWork game kind purse purse
  nothing_decided purse = covers_spend purse purse (all_work game 0 purse purse (no_work game purse))

  -- and with them what comes later
  pub all_spend : (old mid new : Purse) → SpendsBestWork game old mid
      → SpendsLaterWork game kind mid new → SpendsDecideWork game kind old new
  all_spend old mid new a b = record {
    limit = b.limit ∙ a.limit;
    cuts = b.cuts ∙ a.cuts;
    pivots = (let p = a.pivots in let q = b.pivots in omega (arith, p, q));
    branches = (let p = a.branches in let q = b.branches in omega (arith, p, q));
    units = all_units a.trees + b.work.cases + all_units b.work.bounds;
    work = (
      record {
        covers = a.trees;
        covers_are = a.open_are;
        cases = b.work.cases;
        cases_are = b.work.cases_are;
        bounds = b.work.bounds;
        bounds_are = b.work.bounds_are;
      },
      refl,
    );
    units_are = (let p = a.units_are in let q = b.units_are in omega (arith, p, q));
  }

  pub later_cause : (old mid new : Purse) → SpendsBestWork game old mid → (stop : DecideStop)
      → IsLaterCause game kind mid new stop → IsDecideCause game kind old new stop
  later_cause old mid new a AStop.Spent h =
      let w = h.1.0 in
      let m = h.1.1 in
      let l = a.limit in
      let c = a.cuts in
      let u = a.units_are in
      let work : DecideWork game kind = record {
        covers = a.trees;
        covers_are = a.open_are;
        cases = w.cases;
        cases_are = w.cases_are;
        bounds = w.bounds;
        bounds_are = w.bounds_are;
      } in (
        h.0,
        (
          all_units a.trees + w.cases + all_units w.bounds,
          (work, refl),
          omega (arith, m, l, c, u),
        ),
      )
  later_cause old mid new a (AStop.Wide asked) h = h
  later_cause old mid new a (AStop.Step wide) h = h
  later_cause old mid new a (AStop.Endless k var dir named) h = h
  later_cause old mid new a (AStop.TooLarge cells) h = h
  later_cause old mid new a AStop.NoMemory h = tt

  pub all_causes : {A : Type 0} → (old mid new : Purse) → SpendsBestWork game old mid
      → (r : Result A DecideStop) → IfErr r (IsLaterCause game kind mid new)
      → IfErr r (IsDecideCause game kind old new)
  all_causes old mid new a (Ok x) h = tt
  all_causes old mid new a (Err stop) h = later_cause old mid new a stop h

  -- ---- choices

  abbrev no_bounds : (n : ℕ) → AreCaseUnits game kind n → LaterWork game kind
  no_bounds n are = record {
    cases = n;
    cases_are = are;
    bounds = loose game;
    bounds_are = loose_open game;
  }

  pub nothing_spent : (purse : Purse) → SpendsLaterWork game kind purse purse
  nothing_spent purse = record {
    limit = refl;
    cuts = refl;
    pivots = omega arith;
    branches = omega arith;
    work = no_bounds 0 (inl refl);
    units_are = omega arith;
  }

  module _ (trees : List TreeOf) (decided : AreDecidedCovers game trees) (old new : Purse) where
    pub size_cause : (stop : DecideStop) → IsSizeStop game trees stop
        → IsLaterCause game kind old new stop
    size_cause AStop.Spent h = absurd h
    size_cause (AStop.Wide asked) h = inl h
    size_cause (AStop.Step wide) h = absurd h
    size_cause (AStop.Endless k var dir named) h = absurd h
    size_cause (AStop.TooLarge cells) h = (trees, decided, h.0, h.1)
    size_cause AStop.NoMemory h = tt

  -- what is named counts pivots alone
  pub naming_spends : (old new : Purse) → CountsPivotsAlone old new
      → SpendsLaterWork game kind old new
  naming_spends old new p = record {
    limit = p.limit;
    cuts = p.cuts;
    pivots = p.pivots;
    branches = (let b = p.branches in omega (arith, b));
    work = no_bounds 0 (inl refl);
    units_are = (let b = p.branches in omega (arith, b));
  }

  pub after_naming : (leaves : LeavesOf) (old mid new : Purse) → CountsPivotsAlone old mid
      → SpendsCases game leaves kind mid new → SpendsCases game leaves kind old new
  after_naming leaves old mid new p s = record {
    limit = s.limit ∙ p.limit;
    cuts = s.cuts ∙ p.cuts;
    pivots = (let a = p.pivots in let b = s.pivots in omega (arith, a, b));
    branches = (let a = p.branches in let b = s.branches in omega (arith, a, b));
    work = s.work;
    units_are = (let a = p.branches in let b = s.units_are in omega (arith, a, b));
  }

  pub stop_after_naming : (leaves : LeavesOf) (old mid new : Purse) → CountsPivotsAlone old mid
      → (stop : DecideStop) → IsSearchStop game leaves kind mid new stop
      → IsSearchStop game leaves kind old new stop
  stop_after_naming leaves old mid new p AStop.Spent h =
      let m = h.1.1 in
      let l = p.limit in
      let b = p.branches in
      let c = p.cuts in
      (h.0, (h.1.0, omega (arith, m, l, b, c)))
  stop_after_naming leaves old mid new p (AStop.Wide asked) h = h
  stop_after_naming leaves old mid new p (AStop.Step wide) h = h
  stop_after_naming leaves old mid new p (AStop.Endless k var dir named) h = h
  stop_after_naming leaves old mid new p (AStop.TooLarge cells) h = h
  stop_after_naming leaves old mid new p AStop.NoMemory h = h

  module _ (trees : List TreeOf) (named : List (List NamedOf))
      (over : AreNamedCovers game trees named) (old new : Purse) where
    pub search_cause : (stop : DecideStop)
        → IsSearchStop game (covered game trees named) kind old new stop
        → IsLaterCause game kind old new stop
    search_cause AStop.Spent h =
        let z = loose_units game in
        let m = h.1.1 in (
          h.0,
          (
            no_bounds (case_units (covered game trees named) h.1.0.tree)
                (inr (trees, named, over, h.1.0, refl)),
            omega (arith, z, m),
          ),
        )
    search_cause (AStop.Wide asked) h = inr (inl (trees, named, over, h))
    search_cause (AStop.Step wide) h = absurd h
    search_cause (AStop.Endless k var dir named) h = absurd h
    search_cause (AStop.TooLarge cells) h = absurd h
    search_cause AStop.NoMemory h = tt

    pub search_spends : SpendsCases game (covered game trees named) kind old new
        → SpendsLaterWork game kind old new
    search_spends h = record {
      limit = h.limit;
      cuts = h.cuts;
      pivots = h.pivots;
      branches = h.branches;
      work = no_bounds (case_units (covered game trees named) h.work.tree)
          (inr (trees, named, over, h.work, refl));
      units_are = (let z = loose_units game in let u = h.units_are in omega (arith, z, u));
    }

  -- ---- bounds

  module _ (trees : List TreeOf) (named : List (List NamedOf))
      (over : AreNamedCovers game trees named) (old mid new : Purse)
      (a : SpendsCases game (covered game trees named) kind old mid) where
    pub with_bounds : SpendsBestWork game mid new → SpendsLaterWork game kind old new
    with_bounds b = record {
      limit = b.limit ∙ a.limit;
      cuts = b.cuts ∙ a.cuts;
      pivots = (let p = a.pivots in let q = b.pivots in omega (arith, p, q));
      branches = (let p = a.branches in let q = b.branches in omega (arith, p, q));
      work = record {
        cases = case_units (covered game trees named) a.work.tree;
        cases_are = inr (trees, named, over, a.work, refl);
        bounds = b.trees;
        bounds_are = b.open_are;
      };
      units_are = (let p = a.units_are in let q = b.units_are in omega (arith, p, q));
    }

    bounds_cause : (stop : DecideStop) → IsBoundsStop game kind mid new stop
        → IsLaterCause game kind old new stop
    bounds_cause AStop.Spent h =
        let l = a.limit in
        let c = a.cuts in
        let u = a.units_are in
        let m = h.1.2 in
        let work : LaterWork game kind = record {
          cases = case_units (covered game trees named) a.work.tree;
          cases_are = inr (trees, named, over, a.work, refl);
          bounds = h.1.0;
          bounds_are = h.1.1;
        } in
        (h.0, (work, omega (arith, m, l, c, u)))
    bounds_cause (AStop.Wide asked) h = ⊎_elim (λ a. inl a) (λ b. inr (inr b)) h
    bounds_cause (AStop.Step wide) h = h
    bounds_cause (AStop.Endless k var dir named) h = inr h
    bounds_cause (AStop.TooLarge cells) h = absurd h
    bounds_cause AStop.NoMemory h = tt

    pub bounds_causes : {A : Type 0} → (r : Result A DecideStop)
        → IfErr r (IsBoundsStop game kind mid new) → IfErr r (IsLaterCause game kind old new)
    bounds_causes (Ok x) h = tt
    bounds_causes (Err stop) h = bounds_cause stop h
