-- A refutation over covers leaves no equilibrium.
use Rattle.std.proofs.Common.{[]}
use Rattle.zr_game.specs.Equilibria.{HasNoEquilibrium, IsEquilibrium}
use Rattle.zr_game.specs.Forms.{IsGame}
use Rattle.zr_game.specs.Players.{GameOf}
use Rattle.zr_game.specs.Profiles.{IsOfKind, Profile}
use Rattle.zr_game.specs.declared.kind.Kind.{Kind}
use Rattle.zr_game.proofs.MeanLaws.{equilibria}
use Rattle.zr_cases.specs.Trees.{CasesOf}
use Rattle.zr_system.specs.Choices.{HasCompleteSolution}
use Rattle.zr_system.specs.Covers.{AreCovers}
use Rattle.zr_system.specs.Regions.{LeavesOf}
use Rattle.zr_refute.specs.Refuting.{RefutesUnder}
use Rattle.zr_refute.proofs.NoSolutions.{none_complete}
use Rattle.zr_convex.proofs.Equilibria.{equilibrium_solves}
use Rattle.zr_convex.proofs.Paths.{complete}

module _ (game : GameOf) (form : IsGame game) (leaves : LeavesOf) (covers : AreCovers game leaves)
    (kind : Kind) where
  pub has_solution : (profile : Profile) → IsOfKind kind profile → IsEquilibrium game profile
      → HasCompleteSolution game leaves kind
  has_solution profile of_kind e =
      let best = (equilibria game form profile e.valid).0 e in
      let s = equilibrium_solves game form leaves covers kind profile e.valid best of_kind in
      complete game leaves s.0 kind s.1 s.2 s.3

  pub has_none : (t : CasesOf) → RefutesUnder game leaves kind [] t → HasNoEquilibrium game kind
  has_none t r profile of_kind e =
      none_complete game leaves kind t r (has_solution profile of_kind e)
