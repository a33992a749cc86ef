-- The profile that a solution of the system draws, in the form in which it is printed.
use Rattle.std.specs.Prelude.{◌≡◌, List}
use Rattle.std.specs.List.{All}
use Rattle.zr_base.specs.Points.{PointOf}
use Rattle.zr_game.specs.Equilibria.{IsEquilibrium}
use Rattle.zr_game.specs.Players.{GameOf}
use Rattle.zr_game.specs.Profiles.{IsOfKind, total}
use Rattle.zr_game.specs.declared.kind.Kind.{Kind}
use Rattle.zr_cert.specs.Certs.{MixtureOf, profile_with}
use Rattle.zr_cert.specs.Forms.{IsMixtureForm}
use Rattle.zr_comp.specs.Answers.{IsSolution}
use Rattle.zr_system.specs.Alike.{AreAlike}
use Rattle.zr_system.specs.Drawn.{drawn_profile}
use Rattle.zr_system.specs.Regions.{LeavesOf}
use Rattle.zr_tidy.specs.Tidy.{IsTidy}
use Rattle.zr_draw.specs.Numbers.{numbers_of}

-- x is a solution of the system of the kind over the leaves, and the strategies are those that it
-- draws, each in its tidy form and with the printed total; they are an equilibrium of the kind
pub record IsDrawnProfile (game : GameOf) (leaves : LeavesOf) (kind : Kind) (x : PointOf)
    (mixtures : List MixtureOf) : Type 0 where
  pub solution : IsSolution game leaves kind x
  pub alike : AreAlike (drawn_profile game leaves (numbers_of game leaves x))
      (profile_with mixtures)
  pub tidy : All (λ m. IsTidy m.parts) mixtures
  pub forms : All IsMixtureForm mixtures
  pub totals : All (λ m. m.total ≡ total m.parts) mixtures
  pub of_kind : IsOfKind kind (profile_with mixtures)
  pub equilibrium : IsEquilibrium game (profile_with mixtures)
