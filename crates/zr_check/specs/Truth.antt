-- What a verdict says of the game.
use Rattle.zr_game.specs.Players.{GameOf}
use Rattle.zr_game.specs.Equilibria.{HasNoEquilibrium, IsEquilibrium}
use Rattle.zr_game.specs.Profiles.{IsOfKind}
use Rattle.zr_game.specs.declared.kind.Kind.{Kind}
use Rattle.zr_cert.specs.Certs.{BoxVerdict, CoverVerdict, EmptyVerdict, ProfileVerdict, VerdictOf, profile_with}

-- the profile is an equilibrium of the kind, or no profile of the kind is one
abbrev pub IsTrueVerdict : GameOf → Kind → VerdictOf → Type 0
IsTrueVerdict game kind (ProfileVerdict mixtures bounds) = IsOfKind kind (profile_with mixtures) × IsEquilibrium game (profile_with mixtures)
IsTrueVerdict game kind (CoverVerdict covers named proof) = HasNoEquilibrium game kind
IsTrueVerdict game kind (EmptyVerdict i nodes) = HasNoEquilibrium game kind
IsTrueVerdict game kind (BoxVerdict nodes) = HasNoEquilibrium game kind
