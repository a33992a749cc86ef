-- The first line of a certificate's text that is refused.
use Rattle.std.specs.Prelude.{◌≡◌, ◌<◌, length, ◌⊎◌}
use Rattle.zr_game.specs.Players.{GameOf, PlayerOf}
use Rattle.zr_game.specs.Forms.{IsPlayer}
use Rattle.zr_game.specs.declared.kind.Kind.{Kind}
use Rattle.zr_game.specs.declared.kind.Kind.TheVariants.{Pure}
use Rattle.zr_cert.specs.declared.fault.CertFault.{CertFault}
use Rattle.zr_cert.specs.declared.fault.CertFault.TheVariants.{Bad}
use Rattle.zr_cert.specs.Certs.{BoxVerdict, CertOf, CoverVerdict, EmptyVerdict, ProfileVerdict, VerdictOf}
use Rattle.zr_cert.specs.Places.{case_line_number}
use Rattle.zr_check.specs.Boxes.{BoxesPass, BoxesRefused}
use Rattle.zr_check.specs.Covers.{CoversPass, CoversRefused, ProofPasses, ProofRefused}
use Rattle.zr_check.specs.Parts.{StrategiesPass, StrategiesRefused}
use Rattle.zr_check.specs.Bounds.{BoundsPass, BoundsRefused, TreePasses, TreeRefused, no_point}

abbrev pub VerdictPasses : GameOf → Kind → VerdictOf → Type 0
VerdictPasses game kind (ProfileVerdict mixtures bounds) = StrategiesPass game kind mixtures × BoundsPass game mixtures bounds
VerdictPasses game kind (CoverVerdict covers named proof) =
    CoversPass game covers named × ProofPasses game kind covers named proof
VerdictPasses game kind (BoxVerdict nodes) = (kind ≡ Pure) × BoxesPass game nodes
VerdictPasses game kind (EmptyVerdict i nodes) = (player : PlayerOf) × IsPlayer game i player × TreePasses player (no_point player) nodes

-- the lines after the kind's, in their order; the trees of an empty player and of boxes begin at
-- line 4. At line 3 stand boxes of the mixed kind
abbrev pub VerdictRefused : GameOf → Kind → VerdictOf → CertFault → Type 0
VerdictRefused game kind (ProfileVerdict mixtures bounds) fault =
    StrategiesRefused game kind mixtures fault ⊎ (StrategiesPass game kind mixtures × BoundsRefused game mixtures bounds fault)
VerdictRefused game kind (CoverVerdict covers named proof) fault =
    CoversRefused game covers named fault
    ⊎ (CoversPass game covers named
    × ProofRefused game kind covers named proof (case_line_number covers named) fault)
VerdictRefused game kind (BoxVerdict nodes) fault =
    ((kind ≡ Pure → ⊥) × (fault ≡ Bad 3)) ⊎ ((kind ≡ Pure) × BoxesRefused game nodes 4 fault)
VerdictRefused game kind (EmptyVerdict i nodes) fault =
    ((i < length game → ⊥) × (fault ≡ Bad 3))
    ⊎ ((player : PlayerOf) × IsPlayer game i player × TreeRefused player (no_point player) nodes 4 fault)

-- each line is right, and no step of it is too wide
abbrev pub CertPasses : GameOf → CertOf → Type 0
CertPasses game c = (c.players ≡ length game) × VerdictPasses game c.kind c.verdict

-- the number of players stands at line 2
abbrev pub CertRefused : GameOf → CertOf → CertFault → Type 0
CertRefused game c fault =
    ((c.players ≡ length game → ⊥) × (fault ≡ Bad 2)) ⊎ ((c.players ≡ length game) × VerdictRefused game c.kind c.verdict fault)

-- the verdict is a profile whose strategies pass
abbrev pub ProfilePasses : GameOf → Kind → VerdictOf → Type 0
ProfilePasses game kind (ProfileVerdict mixtures bounds) = StrategiesPass game kind mixtures
ProfilePasses game kind (CoverVerdict covers named proof) = ⊥
ProfilePasses game kind (EmptyVerdict i nodes) = ⊥
ProfilePasses game kind (BoxVerdict nodes) = ⊥

abbrev pub ProfileRefused : GameOf → Kind → VerdictOf → CertFault → Type 0
ProfileRefused game kind (ProfileVerdict mixtures bounds) fault = StrategiesRefused game kind mixtures fault
ProfileRefused game kind (CoverVerdict covers named proof) fault = fault ≡ Bad 3
ProfileRefused game kind (EmptyVerdict i nodes) fault = fault ≡ Bad 3
ProfileRefused game kind (BoxVerdict nodes) fault = fault ≡ Bad 3

-- the same of the number of players, and of the lines of the players and their parts alone
abbrev pub HeadPasses : GameOf → CertOf → Type 0
HeadPasses game c = (c.players ≡ length game) × ProfilePasses game c.kind c.verdict

abbrev pub HeadRefused : GameOf → CertOf → CertFault → Type 0
HeadRefused game c fault =
    ((c.players ≡ length game → ⊥) × (fault ≡ Bad 2)) ⊎ ((c.players ≡ length game) × ProfileRefused game c.kind c.verdict fault)
