-- What is tested at the lines of covers, of named points and rays, and of a refutation.
use Rattle.std.specs.Prelude.{◌≡◌, ℕ, ◌+◌, Some, Option, IsSome, List, [], length, map, slice_get, ◌⊎◌}
use Rattle.zr_base.specs.declared.step.Wide.{Wide}
use Rattle.zr_game.specs.Players.{GameOf, PlayerOf}
use Rattle.zr_game.specs.FeasibleSteps.{feasible_wide}
use Rattle.zr_game.specs.Leaves.{root_leaf}
use Rattle.zr_game.specs.Named.{IsNamed, NamedOf, NamedPoint, NamedRay}
use Rattle.zr_game.specs.RaySteps.{ray_wide}
use Rattle.zr_game.specs.declared.kind.Kind.{Kind}
use Rattle.zr_tree.specs.CoverSteps.{CoverPasses, IsRefusedCover}
use Rattle.zr_tree.specs.Nodes.{NodeOf}
use Rattle.zr_tree.specs.Trees.{TreeOf, preorder}
use Rattle.zr_tree.specs.declared.fault.Fault.{Fault}
use Rattle.zr_cases.specs.Cases.{RNodeOf}
use Rattle.zr_cases.specs.Trees.{CasesOf, preorder as case_preorder}
use Rattle.zr_system.specs.Regions.{LeavesOf}
use Rattle.zr_refute.specs.Covered.{covered}
use Rattle.zr_refute.specs.Refuting.{leaf_counts}
use Rattle.zr_refute.specs.Steps.{IsRefused, Passes}
use Rattle.zr_cert.specs.declared.fault.CertFault.{CertFault}
use Rattle.zr_cert.specs.declared.fault.CertFault.TheVariants.{Bad, Wide as TooWide}
use Rattle.zr_cert.specs.Places.{cover_line_number}
use Rattle.zr_check.specs.Bounds.{at_line}
use Rattle.zr_check.specs.Firsts.{AllPass, FirstRefused}

-- the cover of these nodes passes
abbrev pub CoverTreePasses : PlayerOf → List NodeOf → Type 0
CoverTreePasses player nodes =
    (t : TreeOf) × (preorder t ≡ nodes) × CoverPasses player (root_leaf player) t

-- a node is refused, the cover's first node standing at `line`
abbrev pub CoverTreeRefused : PlayerOf → List NodeOf → ℕ → CertFault → Type 0
CoverTreeRefused player nodes line fault =
    (t : TreeOf) × (first : Fault) × (preorder t ≡ nodes)
    × IsRefusedCover player 0 (root_leaf player) t first × (fault ≡ at_line line first)

-- the item's point, and a ray's direction, have so many numbers
abbrev pub IsItemOfLength : ℕ → NamedOf → Type 0
IsItemOfLength vars (NamedPoint x) = length x.num ≡ vars
IsItemOfLength vars (NamedRay base dir) = (length base.num ≡ vars) × (length dir ≡ vars)

-- the first step of the item's test that is too wide
abbrev pub item_wide : PlayerOf → NamedOf → Option Wide
item_wide player (NamedPoint x) = feasible_wide player x
item_wide player (NamedRay base dir) = ray_wide player base dir

-- a step of the item's line is too wide; for an item of another length no sum is made
abbrev pub IsWideItem : PlayerOf → NamedOf → Type 0
IsWideItem player item =
    IsItemOfLength (length player.vars) item × IsSome (item_wide player item)

-- the item is a feasible point, or a ray at one, and no step is too wide
abbrev pub ItemPasses : PlayerOf → ℕ → NamedOf → Type 0
ItemPasses player k item = IsNamed player item × (IsWideItem player item → ⊥)

-- a step that is too wide comes before a rule that is broken
abbrev pub ItemRefused : PlayerOf → ℕ → NamedOf → CertFault → Type 0
ItemRefused player line item fault =
    (IsWideItem player item × (fault ≡ TooWide line))
    ⊎ ((IsWideItem player item → ⊥) × (IsNamed player item → ⊥) × (fault ≡ Bad line))

abbrev pub ItemsPass : PlayerOf → List NamedOf → Type 0
ItemsPass player items = AllPass (ItemPasses player) items

-- item k stands k lines after the first
abbrev pub ItemsRefused : PlayerOf → List NamedOf → ℕ → CertFault → Type 0
ItemsRefused player items line fault =
    FirstRefused (ItemPasses player) (λ k. ItemRefused player (line + k)) items fault

-- a player's cover passes, and so does what is named
abbrev pub CoverLinesPass : PlayerOf → List NodeOf → List NamedOf → Type 0
CoverLinesPass player nodes items = CoverTreePasses player nodes × ItemsPass player items

-- the cover begins at `line`; the line of the items' count follows it, and then the items
abbrev pub CoverLinesRefused : PlayerOf → List NodeOf → List NamedOf → ℕ → CertFault → Type 0
CoverLinesRefused player nodes items line fault =
    CoverTreeRefused player nodes line fault
    ⊎ (CoverTreePasses player nodes × ItemsRefused player items (line + length nodes + 1) fault)

-- the cover of player i passes, and so does what is named of it
abbrev pub PlayerCoverPasses : List (List NodeOf) → List (List NamedOf) → ℕ → PlayerOf → Type 0
PlayerCoverPasses covers named i player =
    (nodes : List NodeOf) (items : List NamedOf) → slice_get covers i ≡ Some nodes
    → slice_get named i ≡ Some items → CoverLinesPass player nodes items

abbrev pub PlayerCoverRefused : List (List NodeOf) → List (List NamedOf) → ℕ → PlayerOf → CertFault
    → Type 0
PlayerCoverRefused covers named i player fault =
    (nodes : List NodeOf) × (items : List NamedOf) × (slice_get covers i ≡ Some nodes)
    × (slice_get named i ≡ Some items)
    × CoverLinesRefused player nodes items (cover_line_number covers named i) fault

abbrev pub CoversPass : GameOf → List (List NodeOf) → List (List NamedOf) → Type 0
CoversPass game covers named = AllPass (PlayerCoverPasses covers named) game

abbrev pub CoversRefused : GameOf → List (List NodeOf) → List (List NamedOf) → CertFault → Type 0
CoversRefused game covers named fault =
    FirstRefused (PlayerCoverPasses covers named) (PlayerCoverRefused covers named) game fault

-- the refutation of these nodes over the leaves passes
abbrev pub CasesPass : GameOf → LeavesOf → Kind → List RNodeOf → Type 0
CasesPass game leaves kind nodes =
    (t : CasesOf) × (case_preorder (leaf_counts leaves) t ≡ nodes) × Passes game leaves kind [] t

-- a node is refused, the first node standing at `line`
abbrev pub CasesRefused : GameOf → LeavesOf → Kind → List RNodeOf → ℕ → CertFault → Type 0
CasesRefused game leaves kind nodes line fault =
    (t : CasesOf) × (first : Fault) × (case_preorder (leaf_counts leaves) t ≡ nodes)
    × IsRefused game leaves kind 0 [] t first × (fault ≡ at_line line first)

-- it passes over the leaves of the covers, with what is named
abbrev pub ProofPasses : GameOf → Kind → List (List NodeOf) → List (List NamedOf) → List RNodeOf
    → Type 0
ProofPasses game kind covers named proof =
    (trees : List TreeOf) × (map preorder trees ≡ covers)
    × CasesPass game (covered game trees named) kind proof

abbrev pub ProofRefused : GameOf → Kind → List (List NodeOf) → List (List NamedOf) → List RNodeOf
    → ℕ → CertFault → Type 0
ProofRefused game kind covers named proof line fault =
    (trees : List TreeOf) × (map preorder trees ≡ covers)
    × CasesRefused game (covered game trees named) kind proof line fault
