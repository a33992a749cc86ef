-- Which certificates have a text. Where `strict` is false the upper bounds of numbers are left out.
use Rattle.std.specs.Prelude.{◌≡◌, ℕ, ℤ, unsigned_abs, List, length, map, Bool, true, not, ◌&&◌, ◌||◌, ◌==◌, nat_le}
use Rattle.std.specs.List.{AllByRecursion}
use Rattle.zr_base.specs.Fractions.{Fraction}
use Rattle.zr_base.specs.Lowest.{gcd_of}
use Rattle.zr_game.specs.Named.{NamedOf}
use Rattle.zr_game.specs.Profiles.{Part}
use Rattle.zr_tree.specs.Nodes.{NodeOf}
use Rattle.zr_cases.specs.Cases.{RNodeOf}
use Rattle.zr_cert.specs.Certs.{BoundOf, BoxVerdict, CertOf, CoverVerdict, EmptyVerdict, MixtureOf, ProfileVerdict, VerdictOf}
use Rattle.zr_cert.specs.Forms.{leaf_count}
use Rattle.zr_form.specs.Bounds.{Passes, below, is_count, is_index, is_narrow, is_positive}
use Rattle.zr_lines.specs.declared.ends.Ends.TheVariants.{Proofs, Refuted, Covered}
use Rattle.zr_lines.specs.Fits.{FitsBoxes, FitsCases, FitsNamedList, FitsPoint, FitsTree}

-- a weight of at least 1, and a point
pub record FitsPart (strict : Bool) (part : Part) : Type 0 where
  pub weight : Passes (is_positive strict) part.weight
  pub point : FitsPoint strict part.point

-- a total of at least 1, and at least one part
pub record FitsMixture (strict : Bool) (m : MixtureOf) : Type 0 where
  pub total : Passes (is_positive strict) m.total
  pub count : Passes (is_count strict) (length m.parts)
  pub parts : AllByRecursion (FitsPart strict) m.parts

-- Lowest terms are asked where both numbers are within the upper bounds.
abbrev pub is_lowest : ℤ → ℤ → Bool
is_lowest num den = not (is_narrow true num && is_narrow true den) || gcd_of (unsigned_abs num) (unsigned_abs den) == 1

-- a cost over a denominator of at least 1
pub record FitsCost (strict : Bool) (f : Fraction) : Type 0 where
  pub num : Passes (is_narrow strict) f.num
  pub den : Passes (is_positive strict) f.den
  pub lowest : is_lowest f.num f.den ≡ true

-- a cost, and a tree whose leaves have any scale
pub record FitsBound (strict : Bool) (b : BoundOf) : Type 0 where
  pub cost : FitsCost strict b.cost
  pub tree : FitsTree strict Proofs b.tree

-- a cover and a list of points and rays for each player, and a refutation over the covers' leaves
pub record FitsCoverProof (strict : Bool) (players : ℕ) (covers : List (List NodeOf)) (named : List (List NamedOf)) (proof : List RNodeOf) : Type 0 where
  pub cover_count : length covers ≡ players
  pub cover_trees : AllByRecursion (FitsTree strict Covered) covers
  pub named_count : length named ≡ players
  pub named_lists : AllByRecursion (FitsNamedList strict) named
  pub cases : FitsCases strict (map leaf_count covers) proof

-- a strategy and a bound for each player; covers and a refutation; a player, and a tree that refutes its leaves; or a box tree
abbrev pub FitsVerdict : Bool → ℕ → VerdictOf → Type 0
FitsVerdict strict players (ProfileVerdict mixtures bounds) =
    (length mixtures ≡ players) × AllByRecursion (FitsMixture strict) mixtures × (length bounds ≡ players) × AllByRecursion (FitsBound strict) bounds
FitsVerdict strict players (CoverVerdict covers named proof) = FitsCoverProof strict players covers named proof
FitsVerdict strict players (EmptyVerdict player tree) = Passes (is_index strict) player × FitsTree strict Refuted tree
FitsVerdict strict players (BoxVerdict nodes) = FitsBoxes strict nodes

-- a number of players
abbrev pub is_player_count : Bool → ℕ → Bool
is_player_count strict n = below strict 17 n && nat_le 1 n

pub record Fits (strict : Bool) (c : CertOf) : Type 0 where
  pub players : Passes (is_player_count strict) c.players
  pub verdict : FitsVerdict strict c.players c.verdict
