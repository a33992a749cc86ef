-- Certificates as content.
use Rattle.std.specs.Prelude.{ℕ, ℤ, List, map}
use Rattle.std.specs.Global.{Vec}
use Rattle.zr_base.specs.Fractions.{Fraction}
use Rattle.zr_game.specs.declared.kind.Kind.{Kind}
use Rattle.zr_game.specs.declared.named.Named.{Named}
use Rattle.zr_game.specs.Named.{NamedOf, named_of}
use Rattle.zr_game.specs.Profiles.{Profile as ProfileOf, Strategy as StrategyOf}
use Rattle.zr_mix.specs.declared.mixture.Profile.{Profile}
use Rattle.zr_mix.specs.declared.mixture.Strategy.{Strategy}
use Rattle.zr_mix.specs.Mixtures.{parts_of}
use Rattle.zr_tree.specs.declared.tree.Tree.{Tree}
use Rattle.zr_tree.specs.Nodes.{NodeOf, node_of}
use Rattle.zr_cases.specs.declared.refutation.Refutation.{Refutation}
use Rattle.zr_cases.specs.declared.box_tree.BoxTree.{BoxTree}
use Rattle.zr_cases.specs.Cases.{BNodeOf, RNodeOf, bnode_of, rnode_of}
use Rattle.zr_cert.specs.declared.cert.Bound.{Bound}
use Rattle.zr_cert.specs.declared.cert.Verdict.{Verdict}
use Rattle.zr_cert.specs.declared.cert.Verdict.TheVariants as verdicts

-- a strategy as it is printed: its parts, and the sum of their weights
pub record MixtureOf : Type 0 where
  pub total : ℤ
  pub parts : StrategyOf

-- a printed cost, and the nodes of a tree, each before its children
pub record BoundOf : Type 0 where
  pub cost : Fraction
  pub tree : List NodeOf

-- strategies and bounds; covers, named points and rays, and a refutation; a player without a point; or a box tree
pub data VerdictOf : Type 0 where
  ProfileVerdict : List MixtureOf → List BoundOf → VerdictOf
  CoverVerdict : List (List NodeOf) → List (List NamedOf) → List RNodeOf → VerdictOf
  EmptyVerdict : ℕ → List NodeOf → VerdictOf
  BoxVerdict : List BNodeOf → VerdictOf

pub record CertOf : Type 0 where
  pub kind : Kind
  pub players : ℕ
  pub verdict : VerdictOf

-- the profile of printed strategies
abbrev pub profile_with : List MixtureOf → ProfileOf
profile_with mixtures = map (λ m. m.parts) mixtures

abbrev pub mixture_of : Strategy → MixtureOf
mixture_of strategy = record { total = strategy.total; parts = parts_of strategy }

abbrev pub mixtures_of : Profile → List MixtureOf
mixtures_of profile = map mixture_of profile.strategies.items

abbrev pub nodes_of : Tree → List NodeOf
nodes_of tree = map node_of tree.nodes.items

abbrev pub bound_of : Bound → BoundOf
bound_of bound = record { cost = bound.cost; tree = nodes_of bound.tree }

abbrev pub named_list : Vec Named → List NamedOf
named_list named = map named_of named.items

abbrev pub cases_of : Refutation → List RNodeOf
cases_of proof = map rnode_of proof.nodes.items

abbrev pub boxes_of : BoxTree → List BNodeOf
boxes_of tree = map bnode_of tree.nodes.items

abbrev pub verdict_of : Verdict → VerdictOf
verdict_of (verdicts.Profile profile bounds) = ProfileVerdict (mixtures_of profile) (map bound_of bounds.items)
verdict_of (verdicts.NoneCover covers named proof) = CoverVerdict (map nodes_of covers.items) (map named_list named.items) (cases_of proof)
verdict_of (verdicts.NoneEmpty player tree) = EmptyVerdict player (nodes_of tree)
verdict_of (verdicts.NoneBoxes tree) = BoxVerdict (boxes_of tree)

abbrev pub cert_with : Kind → ℕ → Verdict → CertOf
cert_with kind players verdict = record { kind = kind; players = players; verdict = verdict_of verdict }
