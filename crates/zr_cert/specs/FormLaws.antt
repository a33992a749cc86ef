-- That a certificate keeps the rules is a fact with one proof at most.
use Rattle.std.specs.Prelude.{ℕ, List, map}
use Rattle.std.specs.Coded.{codes}
use Rattle.zr_base.specs.Fractions.{Fraction}
use Rattle.zr_base.specs.Lowest.{IsLowest}
use Rattle.zr_base.specs.Points.{PointOf}
use Rattle.zr_game.specs.Named.{NamedOf, NamedPoint, NamedRay}
use Rattle.zr_game.specs.Profiles.{Part}
use Rattle.zr_game.specs.Rays.{Direction}
use Rattle.zr_cases.specs.Cases.{RNodeOf}
use Rattle.zr_cases.specs.FormLaws.{AreCases-prop, IsBoxTree-prop, IsWhole-prop}
use Rattle.zr_cases.specs.Forms.{IsSomePoint}
use Rattle.zr_tree.specs.FormLaws.{IsTree-prop}
use Rattle.zr_tree.specs.Nodes.{NodeOf, SplitNode, ChooseNode, ProofNode, KnownNode, LooseNode}
use Rattle.zr_cert.specs.Certs.{BoundOf, BoxVerdict, CertOf, CoverVerdict, EmptyVerdict, MixtureOf, ProfileVerdict, VerdictOf}
use Rattle.zr_cert.specs.Forms.{IsBoundForm, IsBoundNode, IsCert, IsCoverForm, IsCoverNode, IsDirectionForm, IsEmptyNode, IsMixtureForm, IsNamedForm, IsPartForm, IsTreeWith, IsVerdictForm, leaf_count}

part_prop : (part : Part) → IsProp (IsPartForm part)
part_prop part = hlevel codes

mixture_prop : (m : MixtureOf) → IsProp (IsMixtureForm m)
mixture_prop m = hlevel (codes, part_prop)

cost_prop : (f : Fraction) → IsProp (IsLowest f)
cost_prop f = hlevel codes

bound_node_prop : (node : NodeOf) → IsProp (IsBoundNode node)
bound_node_prop (SplitNode v at) = hlevel codes
bound_node_prop (ChooseNode p) = hlevel codes
bound_node_prop (ProofNode scale mult) = hlevel codes
bound_node_prop (KnownNode x) = hlevel codes
bound_node_prop LooseNode = hlevel codes

empty_node_prop : (node : NodeOf) → IsProp (IsEmptyNode node)
empty_node_prop (SplitNode v at) = hlevel codes
empty_node_prop (ChooseNode p) = hlevel codes
empty_node_prop (ProofNode scale mult) = hlevel codes
empty_node_prop (KnownNode x) = hlevel codes
empty_node_prop LooseNode = hlevel codes

some_point_prop : (x : PointOf) → IsProp (IsSomePoint x)
some_point_prop x = hlevel codes

cover_node_prop : (node : NodeOf) → IsProp (IsCoverNode node)
cover_node_prop (SplitNode v at) = hlevel codes
cover_node_prop (ChooseNode p) = hlevel codes
cover_node_prop (ProofNode scale mult) = hlevel codes
cover_node_prop (KnownNode x) = some_point_prop x
cover_node_prop LooseNode = hlevel codes

direction_prop : (base : PointOf) (dir : Direction) → IsProp (IsDirectionForm base dir)
direction_prop base dir = hlevel codes

named_prop : (item : NamedOf) → IsProp (IsNamedForm item)
named_prop (NamedPoint x) = some_point_prop x
named_prop (NamedRay base dir) = hlevel (codes, some_point_prop, direction_prop)

tree_prop : (IsIn : NodeOf → Type 0) → ((node : NodeOf) → IsProp (IsIn node)) → (nodes : List NodeOf) → IsProp (IsTreeWith IsIn nodes)
tree_prop IsIn each nodes = hlevel (codes, each, IsTree-prop)

bound_prop : (b : BoundOf) → IsProp (IsBoundForm b)
bound_prop b = let trees = tree_prop IsBoundNode bound_node_prop in hlevel (codes, cost_prop, trees)

cover_prop : (players : ℕ) (covers : List (List NodeOf)) (named : List (List NamedOf)) (proof : List RNodeOf) → IsProp (IsCoverForm players covers named proof)
cover_prop players covers named proof =
    let trees = tree_prop IsCoverNode cover_node_prop in
    let whole = IsWhole-prop (map leaf_count covers) proof in
    let cases = AreCases-prop proof in
    hlevel (codes, trees, named_prop, cases, whole)

verdict_prop : (players : ℕ) (v : VerdictOf) → IsProp (IsVerdictForm players v)
verdict_prop players (ProfileVerdict mixtures bounds) = hlevel (codes, mixture_prop, bound_prop)
verdict_prop players (CoverVerdict covers named proof) = cover_prop players covers named proof
verdict_prop players (EmptyVerdict player tree) = let trees = tree_prop IsEmptyNode empty_node_prop in hlevel (codes, trees)
verdict_prop players (BoxVerdict nodes) = IsBoxTree-prop nodes

pub IsCert-prop : (c : CertOf) → IsProp (IsCert c)
IsCert-prop c = hlevel (codes, verdict_prop)
