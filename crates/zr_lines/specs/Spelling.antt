-- The lines of points, nodes and trees.
use Rattle.std.specs.Prelude.{ℕ, List, [], ◌∷◌, ◌++◌, length, map, codes}
use Rattle.zr_base.specs.Points.{PointOf}
use Rattle.zr_game.specs.Named.{NamedOf, NamedPoint, NamedRay}
use Rattle.zr_tree.specs.Nodes.{Multipliers, NodeOf, SplitNode, ChooseNode, ProofNode, KnownNode, LooseNode}
use Rattle.zr_cases.specs.Cases.{RNodeOf, OnOffNode, RowNode, WhichNode, CloseNode, BNodeOf, CutNode, EmptyNode, DeviateNode}
use Rattle.zr_form.specs.Lines.{line_with}
use Rattle.zr_form.specs.Numbers.{decimal, signed}
use Rattle.zr_form.specs.Reading.{Bytes}

-- a point's denominator, and then its numbers
abbrev pub point_fields : PointOf → List Bytes
point_fields x = signed x.den ∷ map signed x.num

-- a row and its multiplier, one pair after the other
abbrev pub multiplier_fields : Multipliers → List Bytes
multiplier_fields [] = []
multiplier_fields (t ∷ ts) = decimal t.0 ∷ signed t.1 ∷ multiplier_fields ts

-- how many pairs there are, and then the pairs
abbrev pub counting_fields : Multipliers → List Bytes
counting_fields mult = decimal (length mult) ∷ multiplier_fields mult

-- the line of a tree's node
abbrev pub node_line : NodeOf → Bytes
node_line (SplitNode v at) = line_with (codes "split" ∷ decimal v ∷ signed at ∷ [])
node_line (ChooseNode p) = line_with (codes "choose" ∷ decimal p ∷ [])
node_line (ProofNode scale mult) = line_with (codes "leaf" ∷ signed scale ∷ counting_fields mult)
node_line (KnownNode x) = line_with (codes "known" ∷ point_fields x)
node_line LooseNode = line_with (codes "loose" ∷ [])

-- the line of a named point, or of a ray: its base, and then the numbers of its direction
abbrev pub named_line : NamedOf → Bytes
named_line (NamedPoint x) = line_with (codes "point" ∷ point_fields x)
named_line (NamedRay base dir) = line_with (codes "ray" ∷ (point_fields base ++ map signed dir))

-- how many points and rays follow
abbrev pub named_count_line : ℕ → Bytes
named_count_line count = line_with (codes "named" ∷ decimal count ∷ [])

-- the lines of named points and rays
abbrev pub named_lines : List NamedOf → List Bytes
named_lines items = named_count_line (length items) ∷ map named_line items

-- the line of a refutation's node
abbrev pub case_line : RNodeOf → Bytes
case_line (OnOffNode i k) = line_with (codes "onoff" ∷ decimal i ∷ decimal k ∷ [])
case_line (RowNode i k slot) = line_with (codes "row" ∷ decimal i ∷ decimal k ∷ decimal slot ∷ [])
case_line (WhichNode i) = line_with (codes "which" ∷ decimal i ∷ [])
case_line (CloseNode mult) = line_with (codes "close" ∷ counting_fields mult)

-- the line of a box tree's node
abbrev pub box_line : BNodeOf → Bytes
box_line (CutNode i v at) = line_with (codes "split" ∷ decimal i ∷ decimal v ∷ signed at ∷ [])
box_line (EmptyNode i mult) = line_with (codes "empty" ∷ decimal i ∷ counting_fields mult)
box_line (DeviateNode i x) = line_with (codes "deviate" ∷ decimal i ∷ point_fields x)
