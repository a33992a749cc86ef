-- That nodes keep their rules is a fact with one proof at most.
use Rattle.std.specs.Prelude.{◌^◌, ℤ, pos, ◌≤ℤ◌, List}
use Rattle.std.specs.Coded.{codes}
use Rattle.zr_base.specs.Steps.{IsNarrow}
use Rattle.zr_game.specs.FormLaws.{AscendWith-prop}
use Rattle.zr_tree.specs.Nodes.{Multipliers}
use Rattle.zr_cases.specs.Cases.{RNodeOf, OnOffNode, RowNode, WhichNode, CloseNode, BNodeOf, CutNode, EmptyNode, DeviateNode}
use Rattle.zr_cases.specs.Forms.{AreCases, AreCounted, IsBoxForm, IsBoxTree, IsCaseForm, IsAmong, IsWhole}

multiplier_prop : (z : ℤ) → IsProp (((pos 1) ≤ℤ z) × IsNarrow z)
multiplier_prop z = hlevel codes

counted_prop : (mult : Multipliers) → IsProp (AreCounted mult)
counted_prop mult = let each = AscendWith-prop (λ z. ((pos 1) ≤ℤ z) × IsNarrow z) multiplier_prop 0 (2 ^ 32) in hlevel (codes, each)

case_prop : (node : RNodeOf) → IsProp (IsCaseForm node)
case_prop (OnOffNode i k) = hlevel codes
case_prop (RowNode i k slot) = hlevel codes
case_prop (WhichNode i) = hlevel codes
case_prop (CloseNode mult) = counted_prop mult

pub AreCases-prop : (nodes : List RNodeOf) → IsProp (AreCases nodes)
AreCases-prop nodes = hlevel (codes, case_prop)

among_prop : (players : _) (node : RNodeOf) → IsProp (IsAmong players node)
among_prop players (OnOffNode i k) = hlevel codes
among_prop players (RowNode i k slot) = hlevel codes
among_prop players (WhichNode i) = hlevel codes
among_prop players (CloseNode mult) = hlevel codes

pub IsWhole-prop : (leaves : List _) (nodes : List RNodeOf) → IsProp (IsWhole leaves nodes)
IsWhole-prop leaves nodes = hlevel (codes, among_prop)

box_prop : (node : BNodeOf) → IsProp (IsBoxForm node)
box_prop (CutNode i v at) = hlevel codes
box_prop (EmptyNode i mult) = let counted = counted_prop mult in hlevel (codes, counted)
box_prop (DeviateNode i x) = hlevel codes

pub IsBoxTree-prop : (nodes : List BNodeOf) → IsProp (IsBoxTree nodes)
IsBoxTree-prop nodes = hlevel (codes, box_prop)
