-- What points, nodes and trees keep says that they have lines.
use Rattle.std.proofs.Common.{◌≡◌, ℕ, zero, suc, ◌+◌, ◌^◌, ◌<◌, Bool, true, false, List, [], ◌∷◌, length, refl, arith, ℤ, pos, ◌≤ℤ◌}
use Rattle.std.specs.Prelude.{nat_le}
use Rattle.std.specs.List.{AllByRecursion}
use Rattle.std.proofs.lemmas.Bool.{le-leb, leb-true, lt-ltb, ltb-true}
use Rattle.std.proofs.lemmas.List.Elements.{recursion_from_All}
use Rattle.zr_base.specs.Points.{PointOf}
use Rattle.zr_base.specs.Steps.{IsNarrow}
use Rattle.zr_base.specs.Terms.{AscendWith}
use Rattle.zr_game.specs.Named.{NamedOf, NamedPoint, NamedRay}
use Rattle.zr_tree.specs.Form.{IsNodeForm, child_count, is_forest}
use Rattle.zr_tree.specs.Nodes.{Multipliers, NodeOf, SplitNode, ChooseNode, ProofNode, KnownNode, LooseNode}
use Rattle.zr_cases.specs.Cases.{RNodeOf, OnOffNode, RowNode, WhichNode, CloseNode, BNodeOf, CutNode, EmptyNode, DeviateNode}
use Rattle.zr_cases.specs.Forms.{AreCases, AreCounted, IsAmong, IsBoxForm, IsBoxTree, IsCaseForm, IsSomePoint, IsWhole, box_count, case_count, is_forest_by}
use Rattle.zr_cert.specs.Forms.{AreNamed, IsBoundNode, IsCoverNode, IsEmptyNode, IsNamedForm, IsTreeWith}
use Rattle.zr_form.specs.Bounds.{Passes, is_narrow}
use Rattle.zr_form.specs.Reading.{Closes}
use Rattle.zr_form.proofs.Words.{both_true}
use Rattle.zr_lines.specs.declared.ends.Ends.{Ends}
use Rattle.zr_lines.specs.declared.ends.Ends.TheVariants.{Proofs, Refuted, Covered}
use Rattle.zr_lines.specs.Fits.{FitsBox, FitsBoxes, FitsCase, FitsCases, FitsCounting, FitsLeaf, FitsMultiplier, FitsNamed, FitsNamedList, FitsNode, FitsPoint, FitsTree, ascend_from, is_scale, refutes}
use Rattle.zr_lines.proofs.Limits.{above_zero, all_tells, all_told, at_tells, at_told, both, from_one, index_tells, index_told, narrow_tells, narrow_told, scale_tells, scale_told, weight_tells, weight_told, zero_scale_tells, zero_scale_told}

-- two facts of each
pub each_both : {X : Type 0} (P Q R : X → Type 0) → ((x : X) → P x → Q x → R x) → (xs : List X) → AllByRecursion P xs → AllByRecursion Q xs → AllByRecursion R xs
each_both P Q R to [] f g = tt
each_both P Q R to (x ∷ xs) f g = (to x f.0 g.0, each_both P Q R to xs f.1 g.1)

-- ---- points

pub point_told : (x : PointOf) → FitsPoint true x → IsSomePoint x
point_told x f =
    let d = weight_told x.den f.den in
    (f.some, (above_zero x.den d.0, d.1, all_told (Passes (is_narrow true)) IsNarrow narrow_told x.num f.nums))

pub point_tells : (x : PointOf) → IsSomePoint x → FitsPoint true x
point_tells x h = record {
  den = weight_tells x.den (from_one x.den h.1.0, h.1.1);
  some = h.0;
  nums = all_tells IsNarrow (Passes (is_narrow true)) narrow_tells x.num h.1.2;
}

named_told : (item : NamedOf) → FitsNamed true item → IsNamedForm item
named_told (NamedPoint x) f = point_told x f
named_told (NamedRay base dir) f =
    (point_told base f.point, record { len = f.len; narrow = all_told (Passes (is_narrow true)) IsNarrow narrow_told dir f.nums })

named_tells : (item : NamedOf) → IsNamedForm item → FitsNamed true item
named_tells (NamedPoint x) h = point_tells x h
named_tells (NamedRay base dir) h =
    record { point = point_tells base h.0; len = h.1.len; nums = all_tells IsNarrow (Passes (is_narrow true)) narrow_tells dir h.1.narrow }

pub named_list_told : (items : List NamedOf) → FitsNamedList true items → AreNamed items
named_list_told items f = all_told (FitsNamed true) IsNamedForm named_told items f.1

pub named_list_tells : (items : List NamedOf) → AreNamed items → length items < 2 ^ 32 → FitsNamedList true items
named_list_tells items h few = (index_tells (length items) few, all_tells IsNamedForm (FitsNamed true) named_tells items h)

-- ---- whole trees

closes_told : (nodes : List NodeOf) (due : ℕ) → Closes child_count nodes due → is_forest due nodes ≡ true
closes_told [] zero c = refl
closes_told [] (suc due) c = absurd c
closes_told (n ∷ nodes) zero c = absurd c
closes_told (n ∷ nodes) (suc due) c = closes_told nodes (child_count n + due) c

closes_tells : (nodes : List NodeOf) (due : ℕ) → is_forest due nodes ≡ true → Closes child_count nodes due
closes_tells [] zero e = tt
closes_tells [] (suc due) e = absurd cc
closes_tells (n ∷ nodes) zero e = absurd cc
closes_tells (n ∷ nodes) (suc due) e = closes_tells nodes (child_count n + due) e

forest_told : {X : Type 0} (count : X → ℕ) (nodes : List X) (due : ℕ) → Closes count nodes due → is_forest_by count due nodes ≡ true
forest_told count [] zero c = refl
forest_told count [] (suc due) c = absurd c
forest_told count (n ∷ nodes) zero c = absurd c
forest_told count (n ∷ nodes) (suc due) c = forest_told count nodes (count n + due) c

forest_tells : {X : Type 0} (count : X → ℕ) (nodes : List X) (due : ℕ) → is_forest_by count due nodes ≡ true → Closes count nodes due
forest_tells count [] zero e = tt
forest_tells count [] (suc due) e = absurd cc
forest_tells count (n ∷ nodes) zero e = absurd cc
forest_tells count (n ∷ nodes) (suc due) e = forest_tells count nodes (count n + due) e

-- ---- multipliers

abbrev AscendFrom : ℕ → Multipliers → Type 0
AscendFrom least mult = AscendWith (λ z. ((pos 1) ≤ℤ z) × IsNarrow z) least (2 ^ 32) mult

ascend_told : (least : ℕ) (mult : Multipliers) → AllByRecursion (FitsMultiplier true) mult → ascend_from least mult ≡ true → AscendFrom least mult
ascend_told least [] f e = tt
ascend_told least (t ∷ ts) f e =
    let h = both_true (nat_le least t.0) (ascend_from (t.0 + 1) ts) e in
    (leb-true least t.0 h.0, index_told t.0 f.0.0, weight_told t.1 f.0.1, ascend_told (t.0 + 1) ts f.1 h.1)

ascend_tells : (least : ℕ) (mult : Multipliers) → AscendFrom least mult → AllByRecursion (FitsMultiplier true) mult × (ascend_from least mult ≡ true)
ascend_tells least [] h = (tt, refl)
ascend_tells least (t ∷ ts) h =
    let r = ascend_tells (t.0 + 1) ts h.3 in
    (((index_tells t.0 h.1, weight_tells t.1 h.2), r.0), both (nat_le least t.0) (ascend_from (t.0 + 1) ts) (le-leb least t.0 h.0) r.1)

counting_told : (mult : Multipliers) → FitsCounting true mult → AreCounted mult
counting_told mult f = (ascend_told 0 mult f.1.each f.1.ascends, index_told (length mult) f.0)

counting_tells : (mult : Multipliers) → AreCounted mult → FitsCounting true mult
counting_tells mult h =
    let a = ascend_tells 0 mult h.0 in
    (index_tells (length mult) h.1, record { length = refl; each = a.0; ascends = a.1 })

-- ---- trees

form_told : (ends : Ends) (n : NodeOf) → FitsNode true ends n → IsNodeForm n
form_told ends (SplitNode v at) f = at_told at f.1
form_told ends (ChooseNode p) f = tt
form_told ends (ProofNode scale mult) f = let h = scale_told (refutes ends) scale f.scale in (h.0, h.1, ascend_told 0 mult f.each f.ascends)
form_told ends (KnownNode x) f = tt
form_told ends LooseNode f = tt

pub bound_node_told : (n : NodeOf) → FitsNode true Proofs n → IsBoundNode n
bound_node_told (SplitNode v at) f = index_told v f.0
bound_node_told (ChooseNode p) f = index_told p f
bound_node_told (ProofNode scale mult) f = index_told (length mult) f.count
bound_node_told (KnownNode x) f = absurd (let e = f.0 in cc)
bound_node_told LooseNode f = absurd cc

pub empty_node_told : (n : NodeOf) → FitsNode true Refuted n → IsEmptyNode n
empty_node_told (SplitNode v at) f = index_told v f.0
empty_node_told (ChooseNode p) f = index_told p f
empty_node_told (ProofNode scale mult) f = (zero_scale_told scale f.scale, index_told (length mult) f.count)
empty_node_told (KnownNode x) f = absurd (let e = f.0 in cc)
empty_node_told LooseNode f = absurd cc

pub cover_node_told : (n : NodeOf) → FitsNode true Covered n → IsCoverNode n
cover_node_told (SplitNode v at) f = index_told v f.0
cover_node_told (ChooseNode p) f = index_told p f
cover_node_told (ProofNode scale mult) f = (zero_scale_told scale f.scale, index_told (length mult) f.count)
cover_node_told (KnownNode x) f = point_told x f.1
cover_node_told LooseNode f = tt

leaf_tells : (refuting : Bool) (scale : ℤ) (mult : Multipliers) → Passes (is_scale true refuting) scale → IsNodeForm (ProofNode scale mult) → length mult < 2 ^ 32 → FitsLeaf true refuting scale mult
leaf_tells refuting scale mult s h few = let a = ascend_tells 0 mult h.2 in record { scale = s; count = index_tells (length mult) few; each = a.0; ascends = a.1 }

pub bound_node_tells : (n : NodeOf) → IsNodeForm n → IsBoundNode n → FitsNode true Proofs n
bound_node_tells (SplitNode v at) h i = (index_tells v i, at_tells at h.0 h.1)
bound_node_tells (ChooseNode p) h i = index_tells p i
bound_node_tells (ProofNode scale mult) h i = leaf_tells false scale mult (scale_tells scale h.0 h.1) h i
bound_node_tells (KnownNode x) h i = absurd i
bound_node_tells LooseNode h i = absurd i

pub empty_node_tells : (n : NodeOf) → IsNodeForm n → IsEmptyNode n → FitsNode true Refuted n
empty_node_tells (SplitNode v at) h i = (index_tells v i, at_tells at h.0 h.1)
empty_node_tells (ChooseNode p) h i = index_tells p i
empty_node_tells (ProofNode scale mult) h i = leaf_tells true scale mult (zero_scale_tells scale i.0) h i.1
empty_node_tells (KnownNode x) h i = absurd i
empty_node_tells LooseNode h i = absurd i

pub cover_node_tells : (n : NodeOf) → IsNodeForm n → IsCoverNode n → FitsNode true Covered n
cover_node_tells (SplitNode v at) h i = (index_tells v i, at_tells at h.0 h.1)
cover_node_tells (ChooseNode p) h i = index_tells p i
cover_node_tells (ProofNode scale mult) h i = leaf_tells true scale mult (zero_scale_tells scale i.0) h i.1
cover_node_tells (KnownNode x) h i = (refl, point_tells x i)
cover_node_tells LooseNode h i = refl

pub tree_told : (ends : Ends) (IsIn : NodeOf → Type 0) → ((n : NodeOf) → FitsNode true ends n → IsIn n) → (nodes : List NodeOf) → FitsTree true ends nodes → length nodes < 2 ^ 32 → IsTreeWith IsIn nodes
tree_told ends IsIn to nodes f few = record {
  whole = record { whole = closes_told nodes 1 f.0; few = few; forms = all_told (FitsNode true ends) IsNodeForm (form_told ends) nodes f.1 };
  each = all_told (FitsNode true ends) IsIn to nodes f.1;
}

pub tree_tells : (ends : Ends) (IsIn : NodeOf → Type 0) → ((n : NodeOf) → IsNodeForm n → IsIn n → FitsNode true ends n) → (nodes : List NodeOf) → IsTreeWith IsIn nodes → FitsTree true ends nodes
tree_tells ends IsIn to nodes h =
    (closes_tells nodes 1 h.whole.whole, each_both IsNodeForm IsIn (FitsNode true ends) to nodes (recursion_from_All IsNodeForm nodes h.whole.forms) (recursion_from_All IsIn nodes h.each))

-- ---- refutations

case_told : (players : ℕ) → players < 2 ^ 32 → (n : RNodeOf) → FitsCase true players n → IsCaseForm n
case_told players few (OnOffNode i k) f = (index_told i f.0, index_told k f.1)
case_told players few (RowNode i k slot) f = ((index_told i f.0, index_told k f.1.0), index_told slot f.1.1)
case_told players few (WhichNode i) f = let h : i < players = ltb-true i players f in omega arith
case_told players few (CloseNode mult) f = counting_told mult f

among_told : (players : ℕ) (n : RNodeOf) → FitsCase true players n → IsAmong players n
among_told players (OnOffNode i k) f = tt
among_told players (RowNode i k slot) f = tt
among_told players (WhichNode i) f = ltb-true i players f
among_told players (CloseNode mult) f = tt

case_tells : (players : ℕ) (n : RNodeOf) → IsCaseForm n → IsAmong players n → FitsCase true players n
case_tells players (OnOffNode i k) h a = (index_tells i h.0, index_tells k h.1)
case_tells players (RowNode i k slot) h a = (index_tells i h.0.0, (index_tells k h.0.1, index_tells slot h.1))
case_tells players (WhichNode i) h a = lt-ltb i players a
case_tells players (CloseNode mult) h a = counting_tells mult h

pub cases_told : (leaves : List ℕ) (nodes : List RNodeOf) → length leaves < 2 ^ 32 → FitsCases true leaves nodes → length nodes < 2 ^ 32 → AreCases nodes × IsWhole leaves nodes
cases_told leaves nodes players f few = (
  record { few = few; forms = all_told (FitsCase true (length leaves)) IsCaseForm (case_told (length leaves) players) nodes f.1 },
  record { whole = forest_told (case_count leaves) nodes 1 f.0; players = all_told (FitsCase true (length leaves)) (IsAmong (length leaves)) (among_told (length leaves)) nodes f.1 },
)

pub cases_tells : (leaves : List ℕ) (nodes : List RNodeOf) → AreCases nodes → IsWhole leaves nodes → FitsCases true leaves nodes
cases_tells leaves nodes h w =
    (forest_tells (case_count leaves) nodes 1 w.whole, each_both IsCaseForm (IsAmong (length leaves)) (FitsCase true (length leaves)) (case_tells (length leaves)) nodes (recursion_from_All IsCaseForm nodes h.forms) (recursion_from_All (IsAmong (length leaves)) nodes w.players))

-- ---- box trees

box_told : (n : BNodeOf) → FitsBox true n → IsBoxForm n
box_told (CutNode i v at) f = ((index_told i f.0, index_told v f.1.0), at_told at f.1.1)
box_told (EmptyNode i mult) f = (index_told i f.0, counting_told mult f.1)
box_told (DeviateNode i x) f = (index_told i f.0, point_told x f.1)

box_tells : (n : BNodeOf) → IsBoxForm n → FitsBox true n
box_tells (CutNode i v at) h = (index_tells i h.0.0, (index_tells v h.0.1, at_tells at h.1.0 h.1.1))
box_tells (EmptyNode i mult) h = (index_tells i h.0, counting_tells mult h.1)
box_tells (DeviateNode i x) h = (index_tells i h.0, point_tells x h.1)

pub boxes_told : (nodes : List BNodeOf) → FitsBoxes true nodes → length nodes < 2 ^ 32 → IsBoxTree nodes
boxes_told nodes f few = record { whole = forest_told box_count nodes 1 f.0; few = few; forms = all_told (FitsBox true) IsBoxForm box_told nodes f.1 }

pub boxes_tells : (nodes : List BNodeOf) → IsBoxTree nodes → FitsBoxes true nodes
boxes_tells nodes h = (forest_tells box_count nodes 1 h.whole, all_tells IsBoxForm (FitsBox true) box_tells nodes h.forms)
