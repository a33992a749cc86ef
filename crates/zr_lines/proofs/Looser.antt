-- What fits within the upper bounds fits without them.
use Rattle.std.proofs.Common.{◌≡◌, ℕ, Bool, true, false, List, [], ◌∷◌, length, refl, ℤ, pos}
use Rattle.std.specs.Prelude.{◌&&◌, int_le}
use Rattle.std.specs.List.{AllByRecursion}
use Rattle.zr_base.specs.Points.{PointOf}
use Rattle.zr_game.specs.Named.{NamedOf, NamedPoint, NamedRay}
use Rattle.zr_tree.specs.Nodes.{Multipliers, NodeOf, SplitNode, ChooseNode, ProofNode, KnownNode, LooseNode}
use Rattle.zr_cases.specs.Cases.{RNodeOf, OnOffNode, RowNode, WhichNode, CloseNode, BNodeOf, CutNode, EmptyNode, DeviateNode}
use Rattle.zr_form.specs.Bounds.{Passes, is_narrow, is_positive}
use Rattle.zr_lines.specs.declared.ends.Ends.{Ends}
use Rattle.zr_lines.specs.Fits.{FitsBox, FitsBoxes, FitsCase, FitsCases, FitsCounting, FitsMultiplier, FitsNamed, FitsNamedList, FitsNode, FitsPoint, FitsTree}

pub second : (a b : Bool) → (a && b) ≡ true → b ≡ true
second true b e = e
second false b e = absurd cc

-- what holds of each goes over to each
pub each : {X : Type 0} (P Q : X → Type 0) → ((x : X) → P x → Q x) → (xs : List X) → AllByRecursion P xs → AllByRecursion Q xs
each P Q to [] f = tt
each P Q to (x ∷ xs) f = (to x f.0, each P Q to xs f.1)

pub positive : (z : ℤ) → Passes (is_positive true) z → Passes (is_positive false) z
positive z f = second (is_narrow true z) (int_le (pos 1) z) f

numbers : (nums : List ℤ) → AllByRecursion (Passes (is_narrow true)) nums → AllByRecursion (Passes (is_narrow false)) nums
numbers nums f = each (Passes (is_narrow true)) (Passes (is_narrow false)) (λ z g. refl) nums f

pub point : (x : PointOf) → FitsPoint true x → FitsPoint false x
point x f = record { den = positive x.den f.den; some = f.some; nums = numbers x.num f.nums }

pub named : (item : NamedOf) → FitsNamed true item → FitsNamed false item
named (NamedPoint x) f = point x f
named (NamedRay base dir) f = record { point = point base f.point; len = f.len; nums = numbers dir f.nums }

pub named_list : (items : List NamedOf) → FitsNamedList true items → FitsNamedList false items
named_list items f = (refl, each (FitsNamed true) (FitsNamed false) named items f.1)

multiplier : (t : ℕ × ℤ) → FitsMultiplier true t → FitsMultiplier false t
multiplier t f = (refl, positive t.1 f.1)

counting : (mult : Multipliers) → FitsCounting true mult → FitsCounting false mult
counting mult f = (refl, record { length = refl; each = each (FitsMultiplier true) (FitsMultiplier false) multiplier mult f.1.each; ascends = f.1.ascends })

pub node : (ends : Ends) (n : NodeOf) → FitsNode true ends n → FitsNode false ends n
node ends (SplitNode v at) f = (refl, refl)
node ends (ChooseNode p) f = refl
node ends (ProofNode scale mult) f = record { scale = second _ _ f.scale; count = refl; each = each (FitsMultiplier true) (FitsMultiplier false) multiplier mult f.each; ascends = f.ascends }
node ends (KnownNode x) f = (f.0, point x f.1)
node ends LooseNode f = f

pub tree : (ends : Ends) (nodes : List NodeOf) → FitsTree true ends nodes → FitsTree false ends nodes
tree ends nodes f = (f.0, each (FitsNode true ends) (FitsNode false ends) (node ends) nodes f.1)

pub case : (players : ℕ) (n : RNodeOf) → FitsCase true players n → FitsCase false players n
case players (OnOffNode i k) f = (refl, refl)
case players (RowNode i k slot) f = (refl, (refl, refl))
case players (WhichNode i) f = f
case players (CloseNode mult) f = counting mult f

pub cases : (leaves : List ℕ) (nodes : List RNodeOf) → FitsCases true leaves nodes → FitsCases false leaves nodes
cases leaves nodes f = (f.0, each (FitsCase true (length leaves)) (FitsCase false (length leaves)) (case (length leaves)) nodes f.1)

pub box_node : (n : BNodeOf) → FitsBox true n → FitsBox false n
box_node (CutNode i v at) f = (refl, (refl, refl))
box_node (EmptyNode i mult) f = (refl, counting mult f.1)
box_node (DeviateNode i x) f = (refl, point x f.1)

pub boxes : (nodes : List BNodeOf) → FitsBoxes true nodes → FitsBoxes false nodes
boxes nodes f = (f.0, each (FitsBox true) (FitsBox false) box_node nodes f.1)
