-- Points, directions and proofs that are drawn from the bases of branches' questions.
use Rattle.std.specs.Prelude.{◌≡◌, ◌≢◌, ℕ, suc, ◌+◌, ◌<◌, ◌≤◌, ◌==◌, ℤ, pos, neg_ℤ, ◌*ℤ◌, unsigned_abs, if◌then◌else◌, Option, Some, None, List, [], ◌∷◌, ◌++◌, map, length, slice_index_or}
use Rattle.std.specs.Int.{◌∣◌}
use Rattle.zr_base.specs.Points.{PointOf, num_of}
use Rattle.zr_base.specs.Sums.{sum_to}
use Rattle.zr_base.specs.Terms.{coef_at}
use Rattle.zr_game.specs.Players.{PlayerOf}
use Rattle.zr_game.specs.Leaves.{Bound, LeafOf, slots}
use Rattle.zr_game.specs.Rays.{Direction, change_of}
use Rattle.zr_basis.specs.Programs.{Program}
use Rattle.zr_basis.specs.BasicForms.{IsBasicDirection, IsBasicForm, IsBasicSolution, value_column}
use Rattle.zr_simplex.specs.Programs.{numbers}
use Rattle.zr_tree.specs.Nodes.{Multipliers, SplitNode, ChooseNode, ProofNode, KnownNode, LooseNode}
use Rattle.zr_tree.specs.Right.{EndRule}
use Rattle.zr_asked.specs.declared.question.Move.{Move}
use Rattle.zr_asked.specs.Branches.{branch_program}
use Rattle.zr_asked.specs.Parts.{parts_of, value_by}
use Rattle.zr_asked.specs.Paths.{IsOpenPath, branch}
use Rattle.zr_asked.specs.Stuck.{Aims}

-- x is a basic solution of a branch's question: each variable has what its columns give
pub record IsBranchSolution (player : PlayerOf) (leaf : LeafOf) (aim : ℕ → ℤ)
    (x : PointOf) : Type 0 where
  pub basis : ℕ → ℕ
  pub form : ℕ → ℕ → ℤ
  pub columns : ℕ → ℤ
  pub is_form : IsBasicForm (branch_program player leaf aim) basis form
  pub solution : IsBasicSolution (branch_program player leaf aim) basis form columns x.den
  pub len : length x.num ≡ length player.vars
  pub values : (v : ℕ) → v < length player.vars
      → num_of x v ≡ value_by (parts_of player.vars) columns v

-- dir is a basic direction of it
pub record IsBranchDirection (player : PlayerOf) (leaf : LeafOf) (aim : ℕ → ℤ)
    (dir : Direction) : Type 0 where
  pub basis : ℕ → ℕ
  pub form : ℕ → ℕ → ℤ
  pub column : ℕ
  pub columns : ℕ → ℤ
  pub raise : ℤ
  pub is_form : IsBasicForm (branch_program player leaf aim) basis form
  pub direction : IsBasicDirection (branch_program player leaf aim) basis form column columns raise
  pub len : length dir ≡ length player.vars
  pub values : (v : ℕ) → v < length player.vars
      → change_of dir v ≡ value_by (parts_of player.vars) columns v

-- a basic solution of a question with one of these aims, of a branch to which an open path leads
pub record IsDrawnPoint (player : PlayerOf) (MayAsk : Aims) (x : PointOf) : Type 0 where
  pub path : List Move
  pub path_is : IsOpenPath player path
  pub aim : List ℤ
  pub asked : MayAsk aim
  pub solution : IsBranchSolution player (branch player path) (numbers aim) x

pub record IsDrawnRay (player : PlayerOf) (MayAsk : Aims) (dir : Direction) : Type 0 where
  pub path : List Move
  pub path_is : IsOpenPath player path
  pub aim : List ℤ
  pub asked : MayAsk aim
  pub direction : IsBranchDirection player (branch player path) (numbers aim) dir

-- the numbers, from k on, of the slots that are present
abbrev pub places_from : ℕ → List (Option Bound) → List ℕ
places_from k [] = []
places_from k (None ∷ slots) = places_from (suc k) slots
places_from k (Some row ∷ slots) = k ∷ places_from (suc k) slots

-- the slot for which a column of a branch's program stands: the part of a variable for its lower
-- bound, and the slack of a row for the slot that is this row
abbrev pub column_slots : PlayerOf → LeafOf → List ℕ
column_slots player leaf =
    map (λ part. length player.rows + part.0 + part.0) (parts_of player.vars)
    ++ places_from 0 (slots player leaf)

-- the sum of an equation's numbers at the first n columns of those that stand for slot k
abbrev pub slot_number : List ℕ → ℕ → (ℕ → ℤ) → ℕ → ℤ
slot_number slots n e k =
    sum_to n (λ c. if slice_index_or slots c 0 == k then e c else pos 0)

-- up to a factor, the scale is the equation's number at the value, negated, and the multiplier of
-- each slot the sum of those at the columns that stand for it
pub record IsInProportion (slots : List ℕ) (p : Program) (e : ℕ → ℤ) (scale : ℤ)
    (mult : Multipliers) : Type 0 where
  pub by : ℤ
  pub of : ℤ
  pub by_apart : by ≢ pos 0
  pub of_apart : of ≢ pos 0
  pub value : by *ℤ scale ≡ of *ℤ neg_ℤ (e (value_column p))
  pub slots_are : (k : ℕ)
      → by *ℤ coef_at mult k ≡ of *ℤ slot_number slots (value_column p) e k

-- no divisor above 1 is common to the scale and the multipliers
abbrev pub HasNoDivisor : ℤ → Multipliers → Type 0
HasNoDivisor scale mult =
    (d : ℕ) → d ∣ unsigned_abs scale → ((k : ℕ) → d ∣ unsigned_abs (coef_at mult k)) → d ≡ 1

-- scale and multipliers are in proportion to one equation of the basic form of a basis of the
-- branch's question, and have no common divisor
pub record IsDrawnProof (player : PlayerOf) (leaf : LeafOf) (aim : ℕ → ℤ) (scale : ℤ)
    (mult : Multipliers) : Type 0 where
  pub basis : ℕ → ℕ
  pub form : ℕ → ℕ → ℤ
  pub row : ℕ
  pub is_form : IsBasicForm (branch_program player leaf aim) basis form
  pub below : row ≤ (branch_program player leaf aim).rows
  pub proportion : IsInProportion (column_slots player leaf) (branch_program player leaf aim)
      (form row) scale mult
  pub divisors : HasNoDivisor scale mult

-- an end's proof is drawn from a question with one of these aims, and its point is a basic solution
-- of one
abbrev pub IsDrawnEnd : PlayerOf → Aims → EndRule
IsDrawnEnd player MayAsk leaf (SplitNode v at) = ⊥
IsDrawnEnd player MayAsk leaf (ChooseNode p) = ⊥
IsDrawnEnd player MayAsk leaf (ProofNode scale mult) =
    (aim : List ℤ) × MayAsk aim × IsDrawnProof player leaf (numbers aim) scale mult
IsDrawnEnd player MayAsk leaf (KnownNode x) =
    (aim : List ℤ) × MayAsk aim × IsBranchSolution player leaf (numbers aim) x
IsDrawnEnd player MayAsk leaf LooseNode = Unit {0}
