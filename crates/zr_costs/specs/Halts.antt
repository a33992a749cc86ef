-- What the helpers give.
use Rattle.std.specs.Prelude.{◌≡◌, ℕ, ◌+◌, ◌-◌, ◌*◌, ◌≤◌, ℤ, Result, Ok, Err, List, length}
use Rattle.zr_base.specs.declared.step.Wide.{Wide}
use Rattle.zr_base.specs.Fractions.{Fraction}
use Rattle.zr_io.specs.declared.purse.Purse.{Purse}
use Rattle.zr_game.specs.Players.{GameOf, PlayerOf}
use Rattle.zr_game.specs.Profiles.{Profile}
use Rattle.zr_bnb.specs.declared.answer.BnbStop.{BnbStop}
use Rattle.zr_bnb.specs.declared.answer.BnbStop.TheVariants as ABnb
use Rattle.zr_bnb.specs.declared.answer.LeastAnswer.{LeastAnswer}
use Rattle.zr_bnb.specs.declared.answer.LeastAnswer.TheVariants.{At, Below, Empty}
use Rattle.zr_cert.specs.declared.cert.Bound.{Bound}
use Rattle.zr_cert.specs.Certs.{bound_of, nodes_of}
use Rattle.zr_cert.specs.Forms.{IsBoundForm}
use Rattle.zr_check.specs.Bounds.{cost_steps}
use Rattle.zr_check.specs.Right.{IsRightBound}
use Rattle.zr_costs.specs.Drawn.{IsDrawnBound}
use Rattle.zr_costs.specs.declared.claim.Paid.{Paid}
use Rattle.zr_costs.specs.declared.stop.CostStop.{CostStop}
use Rattle.zr_costs.specs.declared.stop.CostStop.TheVariants as AStop
use Rattle.zr_costs.specs.declared.stop.Halt.{Halt}
use Rattle.zr_costs.specs.declared.stop.Halt.TheVariants as AHalt

-- the steps have no result: this one is too wide
abbrev pub IsHalt : {A : Type 0} → Result A Wide → Halt → Type 0
IsHalt made AHalt.NoMemory = Unit {0}
IsHalt made (AHalt.Wide w) = made ≡ Err w

-- the cost of player i and the left side of its claim, as they are made at these means
abbrev pub IsPaid : GameOf → ℕ → PlayerOf → List Fraction → Paid → Type 0
IsPaid game i player means paid =
    (right : ℤ) × (cost_steps game player i means ≡ Ok (paid.cost, (paid.left.items, right)))

-- a point with the least value was found
abbrev pub HasLeast : LeastAnswer → Type 0
HasLeast (At point value tree) = Unit {0}
HasLeast (Empty tree) = ⊥
HasLeast (Below base dir) = ⊥

-- the cost, with the tree of what was found
abbrev pub IsBoundBy : Fraction → LeastAnswer → Bound → Type 0
IsBoundBy cost (At point value tree) bound = (bound.cost ≡ cost) × (bound.tree ≡ tree)
IsBoundBy cost (Empty tree) bound = ⊥
IsBoundBy cost (Below base dir) bound = ⊥

-- the search stopped, but at no product
abbrev pub IsPlainStop : BnbStop → Type 0
IsPlainStop ABnb.Spent = Unit {0}
IsPlainStop (ABnb.Wide asked) = Unit {0}
IsPlainStop (ABnb.WideAim wide) = ⊥
IsPlainStop (ABnb.Endless var dir) = Unit {0}
IsPlainStop ABnb.NoMemory = Unit {0}

-- the stop of player i's bound, whose search stopped so
abbrev pub IsStopFor : ℕ → BnbStop → CostStop → Type 0
IsStopFor i ABnb.Spent stop = stop ≡ AStop.Spent
IsStopFor i (ABnb.Wide asked) stop = stop ≡ AStop.Wide asked
IsStopFor i (ABnb.WideAim wide) stop = ⊥
IsStopFor i (ABnb.Endless var dir) stop = stop ≡ AStop.Endless i var dir
IsStopFor i ABnb.NoMemory stop = stop ≡ AStop.NoMemory

-- a right bound of player i, in its form, whose tree is drawn and has at most one node more than
-- twice the branches that were spent
pub record IsBoundMade (player : PlayerOf) (i : ℕ) (profile : Profile) (old new : Purse)
    (bound : Bound) : Type 0 where
  pub right : IsRightBound player i profile (bound_of bound)
  pub form : IsBoundForm (bound_of bound)
  pub drawn : IsDrawnBound player i profile (bound_of bound)
  pub few : length (nodes_of bound.tree) ≤ 1 + 2 * (new.branches - old.branches)
