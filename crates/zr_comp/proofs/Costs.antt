-- What cases cost, and what purses have left.
use Rattle.std.proofs.Common.{◌≡◌, ℕ, zero, suc, ◌+◌, ◌-◌, ◌*◌, ◌<◌, ◌≤◌, arith, refl, ap, ◌∙◌, List, ◌++◌, length, length-append}
use Rattle.zr_io.specs.declared.purse.Purse.{Purse}
use Rattle.zr_io.specs.Purses.{counted}
use Rattle.zr_game.specs.Players.{GameOf}
use Rattle.zr_game.specs.declared.choice.Choice.{Choice}
use Rattle.zr_game.specs.declared.kind.Kind.{Kind}
use Rattle.zr_branch.specs.Replies.{CountsPivotsAlone}
use Rattle.zr_system.specs.Regions.{LeavesOf, leaf_count}
use Rattle.zr_refute.specs.Walks.{children, whiches}
use Rattle.zr_comp.specs.declared.case.Case.{Case}
use Rattle.zr_comp.specs.declared.case.Case.TheVariants as ACase
use Rattle.zr_comp.specs.Cases.{IsCase, PlayerExists, case_node, case_price}
use Rattle.zr_comp.specs.OpenCases.{which_units}
use Rattle.zr_comp.specs.Spending.{SpendsBranches, SpendsUpTo}

whiches_count : (path : List Choice) (i j n : ℕ) → length (whiches path i j n) ≡ n
whiches_count path i j zero = refl
whiches_count path i j (suc n) = let r = whiches_count path i (suc j) n in omega (arith, r)

units_enough : (n : ℕ) → n ≤ 2 * which_units n
units_enough zero = omega arith
units_enough (suc zero) = omega arith
units_enough (suc (suc n)) = omega arith

-- a case costs half as many units as it has choices, or more
pub few_children : (leaves : LeavesOf) (path : List Choice) (case : Case)
    → length (children leaves path (case_node case)) ≤ 2 * case_price leaves case
few_children leaves path (ACase.Leaf i k) = omega arith
few_children leaves path (ACase.Slot i k s) = omega arith
few_children leaves path (ACase.Player i) =
    let n = whiches_count path i 0 (leaf_count leaves i) in
    let u = units_enough (leaf_count leaves i) in
    omega (arith, n, u)

-- the player of a case that may be made exists
pub case_player : (game : GameOf) (leaves : LeavesOf) (kind : Kind) (path : List Choice)
    (case : Case) → IsCase game leaves kind path case → PlayerExists game case
case_player game leaves kind path (ACase.Leaf i k) is = is.1.0.0
case_player game leaves kind path (ACase.Slot i k s) is = is.0.0.0
case_player game leaves kind path (ACase.Player i) is = is.1

pub counts_on : (a b c : Purse) → SpendsBranches a b → CountsPivotsAlone b c → SpendsBranches a c
counts_on a b c p q = record {
  limit = q.limit ∙ p.limit;
  cuts = q.cuts ∙ p.cuts;
  pivots = (let x = p.pivots in let y = q.pivots in omega (arith, x, y));
  branches = (let x = p.branches in let y = q.branches in omega (arith, x, y));
}

pub spends_on : (a b c : Purse) → SpendsBranches a b → SpendsBranches b c → SpendsBranches a c
spends_on a b c p q = record {
  limit = q.limit ∙ p.limit;
  cuts = q.cuts ∙ p.cuts;
  pivots = (let x = p.pivots in let y = q.pivots in omega (arith, x, y));
  branches = (let x = p.branches in let y = q.branches in omega (arith, x, y));
}

-- so many more than before
pub so_many_more : (a b c p : ℕ) → a ≤ b → c ≡ b + p → c - a ≡ (b - a) + p
so_many_more a b c p h e = omega (arith, h, e)

-- a case that was paid for leaves less to do than its path did
pub less_left : (old mid new : Purse) (price count rest : ℕ) → CountsPivotsAlone old mid
    → SpendsUpTo mid new price → new.branches ≡ mid.branches + price → count ≤ 2 * price
    → 2 * (new.limit - counted new) + (count + rest)
    < 2 * (old.limit - counted old) + suc rest
less_left old mid new price count rest p t paid few =
    let a = p.limit in
    let b = p.branches in
    let d = p.cuts in
    let e = t.alone.limit in
    let f = t.alone.cuts in
    let w = new.within in
    omega (arith, a, b, d, e, f, w, paid, few)
