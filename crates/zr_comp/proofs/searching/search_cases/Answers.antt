use Rattle.std.proofs.Common.{◌≡◌, ◌+◌, ◌-◌, ◌*◌, ◌<◌, ◌≤◌, arith, refl, sym, ap, ◌∙◌, subst, true, ℕ, List, [], ◌∷◌, ◌++◌, length, length-append, map}
use Rattle.zr_io.specs.declared.purse.Purse.{Purse}
use Rattle.zr_io.specs.Purses.{counted}
use Rattle.zr_game.specs.Games.{game_of}
use Rattle.zr_game.specs.declared.choice.Choice.{Choice}
use Rattle.zr_branch.specs.Replies.{CountsPivotsAlone}
use Rattle.zr_cases.specs.Cases.{RNodeOf, rnode_of}
use Rattle.zr_system.specs.Regions.{leaves_of}
use Rattle.zr_refute.specs.Walks.{children}
use Rattle.zr_comp.specs.Cases.{case_node, case_price, due_paths}
use Rattle.zr_comp.specs.Causes.{SpendsCases}
use Rattle.zr_comp.specs.Spending.{SpendsBranches, SpendsUpTo}
use Rattle.zr_comp.proofs.Costs.{case_player, counts_on, few_children, less_left, so_many_more, spends_on}
use Rattle.zr_comp.proofs.Few.{few_columns}
use Rattle.zr_comp.proofs.Growing.{IsGrowing, cases_at_end, close_one, grown_at_end, growing_at_start, more_cases, spends_cases, split_one}
use Rattle.zr_comp.proofs.searching.search_cases.Goals as goal
use Rattle.zr_comp.proofs.searching.search_cases.Goals.{In-Some}

pub paths-init : goal.paths-init
paths-init c =
    let z : c.args.purse.now.branches - c.args.purse.now.branches ≡ 0 = omega arith in
    record {
      growing = rw (
        z,
        c.new-nodes.ensures.items,
        c.in-Ok.ensures,
        c.new.ensures.items,
        c.new-due.ensures.items,
      )
          (growing_at_start (game_of c.args.game.now) (leaves_of c.args.leaves.now) c.args.kind);
      spends = record { limit = refl; cuts = refl; pivots = omega arith; branches = omega arith };
    }

pub returns-in_default-clause-spends : goal.returns-in_default-clause-spends
returns-in_default-clause-spends c =
    let game = game_of c.args.game.now in
    let leaves = leaves_of c.args.leaves.now in
    spends_cases game leaves c.args.kind [] ([] ∷ []) 0 c.args.purse.now c.args.purse.now
    (growing_at_start game leaves c.args.kind)
    (record { limit = refl; cuts = refl; pivots = omega arith; branches = omega arith })
    (omega arith)

module _ (c : In-Some) where
  abbrev spent : ℕ
  spent = c.paths.purse.branches - c.args.purse.now.branches

  pub growing : IsGrowing (game_of c.args.game.now) (leaves_of c.args.leaves.now) c.args.kind
      (map rnode_of c.paths.nodes.items) (c.in-Some.path.items ∷ due_paths c.take_next.new.due.items)
      spent
  growing =
      subst (λ (ps : List (List Choice)). IsGrowing (game_of c.args.game.now)
      (leaves_of c.args.leaves.now) c.args.kind (map rnode_of c.paths.nodes.items) ps spent)
      c.in-Some.ensures c.paths.invariant.growing

  -- what the cases so far spend
  pub work_after : (new : Purse) → CountsPivotsAlone c.paths.purse new
      → SpendsCases (game_of c.args.game.now) (leaves_of c.args.leaves.now) c.args.kind
      c.args.purse.now new
  work_after new p =
      let s = counts_on c.args.purse.now c.paths.purse new c.paths.invariant.spends p in
      let b = p.branches in
      let o = s.branches in
      spends_cases (game_of c.args.game.now) (leaves_of c.args.leaves.now) c.args.kind
      (map rnode_of c.paths.nodes.items) (c.in-Some.path.items ∷ due_paths c.take_next.new.due.items)
      spent c.args.purse.now new growing s (omega (arith, b, o))

pub visit-requires-clause-columns : goal.visit-requires-clause-columns
visit-requires-clause-columns c =
    let e = few_columns (game_of c.args.game.now) (leaves_of c.args.leaves.now) 16777216
    c.requires.cells in
    omega (arith, e)

pub visit-requires-clause-path : goal.visit-requires-clause-path
visit-requires-clause-path c =
    let at = (goal.at.visit-requires-clause-path c).In-Some in
    rw c.deref.ensures.value (growing at).due.0

pub returns-in-Err-clause-cause : goal.returns-in-Err-clause-cause
returns-in-Err-clause-cause c = c.in-Err.ensures.cause c.args.purse.now c.visit.new.purse

pub returns-in-Err-clause-spends : goal.returns-in-Err-clause-spends
returns-in-Err-clause-spends c =
    work_after (goal.at.returns-in-Err-clause-spends c).In-Some c.visit.new.purse
    c.in-Err.ensures.purse

pub returns-in-Ok-Solved-clause-found : goal.returns-in-Ok-Solved-clause-found
returns-in-Ok-Solved-clause-found c =
    rw c.in-Ok-Solved.field-0-is at c.in-Ok-Solved.ensures.fate

pub returns-in-Ok-Solved-clause-spends : goal.returns-in-Ok-Solved-clause-spends
returns-in-Ok-Solved-clause-spends c =
    work_after (goal.at.returns-in-Ok-Solved-clause-spends c).In-Some c.visit.new.purse
    c.in-Ok-Solved.ensures.purse

pub paths-preserved-in-Ok-Closed : goal.paths-preserved-in-Ok-Closed
paths-preserved-in-Ok-Closed c =
    let at = (goal.at.paths-preserved-in-Ok-Closed c).In-Some in
    let purse = c.in-Ok-Closed.ensures.purse in
    let fate = rw (c.in-Ok-Closed.field-0-is, c.deref.ensures.value) at
    c.in-Ok-Closed.ensures.fate in
    record {
      growing = rw (c.in-Ok-push_node.ensures, purse.branches)
          (close_one (game_of c.args.game.now) (leaves_of c.args.leaves.now) c.args.kind
          (map rnode_of c.paths.nodes.items) c.in-Some.path.items
          (due_paths c.take_next.new.due.items)
          (spent at) (growing at) c.in-Ok-Closed.mult.items fate);
      spends = counts_on c.args.purse.now c.paths.purse c.visit.new.purse
          c.paths.invariant.spends purse;
    }

pub returns-in_default-push_node-clause-spends : goal.returns-in_default-push_node-clause-spends
returns-in_default-push_node-clause-spends c =
    work_after (goal.at.returns-in_default-push_node-clause-spends c).In-Some c.visit.new.purse
    c.in-Ok-Closed.ensures.purse

pub divide-requires-clause-case : goal.divide-requires-clause-case
divide-requires-clause-case c =
    let fate = rw (c.in-Ok-Divided.field-0-is, c.deref.ensures.value) at
    c.in-Ok-Divided.ensures.fate in
    case_player (game_of c.args.game.now) (leaves_of c.args.leaves.now) c.args.kind
    c.in-Some.path.items c.in-Ok-Divided.case fate.1

pub price-requires-clause-case : goal.price-requires-clause-case
price-requires-clause-case c =
    let fate = rw (c.in-Ok-Divided.field-0-is, c.deref.ensures.value) at
    c.in-Ok-Divided.ensures.fate in
    case_player (game_of c.args.game.now) (leaves_of c.args.leaves.now) c.args.kind
    c.in-Some.path.items c.in-Ok-Divided.case fate.1

pub returns-in_default-divide-clause-spends : goal.returns-in_default-divide-clause-spends
returns-in_default-divide-clause-spends c =
    work_after (goal.at.returns-in_default-divide-clause-spends c).In-Some c.visit.new.purse
    c.in-Ok-Divided.ensures.purse

-- the purse is full: there are more units than it had left
full_more : (old at mid new : Purse) (price : ℕ) → SpendsBranches old at → CountsPivotsAlone at mid
    → SpendsUpTo mid new price → counted new ≡ new.limit → new.branches < mid.branches + price
    → old.limit < counted old + ((at.branches - old.branches) + price)
full_more old at mid new price s p t full less =
    let a = s.limit in
    let b = s.cuts in
    let d = s.branches in
    let e = p.limit in
    let f = p.cuts in
    let g = p.branches in
    let h = t.alone.limit in
    let i = t.alone.cuts in
    omega (arith, a, b, d, e, f, g, h, i, full, less)

pub returns-in_default-pay-clause-cause : goal.returns-in_default-pay-clause-cause
returns-in_default-pay-clause-cause c =
    let at = (goal.at.returns-in_default-pay-clause-cause c).In-Some in
    let game = game_of c.args.game.now in
    let leaves = leaves_of c.args.leaves.now in
    let case = c.in-Ok-Divided.case in
    let fate = rw (c.in-Ok-Divided.field-0-is, c.deref.ensures.value) at
    c.in-Ok-Divided.ensures.fate in
    let err = c.in_default-pay.ensures.err in (
      err.0,
      more_cases game leaves c.args.kind (map rnode_of c.paths.nodes.items
          ++ case_node case ∷ []) _
          (spent at + case_price leaves case) c.args.purse.now
          (split_one game leaves c.args.kind (map rnode_of c.paths.nodes.items)
          c.in-Some.path.items
          (due_paths c.take_next.new.due.items) (spent at) (growing at) case fate.0 fate.1
          c.in-Ok-divide.ensures.form (few_children leaves c.in-Some.path.items case))
          (full_more c.args.purse.now c.paths.purse c.visit.new.purse c.pay.new.purse
          (case_price leaves case) c.paths.invariant.spends c.in-Ok-Divided.ensures.purse
          (rw c.price.ensures at c.in_default-pay.ensures.spends) err.0
          (rw c.price.ensures at err.1)),
    )

pub returns-in_default-pay-clause-spends : goal.returns-in_default-pay-clause-spends
returns-in_default-pay-clause-spends c =
    let at = (goal.at.returns-in_default-pay-clause-spends c).In-Some in
    let game = game_of c.args.game.now in
    let leaves = leaves_of c.args.leaves.now in
    let case = c.in-Ok-Divided.case in
    let fate = rw (c.in-Ok-Divided.field-0-is, c.deref.ensures.value) at
    c.in-Ok-Divided.ensures.fate in
    let t = rw c.price.ensures at c.in_default-pay.ensures.spends in
    let s = spends_on c.args.purse.now c.visit.new.purse c.pay.new.purse
    (counts_on c.args.purse.now c.paths.purse c.visit.new.purse c.paths.invariant.spends
    c.in-Ok-Divided.ensures.purse) t.alone in
    let few = t.few in
    let b = c.in-Ok-Divided.ensures.purse.branches in
    let o = c.paths.invariant.spends.branches in
    spends_cases game leaves c.args.kind (map rnode_of c.paths.nodes.items
    ++ case_node case ∷ []) _
    (spent at + case_price leaves case) c.args.purse.now c.pay.new.purse
    (split_one game leaves c.args.kind (map rnode_of c.paths.nodes.items) c.in-Some.path.items
    (due_paths c.take_next.new.due.items) (spent at) (growing at) case fate.0 fate.1
    c.in-Ok-divide.ensures.form (few_children leaves c.in-Some.path.items case)) s
    (omega (arith, few, b, o))

pub paths-preserved : goal.paths-preserved
paths-preserved c =
    let at = (goal.at.paths-preserved c).In-Some in
    let game = game_of c.args.game.now in
    let leaves = leaves_of c.args.leaves.now in
    let case = c.in-Ok-Divided.case in
    let fate = rw (c.in-Ok-Divided.field-0-is, c.deref.ensures.value) at
    c.in-Ok-Divided.ensures.fate in
    let t = rw c.price.ensures at c.in-Ok-pay.ensures.spends in
    let paid = rw c.price.ensures at c.in-Ok-pay.ensures.ok in
    let counts = c.in-Ok-Divided.ensures.purse in
    record {
      growing = rw (
        c.in-Ok-divide.ensures.nodes,
        c.in-Ok-divide.ensures.due,
        so_many_more c.args.purse.now.branches c.paths.purse.branches c.pay.new.purse.branches
            (case_price leaves case) c.paths.invariant.spends.branches
            (paid ∙ ap (λ (n : ℕ). n + case_price leaves case) counts.branches),
      )
          (split_one game leaves c.args.kind (map rnode_of c.paths.nodes.items)
          c.in-Some.path.items
          (due_paths c.take_next.new.due.items) (spent at) (growing at) case fate.0 fate.1
          c.in-Ok-divide.ensures.form (few_children leaves c.in-Some.path.items case));
      spends = spends_on c.args.purse.now c.visit.new.purse c.pay.new.purse
          (counts_on c.args.purse.now c.paths.purse c.visit.new.purse c.paths.invariant.spends
          counts)
          t.alone;
    }

pub paths-smaller : goal.paths-smaller
paths-smaller c =
    let leaves = leaves_of c.args.leaves.now in
    let case = c.in-Ok-Divided.case in
    let path = c.in-Some.path.items in
    let mid = due_paths c.take_next.new.due.items in
    let t = rw c.price.ensures at c.in-Ok-pay.ensures.spends in
    let paid = rw c.price.ensures at c.in-Ok-pay.ensures.ok in
    let new = ap (λ (ps : List (List Choice)). length ps) c.in-Ok-divide.ensures.due
    ∙ length-append (children leaves path (case_node case)) mid in
    let old = ap (λ (ps : List (List Choice)). length ps) c.in-Some.ensures in
    let less = less_left c.paths.purse c.visit.new.purse c.pay.new.purse (case_price leaves case)
    (length (children leaves path (case_node case))) (length mid) c.in-Ok-Divided.ensures.purse t
    paid
    (few_children leaves path case) in
    let r : 2 * (c.pay.new.purse.limit - counted c.pay.new.purse)
    + length (due_paths c.divide.new.due.items)
    < 2 * (c.paths.purse.limit - counted c.paths.purse) + length (due_paths c.paths.due.items) =
    omega (arith, new, old, less) in
    r

pub refutation_of-requires : goal.refutation_of-requires
refutation_of-requires c =
    let game = game_of c.args.game.now in
    let leaves = leaves_of c.args.leaves.now in
    let b = c.paths.purse.branches - c.args.purse.now.branches in
    let w = c.paths.purse.within in
    let l = c.paths.invariant.spends.limit in
    let r = c.requires.limit in
    cases_at_end game leaves c.args.kind (map rnode_of c.paths.nodes.items) b
    (omega (arith, w, l, r))
    (subst (λ (ps : List (List Choice)). IsGrowing game leaves c.args.kind
    (map rnode_of c.paths.nodes.items) ps b) c.in_default-take_next.ensures
    c.paths.invariant.growing)

pub returns-clause-found : goal.returns-clause-found
returns-clause-found c =
    let game = game_of c.args.game.now in
    let leaves = leaves_of c.args.leaves.now in
    let b = c.paths.purse.branches - c.args.purse.now.branches in
    let s = c.paths.invariant.spends.branches in
    let g = subst (λ (ps : List (List Choice)). IsGrowing game leaves c.args.kind
    (map rnode_of c.paths.nodes.items) ps b) c.in_default-take_next.ensures
    c.paths.invariant.growing in
    grown_at_end game leaves c.args.kind c.refutation_of.result b c.args.purse.now c.paths.purse
    (omega (arith, s)) (rw c.refutation_of.ensures g)

pub returns-clause-spends : goal.returns-clause-spends
returns-clause-spends c =
    let b = c.paths.purse.branches - c.args.purse.now.branches in
    let s = c.paths.invariant.spends.branches in
    spends_cases (game_of c.args.game.now) (leaves_of c.args.leaves.now) c.args.kind
    (map rnode_of c.paths.nodes.items) (due_paths c.paths.due.items) b c.args.purse.now c.paths.purse
    c.paths.invariant.growing c.paths.invariant.spends (omega (arith, s))
