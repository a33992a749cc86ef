use Rattle.std.proofs.Common.{◌≡◌, Bool, ◌+◌, ◌-◌, ◌<◌, ◌≤◌, arith, refl, ap, ◌∙◌, subst, inl, ⊎_elim, ◌⊎◌, true, ℕ, ℤ, Some, List, [], ◌∷◌, ◌++◌}
use Rattle.zr_io.specs.declared.purse.Purse.{Purse}
use Rattle.zr_io.specs.declared.purse.Unit.TheVariants as AUnit
use Rattle.zr_io.specs.Purses.{Spends, counted}
use Rattle.zr_game.specs.Players.{PlayerOf, player_of}
use Rattle.zr_game.specs.Leaves.{root_leaf}
use Rattle.zr_asked.specs.declared.question.Move.{Move}
use Rattle.zr_asked.specs.Paths.{branch}
use Rattle.zr_branch.specs.Replies.{CountsPivotsAlone}
use Rattle.zr_bnb.specs.declared.search.Best.{Best}
use Rattle.zr_bnb.specs.Causes.{IsLeastOpen, SpendsWork}
use Rattle.zr_bnb.specs.Found.{pending, plan_of}
use Rattle.zr_bnb.proofs.Growing.{IsGrowing, SpendsBranches, are_nearer, close_one, grown_at_end, growing_at_start, lower_better, more_work, same_better, spends_work, split_one}
use Rattle.zr_bnb.proofs.search.search.Goals as goal
use Rattle.zr_bnb.proofs.search.search.Goals.{After-visit, In-Some}

search_on : (a b c : Purse) → SpendsBranches a b → CountsPivotsAlone b c → SpendsBranches a c
search_on a b c p q = record {
  pivots = (let x = p.pivots in let y = q.pivots in omega (arith, x, y));
  limit = q.limit ∙ p.limit;
  cuts = q.cuts ∙ p.cuts;
  branches = (let x = p.branches in let y = q.branches in omega (arith, x, y));
}

branch_on : (a b c : Purse) → SpendsBranches a b → Spends b c AUnit.Branch → SpendsBranches a c
branch_on a b c p q = record {
  pivots = (let x = p.pivots in let y = q.0 in omega (arith, x, y));
  limit = q.3 ∙ p.limit;
  cuts = q.2 ∙ p.cuts;
  branches = (let x = p.branches in let y = q.1 in omega (arith, x, y));
}

difference : (a b : ℕ) → a ≤ b → b ≤ a + (b - a)
difference a b h = omega (arith, h)

one_more : (a b c : ℕ) → a ≤ b → c ≡ b + 1 → c - a ≡ (b - a) + 1
one_more a b c h e = omega (arith, h, e)

pub branches-init : goal.branches-init
branches-init c =
    let player = player_of c.args.player.now in
    let z : c.args.purse.now.branches - c.args.purse.now.branches ≡ 0 = omega arith in
    record {
      growing = rw (z, c.new-plans.ensures.items, c.in-Ok.ensures, c.new.ensures.items, c.new-due.ensures.items)
          (growing_at_start player c.args.aim.now (c.args.i, c.requires.some));
      spends = record { pivots = omega arith; limit = refl; cuts = refl; branches = omega arith };
      ends = λ e. absurd cc;
    }

module _ (c : In-Some) where
  abbrev spent : ℕ
  spent = c.branches.purse.branches - c.args.purse.now.branches

  pub growing : IsGrowing (player_of c.args.player.now) c.args.aim.now c.branches.best
      c.branches.plans.items (c.in-Some.path.items ∷ pending c.take_next.new.due.items) spent
  growing =
      subst (λ (ps : List (List Move)). IsGrowing (player_of c.args.player.now) c.args.aim.now
      c.branches.best c.branches.plans.items ps spent) c.in-Some.ensures c.branches.invariant.growing

  pub few : spent ≤ 1000000000
  few =
      let w = c.branches.purse.within in
      let l = c.branches.invariant.spends.limit in
      let r = c.requires.limit in
      omega (arith, w, l, r)

  -- what the plans so far spend
  pub work_after : (new : Purse) → CountsPivotsAlone c.branches.purse new
      → SpendsWork (player_of c.args.player.now) c.args.purse.now new
  work_after new p =
      let s = search_on c.args.purse.now c.branches.purse new c.branches.invariant.spends p in
      let b = p.branches in
      let o = s.branches in
      spends_work (player_of c.args.player.now) c.args.aim.now c.branches.best c.branches.plans.items
      (c.in-Some.path.items ∷ pending c.take_next.new.due.items) spent c.args.purse.now new growing s
      (omega (arith, b, o))

pub visit-requires-clause-near : goal.visit-requires-clause-near
visit-requires-clause-near c =
    let at = (goal.at.visit-requires-clause-near c).In-Some in
    rw c.deref.ensures.value (are_nearer (branch (player_of c.args.player.now) c.in-Some.path.items)
    (c.branches.purse.branches - c.args.purse.now.branches) 1000000000 (few at) (growing at).due.0.2)

pub visit-requires-clause-path : goal.visit-requires-clause-path
visit-requires-clause-path c =
    let at = (goal.at.visit-requires-clause-path c).In-Some in
    rw c.deref.ensures.value (growing at).due.0.0

pub visit-requires-clause-forms : goal.visit-requires-clause-forms
visit-requires-clause-forms c =
    let at = (goal.at.visit-requires-clause-forms c).In-Some in
    rw c.deref.ensures.value (growing at).due.0.1

pub returns-in-Err-clause-cause : goal.returns-in-Err-clause-cause
returns-in-Err-clause-cause c = c.in-Err.ensures.cause c.args.purse.now c.visit.new.purse

-- counts of two steps
counts_on : (a b c : Purse) → CountsPivotsAlone a b → CountsPivotsAlone b c → CountsPivotsAlone a c
counts_on a b c p q = record {
  pivots = (let x = p.pivots in let y = q.pivots in omega (arith, x, y));
  limit = q.limit ∙ p.limit;
  branches = q.branches ∙ p.branches;
  cuts = q.cuts ∙ p.cuts;
}

pub returns-in-Err-clause-spends : goal.returns-in-Err-clause-spends
returns-in-Err-clause-spends c =
    work_after (goal.at.returns-in-Err-clause-spends c).In-Some c.visit.new.purse c.in-Err.ensures.purse

pub branches-preserved-in-Ok-close : goal.branches-preserved-in-Ok-close
branches-preserved-in-Ok-close c =
    let at = (goal.at.branches-preserved-in-Ok-close c).In-Some in
    let player = player_of c.args.player.now in
    let aim = c.args.aim.now in
    let purse = c.in-Ok-Closed.ensures.purse in
    let fate = rw (c.in-Ok-Closed.field-0-is, c.deref.ensures.value, c.value_of.ensures) at
    (c.in-Ok-Closed.ensures.fate (spent at) (rw c.deref.ensures.value (growing at).due.0.2)) in
    let ends = rw (c.in-Ok-Closed.field-0-is, c.deref.ensures.value) at c.in-Ok-Closed.ensures.ends in
    record {
      growing = rw (c.in-Ok-close.ensures, purse.branches)
          (close_one player aim (c.args.i, c.requires.some) c.branches.best c.branches.plans.items
          c.in-Some.path (pending c.take_next.new.due.items) (spent at) (growing at) c.branches.best
          c.in-Ok-Closed.end (same_better player aim _) (growing at).best_is fate ends);
      spends = search_on c.args.purse.now c.branches.purse c.visit.new.purse c.branches.invariant.spends purse;
      ends = c.branches.invariant.ends;
    }

pub returns-in_default-close-clause-spends : goal.returns-in_default-close-clause-spends
returns-in_default-close-clause-spends c =
    work_after (goal.at.returns-in_default-close-clause-spends c).In-Some c.visit.new.purse c.in-Ok-Closed.ensures.purse

pub branches-preserved-in-Ok-close-2 : goal.branches-preserved-in-Ok-close-2
branches-preserved-in-Ok-close-2 c =
    let at = (goal.at.branches-preserved-in-Ok-close-2 c).In-Some in
    let player = player_of c.args.player.now in
    let aim = c.args.aim.now in
    let purse = c.in-Ok-Improved.ensures.purse in
    let fate = rw (c.in-Ok-Improved.field-0-is, c.deref.ensures.value, c.value_of.ensures) at
    (c.in-Ok-Improved.ensures.fate (spent at) (rw c.deref.ensures.value (growing at).due.0.2)) in
    let ends = rw (c.in-Ok-Improved.field-0-is, c.deref.ensures.value) at c.in-Ok-Improved.ensures.ends in
    let new : Best = record { point = c.in-Ok-Improved.point; value = c.in-Ok-Improved.value } in
    record {
      growing = rw (c.in-Ok-close-2.ensures, purse.branches)
          (close_one player aim (c.args.i, c.requires.some) c.branches.best c.branches.plans.items
          c.in-Some.path (pending c.take_next.new.due.items) (spent at) (growing at) (Some new)
          c.in-Ok-Improved.end (lower_better player aim c.branches.best c.in-Ok-Improved.value (growing at).best_is
          fate.lowest.ratio.positive fate.no_higher)
          (record {
            feasible = fate.feasible;
            lowest = fate.lowest;
            value_is = fate.value_is;
            drawn = record {
              path = c.in-Some.path.items;
              path_is = (growing at).due.0.0;
              aim = aim;
              asked = inl refl;
              solution = fate.solution;
            };
          }) fate.closed ends);
      spends = search_on c.args.purse.now c.branches.purse c.visit.new.purse c.branches.invariant.spends purse;
      ends = c.branches.invariant.ends;
    }

pub returns-in_default-close-2-clause-spends : goal.returns-in_default-close-2-clause-spends
returns-in_default-close-2-clause-spends c =
    work_after (goal.at.returns-in_default-close-2-clause-spends c).In-Some c.visit.new.purse c.in-Ok-Improved.ensures.purse

-- where the least value is still open
open_on : (player : PlayerOf) (aim : List ℤ) (was : Bool) (path : List Move) (least_open : Bool)
    → (was ≡ true → IsLeastOpen player aim)
    → (least_open ≡ true → branch player path ≡ root_leaf player → IsLeastOpen player aim)
    → (was ≡ true) ⊎ ((path ≡ []) × (least_open ≡ true)) → IsLeastOpen player aim
open_on player aim was path least_open old new which =
    ⊎_elim (λ (e : was ≡ true). old e)
    (λ (e : (path ≡ []) × (least_open ≡ true)).
    new e.1 (ap (λ (p : List Move). branch player p) e.0)) which

pub returns-in-Err-tests_ends-clause-cause : goal.returns-in-Err-tests_ends-clause-cause
returns-in-Err-tests_ends-clause-cause c =
    let player = player_of c.args.player.now in
    let opens = rw (c.in-Ok-Divided.field-0-is, c.deref.ensures.value) at c.in-Ok-Divided.ensures.opens in
    c.in-Err-tests_ends.ensures.cause c.args.aim.now
    (λ e. open_on player c.args.aim.now c.branches.ends c.in-Some.path.items c.in-Ok-Divided.least_open
    c.branches.invariant.ends opens
    (rw c.deref-in-Ok-Divided.ensures.value at (c.is_still_open-least_open.ensures e)))
    c.args.purse.now c.tests_ends.new.purse

pub returns-in-Err-tests_ends-clause-spends : goal.returns-in-Err-tests_ends-clause-spends
returns-in-Err-tests_ends-clause-spends c =
    work_after (goal.at.returns-in-Err-tests_ends-clause-spends c).In-Some c.tests_ends.new.purse
    (counts_on c.branches.purse c.visit.new.purse c.tests_ends.new.purse c.in-Ok-Divided.ensures.purse
    c.in-Err-tests_ends.ensures.purse)

pub returns-in_default-divide-clause-spends : goal.returns-in_default-divide-clause-spends
returns-in_default-divide-clause-spends c =
    work_after (goal.at.returns-in_default-divide-clause-spends c).In-Some c.tests_ends.new.purse
    (counts_on c.branches.purse c.visit.new.purse c.tests_ends.new.purse c.in-Ok-Divided.ensures.purse
    c.in-Ok-tests_ends.ensures.purse)

-- the purse is full: there are more branches than it had left
full_more : (old before : Purse) (b : ℕ) → SpendsBranches old before → before.branches ≡ b
    → counted before ≡ before.limit → old.limit < counted old + ((b - old.branches) + 1)
full_more old before b s e full =
    let l = s.limit in
    let k = s.cuts in
    let n = s.branches in
    omega (arith, l, k, n, full, e)

pub returns-in_default-spend-clause-cause : goal.returns-in_default-spend-clause-cause
returns-in_default-spend-clause-cause c =
    let at = (goal.at.returns-in_default-spend-clause-cause c).In-Some in
    let player = player_of c.args.player.now in
    let aim = c.args.aim.now in
    let counts = counts_on c.branches.purse c.visit.new.purse c.tests_ends.new.purse
    c.in-Ok-Divided.ensures.purse c.in-Ok-tests_ends.ensures.purse in
    let s = search_on c.args.purse.now c.branches.purse c.tests_ends.new.purse c.branches.invariant.spends counts in
    let fate = rw (c.in-Ok-Divided.field-0-is, c.deref.ensures.value) at
    (c.in-Ok-Divided.ensures.fate (spent at) (rw c.deref.ensures.value (growing at).due.0.2)) in
    let full = (c.in_default-spend.ensures.spent.0 refl).1 in (
      rw c.in_default-spend.ensures.err full,
      more_work player aim c.branches.best (c.branches.plans.items ++ plan_of c.in-Ok-Divided.split ∷ [])
          _ (spent at + 1) c.args.purse.now
          (split_one player aim (c.args.i, c.requires.some) c.branches.best c.branches.plans.items
          c.in-Some.path (pending c.take_next.new.due.items) (spent at) (growing at)
          c.in-Ok-Divided.split (few at) fate.0 fate.1)
          (full_more c.args.purse.now c.tests_ends.new.purse c.branches.purse.branches s counts.branches full),
    )

pub returns-in_default-spend-clause-spends : goal.returns-in_default-spend-clause-spends
returns-in_default-spend-clause-spends c =
    rw c.in_default-spend.ensures.err
    (work_after (goal.at.returns-in_default-spend-clause-spends c).In-Some c.tests_ends.new.purse
    (counts_on c.branches.purse c.visit.new.purse c.tests_ends.new.purse c.in-Ok-Divided.ensures.purse
    c.in-Ok-tests_ends.ensures.purse))

pub branches-preserved : goal.branches-preserved
branches-preserved c =
    let at = (goal.at.branches-preserved c).In-Some in
    let player = player_of c.args.player.now in
    let aim = c.args.aim.now in
    let counts = counts_on c.branches.purse c.visit.new.purse c.tests_ends.new.purse
    c.in-Ok-Divided.ensures.purse c.in-Ok-tests_ends.ensures.purse in
    let s = search_on c.args.purse.now c.branches.purse c.tests_ends.new.purse c.branches.invariant.spends counts in
    let fate = rw (c.in-Ok-Divided.field-0-is, c.deref.ensures.value) at
    (c.in-Ok-Divided.ensures.fate (spent at) (rw c.deref.ensures.value (growing at).due.0.2)) in
    let opens = rw (c.in-Ok-Divided.field-0-is, c.deref.ensures.value) at c.in-Ok-Divided.ensures.opens in
    let paid = c.in-Ok-spend.ensures.ok in
    record {
      growing = rw (
        c.in-Ok-divide.ensures.plans,
        c.in-Ok-divide.ensures.due,
        c.deref-in-Ok-Divided-2.ensures.value,
        one_more c.args.purse.now.branches c.branches.purse.branches c.spend.new.self.branches
            c.branches.invariant.spends.branches (paid.1 ∙ ap (λ (n : ℕ). n + 1) counts.branches),
      )
          (split_one player aim (c.args.i, c.requires.some) c.branches.best c.branches.plans.items
          c.in-Some.path (pending c.take_next.new.due.items) (spent at) (growing at)
          c.in-Ok-Divided.split (few at) fate.0 fate.1);
      spends = branch_on c.args.purse.now c.tests_ends.new.purse c.spend.new.self s paid;
      ends = λ e. open_on player aim c.branches.ends c.in-Some.path.items c.in-Ok-Divided.least_open
          c.branches.invariant.ends opens
          (rw c.deref-in-Ok-Divided.ensures.value at
          (c.is_still_open-least_open.ensures (c.in-Ok-tests_ends.ensures.still e)));
    }

pub returns-in-Ok-Below-clause-found : goal.returns-in-Ok-Below-clause-found
returns-in-Ok-Below-clause-found c =
    let at = (goal.at.returns-in-Ok-Below-clause-found c).In-Some in
    let fate = rw (c.in-Ok-Below.field-0-is, c.deref.ensures.value) at
    (c.in-Ok-Below.ensures.fate (spent at) (rw c.deref.ensures.value (growing at).due.0.2)) in
    (c.in-Some.path.items, (growing at).due.0.0, fate)

pub returns-in-Ok-Below-clause-spends : goal.returns-in-Ok-Below-clause-spends
returns-in-Ok-Below-clause-spends c =
    work_after (goal.at.returns-in-Ok-Below-clause-spends c).In-Some c.visit.new.purse c.in-Ok-Below.ensures.purse

pub returns-clause-found : goal.returns-clause-found
returns-clause-found c =
    let player = player_of c.args.player.now in
    let aim = c.args.aim.now in
    let b = c.branches.purse.branches - c.args.purse.now.branches in
    let g : IsGrowing player aim c.branches.best c.branches.plans.items [] b =
    subst (λ (ps : List (List Move)). IsGrowing player aim c.branches.best c.branches.plans.items ps b)
    c.in_default-take_next.ensures c.branches.invariant.growing in
    let w = c.branches.purse.within in
    let l = c.branches.invariant.spends.limit in
    let s = c.branches.invariant.spends.branches in
    let r = c.requires.limit in (
      b,
      omega (arith, s),
      grown_at_end player aim c.branches.best c.branches.plans.items b
          (omega (arith, w, l, r)) g,
    )

pub returns-clause-spends : goal.returns-clause-spends
returns-clause-spends c =
    let player = player_of c.args.player.now in
    let aim = c.args.aim.now in
    let b = c.branches.purse.branches - c.args.purse.now.branches in
    let s = c.branches.invariant.spends.branches in
    spends_work player aim c.branches.best c.branches.plans.items (pending c.branches.due.items) b
    c.args.purse.now c.branches.purse c.branches.invariant.growing c.branches.invariant.spends
    (omega (arith, s))
