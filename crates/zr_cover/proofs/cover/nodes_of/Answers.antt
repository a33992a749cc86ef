use Rattle.std.proofs.Common.{◌≡◌, ◌+◌, ◌-◌, ◌<◌, ◌≤◌, arith, refl, ap, ◌∙◌, subst, ℕ, List, [], ◌∷◌, ◌++◌, map}
use Rattle.std.proofs.lemmas.List.{length-map, map-append}
use Rattle.zr_io.specs.declared.purse.Purse.{Purse}
use Rattle.zr_io.specs.declared.purse.Unit.TheVariants as AUnit
use Rattle.zr_io.specs.Purses.{Spends, counted}
use Rattle.zr_game.specs.Players.{PlayerOf, player_of}
use Rattle.zr_tree.specs.Nodes.{NodeOf, node_of}
use Rattle.zr_asked.specs.declared.question.Move.{Move}
use Rattle.zr_asked.specs.Paths.{branch}
use Rattle.zr_branch.specs.Replies.{CountsPivotsAlone}
use Rattle.zr_bnb.specs.Causes.{SpendsWork}
use Rattle.zr_cover.specs.Fates.{due_paths}
use Rattle.zr_cover.specs.Splits.{split_node}
use Rattle.zr_cover.proofs.Growing.{IsGrowing, SpendsBranches, end_one, grown_at_end, growing_at_start, more_work, spends_work, split_one}
use Rattle.zr_cover.proofs.Near.{are_further}
use Rattle.zr_cover.proofs.cover.nodes_of.Goals as goal
use Rattle.zr_cover.proofs.cover.nodes_of.Goals.{In-Some}

search_on : (a b c : Purse) → SpendsBranches a b → CountsPivotsAlone b c → SpendsBranches a c
search_on a b c p q = record {
  limit = q.limit ∙ p.limit;
  cuts = q.cuts ∙ p.cuts;
  branches = (let x = p.branches in let y = q.branches in omega (arith, x, y));
  pivots = (let x = p.pivots in let y = q.pivots in omega (arith, x, y));
}

branch_on : (a b c : Purse) → SpendsBranches a b → Spends b c AUnit.Branch → SpendsBranches a c
branch_on a b c p q = record {
  limit = q.3 ∙ p.limit;
  cuts = q.2 ∙ p.cuts;
  branches = (let x = p.branches in let y = q.1 in omega (arith, x, y));
  pivots = (let x = p.pivots in let y = q.0 in omega (arith, x, y));
}

one_more : (a b c : ℕ) → a ≤ b → c ≡ b + 1 → c - a ≡ (b - a) + 1
one_more a b c h e = omega (arith, h, e)

-- the purse is full: there are more branches than it had left
full_more : (old before : Purse) (b : ℕ) → SpendsBranches old before → before.branches ≡ b
    → counted before ≡ before.limit → old.limit < counted old + ((b - old.branches) + 1)
full_more old before b s e full =
    let l = s.limit in
    let k = s.cuts in
    let n = s.branches in
    omega (arith, l, k, n, full, e)

pub branches-init : goal.branches-init
branches-init c =
    let player = player_of c.args.player.now in
    let z : c.args.purse.now.branches - c.args.purse.now.branches ≡ 0 = omega arith in
    record {
      growing = rw (
        z,
        c.new-nodes.ensures.items,
        c.in-Ok.ensures,
        c.new.ensures.items,
        c.new-due.ensures.items,
      )
          (growing_at_start player (c.args.i, c.requires.some));
      spends = record { limit = refl; cuts = refl; branches = omega arith; pivots = omega arith };
    }

module _ (c : In-Some) where
  abbrev player : PlayerOf
  player = player_of c.args.player.now

  abbrev spent : ℕ
  spent = c.branches.purse.branches - c.args.purse.now.branches

  pub growing : IsGrowing player (map node_of c.branches.nodes.items)
      (c.in-Some.path.items ∷ due_paths c.take_next.new.due.items) spent
  growing =
      subst (λ (ps : List (List Move)).
      IsGrowing player (map node_of c.branches.nodes.items) ps spent)
      c.in-Some.ensures c.branches.invariant.growing

  pub few : spent ≤ 1000000000
  few =
      let w = c.branches.purse.within in
      let l = c.branches.invariant.spends.limit in
      let r = c.requires.limit in
      omega (arith, w, l, r)

  -- what the nodes so far spend
  pub work_after : (new : Purse) → CountsPivotsAlone c.branches.purse new
      → SpendsWork player c.args.purse.now new
  work_after new p =
      let s = search_on c.args.purse.now c.branches.purse new c.branches.invariant.spends p in
      let b = p.branches in
      let o = s.branches in
      spends_work player (map node_of c.branches.nodes.items)
      (c.in-Some.path.items ∷ due_paths c.take_next.new.due.items) spent c.args.purse.now new
      growing s
      (omega (arith, b, o))

pub visit-requires-clause-near : goal.visit-requires-clause-near
visit-requires-clause-near c =
    let at = (goal.at.visit-requires-clause-near c).In-Some in
    rw c.deref.ensures.value
    (are_further (branch (player_of c.args.player.now) c.in-Some.path.items)
    (spent at) 1000000000 (few at) (growing at).due.0.2)

pub visit-requires-clause-path : goal.visit-requires-clause-path
visit-requires-clause-path c =
    let at = (goal.at.visit-requires-clause-path c).In-Some in
    rw c.deref.ensures.value (growing at).due.0.0

pub visit-requires-clause-forms : goal.visit-requires-clause-forms
visit-requires-clause-forms c =
    let at = (goal.at.visit-requires-clause-forms c).In-Some in
    rw c.deref.ensures.value (growing at).due.0.1

pub returns-in-Err-clause-cause : goal.returns-in-Err-clause-cause
returns-in-Err-clause-cause c = c.in-Err.ensures.cause c.args.purse.now c.visit.new.purse

pub returns-in-Err-clause-spends : goal.returns-in-Err-clause-spends
returns-in-Err-clause-spends c =
    work_after (goal.at.returns-in-Err-clause-spends c).In-Some c.visit.new.purse
    c.in-Err.ensures.purse

pub branches-preserved-in-Ok-End : goal.branches-preserved-in-Ok-End
branches-preserved-in-Ok-End c =
    let at = (goal.at.branches-preserved-in-Ok-End c).In-Some in
    let player = player_of c.args.player.now in
    let purse = c.in-Ok-End.ensures.purse in
    let fate = rw (c.in-Ok-End.field-0-is, c.deref.ensures.value) at
    (c.in-Ok-End.ensures.fate (spent at) (rw c.deref.ensures.value (growing at).due.0.2)) in
    let node : NodeOf = node_of c.in-Ok-End.node in
    let items : map node_of c.push.new.self.items
    ≡ map node_of c.branches.nodes.items ++ node ∷ [] =
    ap (map node_of) c.in-Ok-push.ensures.items ∙
    map-append node_of c.branches.nodes.items (c.in-Ok-End.node ∷ []) in
    record {
      growing = rw (items, purse.branches)
          (end_one player (map node_of c.branches.nodes.items) c.in-Some.path.items
          (due_paths c.take_next.new.due.items) (spent at) (growing at) node fate.0 fate.1);
      spends = search_on c.args.purse.now c.branches.purse c.visit.new.purse
          c.branches.invariant.spends purse;
    }

pub returns-in_default-push-clause-spends : goal.returns-in_default-push-clause-spends
returns-in_default-push-clause-spends c =
    work_after (goal.at.returns-in_default-push-clause-spends c).In-Some c.visit.new.purse
    c.in-Ok-End.ensures.purse

pub returns-in_default-divide-clause-spends : goal.returns-in_default-divide-clause-spends
returns-in_default-divide-clause-spends c =
    work_after (goal.at.returns-in_default-divide-clause-spends c).In-Some c.visit.new.purse
    c.in-Ok-Divided.ensures.purse

pub returns-in_default-spend-clause-cause : goal.returns-in_default-spend-clause-cause
returns-in_default-spend-clause-cause c =
    let at = (goal.at.returns-in_default-spend-clause-cause c).In-Some in
    let player = player_of c.args.player.now in
    let counts = c.in-Ok-Divided.ensures.purse in
    let s = search_on c.args.purse.now c.branches.purse c.visit.new.purse
    c.branches.invariant.spends counts in
    let fate = rw (c.in-Ok-Divided.field-0-is, c.deref.ensures.value) at
    (c.in-Ok-Divided.ensures.fate (spent at) (rw c.deref.ensures.value (growing at).due.0.2)) in
    let full = (c.in_default-spend.ensures.spent.0 refl).1 in (
      rw c.in_default-spend.ensures.err full,
      more_work player (map node_of c.branches.nodes.items ++ split_node c.in-Ok-Divided.split ∷ [])
          _ (spent at + 1) c.args.purse.now
          (split_one player (map node_of c.branches.nodes.items) c.in-Some.path.items
          (due_paths c.take_next.new.due.items) (spent at) (growing at)
          c.in-Ok-Divided.split (few at) fate.0 fate.1)
          (full_more c.args.purse.now c.visit.new.purse c.branches.purse.branches s counts.branches
          full),
    )

pub returns-in_default-spend-clause-spends : goal.returns-in_default-spend-clause-spends
returns-in_default-spend-clause-spends c =
    rw c.in_default-spend.ensures.err
    (work_after (goal.at.returns-in_default-spend-clause-spends c).In-Some c.visit.new.purse
    c.in-Ok-Divided.ensures.purse)

pub branches-preserved : goal.branches-preserved
branches-preserved c =
    let at = (goal.at.branches-preserved c).In-Some in
    let player = player_of c.args.player.now in
    let counts = c.in-Ok-Divided.ensures.purse in
    let s = search_on c.args.purse.now c.branches.purse c.visit.new.purse
    c.branches.invariant.spends counts in
    let fate = rw (c.in-Ok-Divided.field-0-is, c.deref.ensures.value) at
    (c.in-Ok-Divided.ensures.fate (spent at) (rw c.deref.ensures.value (growing at).due.0.2)) in
    let paid = c.in-Ok-spend.ensures.ok in
    record {
      growing = rw (
        c.in-Ok-divide.ensures.nodes,
        c.in-Ok-divide.ensures.due,
        c.deref-in-Ok-Divided.ensures.value,
        one_more c.args.purse.now.branches c.branches.purse.branches c.spend.new.self.branches
            c.branches.invariant.spends.branches (paid.1 ∙ ap (λ (n : ℕ). n + 1) counts.branches),
      )
          (split_one player (map node_of c.branches.nodes.items) c.in-Some.path.items
          (due_paths c.take_next.new.due.items) (spent at) (growing at)
          c.in-Ok-Divided.split (few at) fate.0 fate.1);
      spends = branch_on c.args.purse.now c.visit.new.purse c.spend.new.self s paid;
    }

pub returns-clause-nodes : goal.returns-clause-nodes
returns-clause-nodes c =
    let player = player_of c.args.player.now in
    let b = c.branches.purse.branches - c.args.purse.now.branches in
    let g : IsGrowing player (map node_of c.branches.nodes.items) [] b =
    subst (λ (ps : List (List Move)). IsGrowing player (map node_of c.branches.nodes.items) ps b)
    c.in_default-take_next.ensures c.branches.invariant.growing in
    let s = c.branches.invariant.spends.branches in
    grown_at_end player (map node_of c.branches.nodes.items) b c.args.purse.now c.branches.purse
    (omega (arith, s)) g

pub returns-clause-forms : goal.returns-clause-forms
returns-clause-forms c = c.branches.invariant.growing.forms

pub returns-clause-few : goal.returns-clause-few
returns-clause-few c =
    let n = c.branches.invariant.growing.count in
    let l = length-map c.branches.nodes.items node_of in
    omega (arith, n, l)

pub returns-clause-spends : goal.returns-clause-spends
returns-clause-spends c =
    let player = player_of c.args.player.now in
    let b = c.branches.purse.branches - c.args.purse.now.branches in
    let s = c.branches.invariant.spends.branches in
    spends_work player (map node_of c.branches.nodes.items) (due_paths c.branches.due.items) b
    c.args.purse.now c.branches.purse c.branches.invariant.growing c.branches.invariant.spends
    (omega (arith, s))
