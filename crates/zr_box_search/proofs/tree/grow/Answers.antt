use Rattle.std.proofs.Common.{◌≡◌, ◌+◌, ◌-◌, arith, refl, ap, ◌∙◌, subst, ℕ, Vec, List, [], ◌∷◌, map, length}
use Rattle.std.specs.declared.alloc.Global.{Global}
use Rattle.std.proofs.lemmas.List.{length-map, map-append}
use Rattle.std.proofs.lemmas.Option.{slice_get_within}
use Rattle.zr_asked.specs.declared.question.Move.{Move}
use Rattle.zr_io.specs.declared.purse.Purse.{Purse}
use Rattle.zr_game.specs.Players.{GameOf, player_of}
use Rattle.zr_game.specs.Games.{game_of}
use Rattle.zr_cases.specs.Cases.{BNodeOf, bnode_of}
use Rattle.zr_box_search.specs.Dues.{Paths, due_of, moves_of}
use Rattle.zr_box_search.proofs.Growing.{IsGrowing, close_one, growing_at_start, searched_at_end, split_one}
use Rattle.zr_box_search.proofs.NarrowTrees.{narrow_tree_from}
use Rattle.zr_box_search.proofs.Spending.{cause_with, few_spent, full_more, spends_nothing, spends_so_far, spends_with, spent_branch, spent_is, spent_nothing, spent_on}
use Rattle.zr_box_search.proofs.tree.grow.Goals as goal
use Rattle.zr_box_search.proofs.tree.grow.Goals.{In-Some}

pub boxes-init : goal.boxes-init
boxes-init c =
    let g = game_of c.args.game.now in
    let r = rw c.new-due.ensures.items at c.in-Ok.ensures in
    let n = length-map c.args.game.now.players.items player_of in
    let k = r.1 in
    let len : length r.0 ≡ length g =
    omega (arith, k, n, c.len.ensures, c.args.game.now.players.ok.0) in
    let z : c.args.purse.now.branches - c.args.purse.now.branches ≡ 0 = omega arith in
    record {
      growing = rw (z, c.new-nodes.ensures.items, r.3)
          (growing_at_start g c.args.game.now.sound c.requires.whole r.0 len r.2);
      spends = rw z (spent_nothing c.args.purse.now);
    }

pub returns-in_default-clause-spends : goal.returns-in_default-clause-spends
returns-in_default-clause-spends c = spends_nothing (game_of c.args.game.now) c.args.purse.now

module _ (c : In-Some) where
  abbrev game : GameOf
  game = game_of c.args.game.now

  abbrev old : Purse
  old = c.args.purse.now

  abbrev mid : Purse
  mid = c.boxes.purse

  abbrev spent : ℕ
  spent = mid.branches - old.branches

  abbrev nodes : List BNodeOf
  nodes = map bnode_of c.boxes.nodes.items

  abbrev paths : Paths
  paths = moves_of c.in-Some.paths.items

  abbrev rest : List Paths
  rest = due_of c.take_next.new.due.items

  pub growing : IsGrowing game nodes (paths ∷ rest) spent
  growing =
      subst (λ (ps : List Paths). IsGrowing game nodes ps spent) c.in-Some.ensures
      c.boxes.invariant.growing

pub visit-requires-clause-due : goal.visit-requires-clause-due
visit-requires-clause-due c =
    let at = (goal.at.visit-requires-clause-due c).In-Some in
    rw c.deref.ensures.value (growing at).due.0

pub returns-in-Err-clause-cause : goal.returns-in-Err-clause-cause
returns-in-Err-clause-cause c =
    let at = (goal.at.returns-in-Err-clause-cause c).In-Some in
    cause_with (game at) (nodes at) (paths at) (rest at) (spent at) (growing at) (old at) (mid at)
    c.visit.new.purse c.boxes.invariant.spends c.in-Err.stop
    (rw c.deref.ensures.value at c.in-Err.ensures.cause)

pub returns-in-Err-clause-spends : goal.returns-in-Err-clause-spends
returns-in-Err-clause-spends c =
    let at = (goal.at.returns-in-Err-clause-spends c).In-Some in
    spends_with (game at) (nodes at) (paths at) (rest at) (spent at) (growing at) (old at) (mid at)
    c.visit.new.purse c.boxes.invariant.spends
    (rw c.deref.ensures.value at c.in-Err.ensures.spends)

pub returns-in-Ok-Stable-clause-spends : goal.returns-in-Ok-Stable-clause-spends
returns-in-Ok-Stable-clause-spends c =
    let at = (goal.at.returns-in-Ok-Stable-clause-spends c).In-Some in
    spends_with (game at) (nodes at) (paths at) (rest at) (spent at) (growing at) (old at) (mid at)
    c.visit.new.purse c.boxes.invariant.spends
    (rw c.deref.ensures.value at c.in-Ok-Stable.ensures.spends)

pub boxes-preserved-in-Ok-close : goal.boxes-preserved-in-Ok-close
boxes-preserved-in-Ok-close c =
    let at = (goal.at.boxes-preserved-in-Ok-close c).In-Some in
    let fate = rw (c.in-Ok-Closed.field-0-is, c.deref.ensures.value) at
    c.in-Ok-Closed.ensures.fate in
    let p = spent_on (old at) (mid at) c.visit.new.purse (spent at) fate.2.0
    c.boxes.invariant.spends fate.2.2 in
    let e = spent_is (old at) c.visit.new.purse (spent at + fate.2.0) p in
    let items = ap (map bnode_of) c.in-Ok-close.ensures
    ∙ map-append bnode_of c.boxes.nodes.items (c.in-Ok-Closed.node ∷ []) in
    record {
      growing = rw (e, items) (close_one (game at) (nodes at) (paths at) (rest at) (spent at)
          (growing at) (bnode_of c.in-Ok-Closed.node) fate.2.0 fate.0 fate.1 fate.2.1);
      spends = rw e p;
    }

pub returns-in_default-close-clause-spends : goal.returns-in_default-close-clause-spends
returns-in_default-close-clause-spends c =
    let at = (goal.at.returns-in_default-close-clause-spends c).In-Some in
    spends_with (game at) (nodes at) (paths at) (rest at) (spent at) (growing at) (old at) (mid at)
    c.visit.new.purse c.boxes.invariant.spends
    (rw c.deref.ensures.value at c.in-Ok-Closed.ensures.spends)

pub returns-in_default-divide-clause-spends : goal.returns-in_default-divide-clause-spends
returns-in_default-divide-clause-spends c =
    let at = (goal.at.returns-in_default-divide-clause-spends c).In-Some in
    spends_with (game at) (nodes at) (paths at) (rest at) (spent at) (growing at) (old at) (mid at)
    c.visit.new.purse c.boxes.invariant.spends
    (rw c.deref.ensures.value at c.in-Ok-Divided.ensures.spends)

pub divide-requires : goal.divide-requires
divide-requires c =
    let at = (goal.at.divide-requires c).In-Some in
    let fate = rw (c.in-Ok-Divided.field-0-is, c.deref.ensures.value) at
    c.in-Ok-Divided.ensures.fate in
    let w = slice_get_within (game at) c.in-Ok-Divided.split.player fate.1.0 fate.1.1 in
    let l = (growing at).due.0.len in
    let n = length-map c.in-Some.paths.items (λ (p : Vec Move Global). p.items) in
    rw c.deref-in-Ok-Divided.ensures.value (omega (arith, w, l, n))

pub returns-in_default-spend-clause-cause : goal.returns-in_default-spend-clause-cause
returns-in_default-spend-clause-cause c =
    let at = (goal.at.returns-in_default-spend-clause-cause c).In-Some in
    let fate = rw (c.in-Ok-Divided.field-0-is, c.deref.ensures.value) at
    c.in-Ok-Divided.ensures.fate in
    let d = rw c.deref-in-Ok-Divided.ensures.value at c.in-Ok-divide.ensures.due in
    let p = spent_on (old at) (mid at) c.visit.new.purse (spent at) 0
    c.boxes.invariant.spends fate.2 in
    let e : spent at + 0 ≡ spent at = omega arith in
    let full = (c.in_default-spend.ensures.spent.0 refl).1 in (
      rw c.in_default-spend.ensures.err full,
      full_more (game at) _ _ (spent at)
          (split_one (game at) (nodes at) (paths at) (rest at) (spent at) (growing at)
          c.in-Ok-Divided.split fate.0 fate.1 c.args.game.now.sound c.requires.whole d.0 d.1 d.2 d.3)
          (old at) c.visit.new.purse (rw e at p) full,
    )

pub returns-in_default-spend-clause-spends : goal.returns-in_default-spend-clause-spends
returns-in_default-spend-clause-spends c =
    let at = (goal.at.returns-in_default-spend-clause-spends c).In-Some in
    rw c.in_default-spend.ensures.err
    (spends_with (game at) (nodes at) (paths at) (rest at) (spent at) (growing at) (old at) (mid at)
    c.visit.new.purse c.boxes.invariant.spends
    (rw c.deref.ensures.value at c.in-Ok-Divided.ensures.spends))

one_more : (a b c n : ℕ) → b ≡ a + n → c ≡ b + 1 → c - a ≡ n + 1
one_more a b c n e f = omega (arith, e, f)

pub boxes-preserved : goal.boxes-preserved
boxes-preserved c =
    let at = (goal.at.boxes-preserved c).In-Some in
    let fate = rw (c.in-Ok-Divided.field-0-is, c.deref.ensures.value) at
    c.in-Ok-Divided.ensures.fate in
    let d = rw c.deref-in-Ok-Divided.ensures.value at c.in-Ok-divide.ensures.due in
    let p = spent_on (old at) (mid at) c.visit.new.purse (spent at) 0
    c.boxes.invariant.spends fate.2 in
    let z : spent at + 0 ≡ spent at = omega arith in
    let r = rw z at p in
    let paid = c.in-Ok-spend.ensures.ok in
    let q = spent_on (old at) c.visit.new.purse c.spend.new.self (spent at) 1 r
    (spent_branch c.visit.new.purse c.spend.new.self paid) in
    let e = one_more (old at).branches c.visit.new.purse.branches c.spend.new.self.branches
    (spent at) r.branches paid.1 in
    record {
      growing = rw (e, c.in-Ok-divide.ensures.nodes, d.4)
          (split_one (game at) (nodes at) (paths at) (rest at) (spent at) (growing at)
          c.in-Ok-Divided.split fate.0 fate.1 c.args.game.now.sound c.requires.whole d.0 d.1 d.2
          d.3);
      spends = rw e q;
    }

pub returns-clause-nodes : goal.returns-clause-nodes
returns-clause-nodes c =
    let b = c.boxes.purse.branches - c.args.purse.now.branches in
    let nodes = map bnode_of c.boxes.nodes.items in
    let g = subst (λ (ps : List Paths). IsGrowing (game_of c.args.game.now) nodes ps b)
    c.in_default-take_next.ensures c.boxes.invariant.growing in
    searched_at_end (game_of c.args.game.now) nodes b c.args.purse.now c.boxes.purse
    (few_spent c.args.purse.now c.boxes.purse b c.requires.limit c.boxes.invariant.spends
    c.boxes.purse.within) c.boxes.invariant.spends.branches
    (narrow_tree_from (game_of c.args.game.now) c.args.game.now.sound c.requires.whole) g

pub returns-clause-spends : goal.returns-clause-spends
returns-clause-spends c =
    spends_so_far (game_of c.args.game.now) (map bnode_of c.boxes.nodes.items)
    (due_of c.boxes.due.items) (c.boxes.purse.branches - c.args.purse.now.branches)
    c.boxes.invariant.growing c.args.purse.now c.boxes.purse c.boxes.invariant.spends
