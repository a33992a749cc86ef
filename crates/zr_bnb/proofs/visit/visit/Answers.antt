use Rattle.std.proofs.Common.{rules, pos, sym, refl, subst, inl, FitsSigned}
use Rattle.std.specs.Int.{w128}
use Rattle.std.proofs.lemmas.Int.{to_z-of_z}
use Rattle.zr_game.specs.Players.{player_of}
use Rattle.zr_game.specs.Leaves.{LeafOf, MeetsLeaf, leaf_of, root_leaf}
use Rattle.zr_tree.proofs.SettledLeaves.{KeepsRoot, root_keeps}
use Rattle.zr_asked.specs.Paths.{branch}
use Rattle.zr_asked.proofs.PresentRows.{path_keeps}
use Rattle.zr_branch.specs.Replies.{IsBestAt, IsUnboundedAt}
use Rattle.zr_bnb.specs.declared.plan.EndProof.{EndProof}
use Rattle.zr_bnb.specs.Fates.{IsFate, LeavesOpen}
use Rattle.zr_bnb.specs.Found.{IsEndProof, ProvesEnd}
use Rattle.zr_bnb.specs.Splits.{AreNear}
use Rattle.zr_bnb.proofs.Proving.{best_proof, empty_proof}
use Rattle.zr_bnb.proofs.Visiting.{closed_if_best, closed_if_empty}
use Rattle.zr_bnb.proofs.visit.visit.Goals as goal

pub returns-in-Err-clause-cause : goal.returns-in-Err-clause-cause
returns-in-Err-clause-cause c old new =
    c.stop_of.ensures c.args.i (player_of c.args.player.now) c.args.path.now c.args.aim.now
    c.args.aim.now (inl refl) c.in-Err.ensures.cause old new

pub returns-in-Ok-Empty-clause-fate : goal.returns-in-Ok-Empty-clause-fate
returns-in-Ok-Empty-clause-fate c more near =
    let player = player_of c.args.player.now in
    closed_if_empty player c.args.aim.now (branch player c.args.path.now) c.args.best
    c.in-Ok-Empty.mult.items (rw c.in-Ok-Empty.field-0-is at c.in-Ok-Empty.ensures.reply)

pub returns-then-has_at_most-clause-fate : goal.returns-then-has_at_most-clause-fate
returns-then-has_at_most-clause-fate c more near =
    let player = player_of c.args.player.now in
    closed_if_best player c.args.aim.now (branch player c.args.path.now) c.args.best
    c.in-Ok-Best.point c.in-Ok-Best.value c.in-Ok-Best.scale c.in-Ok-Best.mult.items
    (rw c.in-Ok-Best.field-0-is at c.in-Ok-Best.ensures.reply)
    (c.has_at_most.ensures.yes c.if-has_at_most.true)

pub returns-in-Ok-Empty-clause-ends : goal.returns-in-Ok-Empty-clause-ends
returns-in-Ok-Empty-clause-ends c =
    let player = player_of c.args.player.now in
    empty_proof player c.args.aim.now (branch player c.args.path.now)
    (record { scale = pos 0; mult = c.in-Ok-Empty.mult }) refl
    (rw c.in-Ok-Empty.field-0-is at c.in-Ok-Empty.ensures.reply)

pub returns-then-has_at_most-clause-ends : goal.returns-then-has_at_most-clause-ends
returns-then-has_at_most-clause-ends c =
    let player = player_of c.args.player.now in
    let s : FitsSigned w128 c.in-Ok-Best.scale = search rules in
    simp to_z-of_z (best_proof player c.args.aim.now (branch player c.args.path.now)
    c.in-Ok-Best.point c.in-Ok-Best.value
    (record { scale = c.in-Ok-Best.scale; mult = c.in-Ok-Best.mult })
    (rw c.in-Ok-Best.field-0-is at c.in-Ok-Best.ensures.reply))

pub at_point-requires-clause-keeps : goal.at_point-requires-clause-keeps
at_point-requires-clause-keeps c =
    let player = player_of c.args.player.now in
    subst (KeepsRoot player) (sym c.in-Ok.ensures.leaf)
    (path_keeps player (root_leaf player) c.args.path.now (root_keeps player))

pub at_point-requires-clause-near : goal.at_point-requires-clause-near
at_point-requires-clause-near c =
    subst (λ (l : LeafOf). AreNear l 1000000000) (sym c.in-Ok.ensures.leaf) c.requires.near

pub at_point-requires-clause-meets : goal.at_point-requires-clause-meets
at_point-requires-clause-meets c =
    let reply = rw c.in-Ok-Best.field-0-is at c.in-Ok-Best.ensures.reply in
    subst (λ (l : LeafOf). MeetsLeaf (player_of c.args.player.now) l c.in-Ok-Best.point)
    (sym c.in-Ok.ensures.leaf) reply.meets

pub returns-in-Ok-Best-clause-fate : goal.returns-in-Ok-Best-clause-fate
returns-in-Ok-Best-clause-fate c more near =
    let player = player_of c.args.player.now in
    let aim = c.args.aim.now in
    let x = c.in-Ok-Best.point in
    let value = c.in-Ok-Best.value in
    let scale = c.in-Ok-Best.scale in
    let mult = c.in-Ok-Best.mult.items in
    let same = c.in-Ok.ensures.leaf in
    let reply = rw c.in-Ok-Best.field-0-is at c.in-Ok-Best.ensures.reply in
    subst (λ (l : LeafOf). IsFate player l aim c.args.best more c.at_point.result) same
    (c.at_point.ensures.fate aim c.args.best scale mult
    (subst (λ (l : LeafOf). IsBestAt player l aim x value scale mult) (sym same) reply)
    (c.has_at_most.ensures.no c.if-has_at_most.false) more
    (subst (λ (l : LeafOf). AreNear l more) (sym same) near))

pub returns-in-Ok-Best-clause-opens : goal.returns-in-Ok-Best-clause-opens
returns-in-Ok-Best-clause-opens c =
    let player = player_of c.args.player.now in
    let aim = c.args.aim.now in
    let x = c.in-Ok-Best.point in
    let value = c.in-Ok-Best.value in
    let scale = c.in-Ok-Best.scale in
    let mult = c.in-Ok-Best.mult.items in
    let same = c.in-Ok.ensures.leaf in
    let reply = rw c.in-Ok-Best.field-0-is at c.in-Ok-Best.ensures.reply in
    subst (λ (l : LeafOf). LeavesOpen player l aim c.at_point.result) same
    (c.at_point.ensures.opens aim scale mult
    (subst (λ (l : LeafOf). IsBestAt player l aim x value scale mult) (sym same) reply))

pub returns-in-Ok-Best-clause-ends : goal.returns-in-Ok-Best-clause-ends
returns-in-Ok-Best-clause-ends c =
    let player = player_of c.args.player.now in
    let aim = c.args.aim.now in
    let end : EndProof = record { scale = c.in-Ok-Best.scale; mult = c.in-Ok-Best.mult } in
    let same = c.in-Ok.ensures.leaf in
    let proof = best_proof player aim (branch player c.args.path.now) c.in-Ok-Best.point
    c.in-Ok-Best.value end (rw c.in-Ok-Best.field-0-is at c.in-Ok-Best.ensures.reply) in
    let s : FitsSigned w128 c.in-Ok-Best.scale = search rules in
    let ends : IsEndProof player aim (leaf_of c.in-Ok.leaf) end
    → ProvesEnd player (leaf_of c.in-Ok.leaf) aim c.at_point.result =
    simp to_z-of_z at (c.at_point.ensures.ends aim) in
    subst (λ (l : LeafOf). ProvesEnd player l aim c.at_point.result) same
    (ends (subst (λ (l : LeafOf). IsEndProof player aim l end) (sym same) proof))

pub along-requires-clause-keeps : goal.along-requires-clause-keeps
along-requires-clause-keeps c =
    let player = player_of c.args.player.now in
    subst (KeepsRoot player) (sym c.in-Ok.ensures.leaf)
    (path_keeps player (root_leaf player) c.args.path.now (root_keeps player))

pub along-requires-clause-near : goal.along-requires-clause-near
along-requires-clause-near c =
    subst (λ (l : LeafOf). AreNear l 1000000000) (sym c.in-Ok.ensures.leaf) c.requires.near

pub along-requires-clause-meets : goal.along-requires-clause-meets
along-requires-clause-meets c =
    let reply = rw c.in-Ok-Unbounded.field-0-is at c.in-Ok-Unbounded.ensures.reply in
    subst (λ (l : LeafOf). MeetsLeaf (player_of c.args.player.now) l c.in-Ok-Unbounded.point)
    (sym c.in-Ok.ensures.leaf) reply.meets

pub returns-clause-fate : goal.returns-clause-fate
returns-clause-fate c more near =
    let player = player_of c.args.player.now in
    let aim = c.args.aim.now in
    let x = c.in-Ok-Unbounded.point in
    let ray = c.in-Ok-Unbounded.ray.items in
    let same = c.in-Ok.ensures.leaf in
    let reply = rw c.in-Ok-Unbounded.field-0-is at c.in-Ok-Unbounded.ensures.reply in
    subst (λ (l : LeafOf). IsFate player l aim c.args.best more c.along.result) same
    (c.along.ensures.fate aim c.args.best
    (subst (λ (l : LeafOf). IsUnboundedAt player l aim x ray) (sym same) reply) more
    (subst (λ (l : LeafOf). AreNear l more) (sym same) near))

pub returns-clause-opens : goal.returns-clause-opens
returns-clause-opens c =
    let player = player_of c.args.player.now in
    let aim = c.args.aim.now in
    let x = c.in-Ok-Unbounded.point in
    let ray = c.in-Ok-Unbounded.ray.items in
    let same = c.in-Ok.ensures.leaf in
    let reply = rw c.in-Ok-Unbounded.field-0-is at c.in-Ok-Unbounded.ensures.reply in
    subst (λ (l : LeafOf). LeavesOpen player l aim c.along.result) same
    (c.along.ensures.opens aim
    (subst (λ (l : LeafOf). IsUnboundedAt player l aim x ray) (sym same) reply))

pub returns-clause-ends : goal.returns-clause-ends
returns-clause-ends c =
    let player = player_of c.args.player.now in
    c.along.ensures.ends (branch player c.args.path.now) c.args.aim.now
