use Rattle.std.proofs.Common.{◌≡◌, ◌+◌, ◌≤◌, arith, ◌∙◌, sym, ap, subst, add-one, [], ◌∷◌, ◌++◌, map, option_map, take}
use Rattle.std.proofs.Math.Seq.{take-suc}
use Rattle.std.proofs.lemmas.List.{map-append}
use Rattle.std.proofs.lemmas.List.Elements.{All-push}
use Rattle.zr_base.specs.Fractions.{whole}
use Rattle.zr_io.specs.declared.purse.Purse.{Purse}
use Rattle.zr_game.specs.Players.{player_of}
use Rattle.zr_tree.specs.Form.{IsNodeForm}
use Rattle.zr_tree.specs.Nodes.{NodeOf, node_of}
use Rattle.zr_branch.specs.Replies.{CountsPivotsAlone}
use Rattle.zr_bnb.specs.declared.plan.Plan.{Plan}
use Rattle.zr_bnb.specs.Found.{IsClosedPlan, IsPlanForm, IsProvedPlan, proofs_for}
use Rattle.zr_bnb.proofs.Proving.{closed_at, form_at, nodes_push, proved_at}
use Rattle.zr_bnb.proofs.prove.nodes_of.Goals as goal

counts_on : (a b c : Purse) → CountsPivotsAlone a b → CountsPivotsAlone b c → CountsPivotsAlone a c
counts_on a b c p q = record {
  pivots = (let x = p.pivots in let y = q.pivots in omega (arith, x, y));
  limit = q.limit ∙ p.limit;
  branches = q.branches ∙ p.branches;
  cuts = q.cuts ∙ p.cuts;
}

pub node_for-requires-clause-closed : goal.node_for-requires-clause-closed
node_for-requires-clause-closed c =
    let player = player_of c.args.player.now in
    let best = option_map whole c.args.least in
    subst (IsClosedPlan player c.args.aim.now best) (sym c.plan-item.is)
    (closed_at player c.args.aim.now best c.args.plans.now c.plans.plan-index c.plan-item.result
    c.plans-test.true c.requires.closed)

pub node_for-requires-clause-form : goal.node_for-requires-clause-form
node_for-requires-clause-form c =
    subst IsPlanForm (sym c.plan-item.is) (form_at c.args.plans.now c.plans.plan-index c.plan-item.result
    c.plans-test.true c.requires.forms)

pub node_for-requires-clause-kept : goal.node_for-requires-clause-kept
node_for-requires-clause-kept c first =
    let player = player_of c.args.player.now in
    subst (IsProvedPlan player c.args.aim.now) (sym c.plan-item.is)
    (proved_at player c.args.aim.now c.args.plans.now c.plans.plan-index c.plan-item.result
    c.plans-test.true (c.requires.kept first))

pub plans-preserved : goal.plans-preserved
plans-preserved c =
    let player = player_of c.args.player.now in
    let wanted = proofs_for c.args.aim.now c.args.least in
    let plans = c.args.plans.now in
    let i = c.plans.plan-index in
    let inv = c.plans.invariant in
    let node : NodeOf = node_of c.in-Ok.node in
    let items : map node_of c.push.new.self.items ≡ map node_of c.plans.nodes.items ++ node ∷ [] =
    ap (map node_of) c.in-Ok-push.ensures.items ∙
    map-append node_of c.plans.nodes.items (c.in-Ok.node ∷ []) in
    let front : take (i + 1) plans ≡ take i plans ++ c.plan-item.result ∷ [] =
    rw add-one (take-suc plans i c.plan-item.result c.plans-test.true ∙
    ap (λ (p : Plan). take i plans ++ p ∷ []) (sym c.plan-item.is)) in
    record {
      nodes = rw (items, front) (nodes_push player wanted (take i plans) (map node_of c.plans.nodes.items)
          c.plan-item.result node inv.nodes c.in-Ok.ensures.node);
      forms = rw items (All-push IsNodeForm (map node_of c.plans.nodes.items) node inv.forms
          c.in-Ok.ensures.form);
      counts = counts_on c.args.purse.now c.plans.purse c.node_for.new.purse inv.counts c.in-Ok.ensures.purse;
    }
