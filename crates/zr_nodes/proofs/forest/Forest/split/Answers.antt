use Rattle.std.proofs.Common.{◌≡◌, arith, ap, sym, subst, ◌∙◌, ◌<◌, length, length-append, vec_len}
use Rattle.zr_nodes.specs.Lists.{numbers}
use Rattle.zr_nodes.specs.Forests.{children, IsForest}
use Rattle.zr_nodes.proofs.Growth.{kept_spare, kept_grown, closed_grown, children_grown, others_grown}
use Rattle.zr_nodes.proofs.Parts.{grown_seen}
use Rattle.zr_nodes.proofs.forest.Forest.split.Given.{Over}
use Rattle.zr_nodes.proofs.forest.Forest.split.Goals as goal

-- what the forest keeps before the split, how many items there are, and what comes of it
before : (g : Over) (c : goal.After-drop-items g) → IsForest c.args.self.now
before g c =
    kept_spare _ c.args.self.now.spare
    (subst (λ v. IsForest v) c.in-Ok.ensures.ok c.reserve.ensures.kept)

some : (g : Over) (c : goal.After-drop-items g) → 0 < length c.args.items.items
some g c = omega arith

pub returns-clause-ok : goal.returns-clause-ok
returns-clause-ok g c =
    let count : c.len-count.result ≡ length c.args.items.items = omega arith in
    grown_seen c.args.self.now _ _ _ _ c.self.inside.branches c.add_children.new.self
    c.self.inside.leaves c.replace.new.self _ _ c.args.node
    c.self.view_is c.in-Ok.ensures.ok c.self.invariant.size count
    c.in-Ok-append.ensures.items c.add_children.ensures.parents c.replace.ensures.order

pub returns-clause-kept : goal.returns-clause-kept
returns-clause-kept g c =
    subst (λ v. IsForest v) (sym (returns-clause-ok g c))
    (kept_grown c.args.self.now (before g c) c.args.node c.requires.left c.args.items.items
    (some g c) (omega arith))

pub returns-clause-closed : goal.returns-clause-closed
returns-clause-closed g c =
    rw (returns-clause-ok g c)
    (closed_grown c.args.self.now (before g c) c.args.node c.requires.left c.args.items.items
    (some g c))

pub returns-clause-children : goal.returns-clause-children
returns-clause-children g c =
    let count : vec_len c.args.items ≡ length c.args.items.items = omega arith in
    ap (λ v. children v.parents c.args.node) (returns-clause-ok g c)
    ∙ children_grown c.args.self.now (before g c) c.args.node c.requires.left c.args.items.items
    (some g c)
    ∙ ap (numbers (length c.args.self.now.items)) (sym count)

pub returns-clause-others : goal.returns-clause-others
returns-clause-others g c =
    λ k ne. ap (λ v. children v.parents k) (returns-clause-ok g c)
    ∙ others_grown c.args.self.now (before g c) c.args.node c.requires.left c.args.items.items
    (some g c) k ne

pub invariant_of-self : goal.invariant_of-self
invariant_of-self g c =
    let spare = ap (λ v. v.spare) c.self.view_is ∙ ap (λ v. v.spare) c.in-Ok.ensures.ok in
    let long = ap length c.in-Ok-append.ensures.items
    ∙ length-append c.self.inside.items.items c.args.items.items in
    record {
      forest = returns-clause-kept g c;
      size = omega (arith, long, c.replace.ensures.size);
      items_room = omega (arith, long, spare, c.in-Ok-append.ensures.capacity);
      kin_room = omega (arith, long, spare, c.add_children.ensures.capacity);
      leaves_room = omega (arith, long, spare, c.replace.ensures.capacity);
    }
