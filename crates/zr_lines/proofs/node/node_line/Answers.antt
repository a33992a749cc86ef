use Rattle.std.proofs.Common.{◌≡◌, sym, subst, true, Option}
use Rattle.std.specs.Prelude.{option_map}
use Rattle.zr_tree.specs.declared.node.Node.{Node}
use Rattle.zr_tree.specs.Nodes.{node_of}
use Rattle.zr_form.specs.Lines.{fields_of}
use Rattle.zr_lines.specs.Reader.{node_at}
use Rattle.zr_lines.proofs.LineLooser.{node_looser}
use Rattle.zr_lines.proofs.node.node_line.Goals as goal

pub returns-in-Some : goal.returns-in-Some
returns-in-Some c =
    let fs = fields_of c.args.line.now in
    let m = subst (λ (o : Option Node). option_map node_of o ≡ node_at true c.args.ends fs) c.in-Some.is c.in_ok-node.ensures in
    (sym m, node_looser c.args.ends fs (node_of c.in-Some.node) (sym m))
