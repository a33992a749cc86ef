use Rattle.std.proofs.Common.{◌≡◌, sym, subst, true, Option}
use Rattle.std.specs.Prelude.{option_map}
use Rattle.zr_cases.specs.declared.bnode.BNode.{BNode}
use Rattle.zr_cases.specs.Cases.{bnode_of}
use Rattle.zr_form.specs.Lines.{fields_of}
use Rattle.zr_lines.specs.Reader.{box_at}
use Rattle.zr_lines.proofs.LineLooser.{box_looser}
use Rattle.zr_lines.proofs.box_lines.box_line.Goals as goal

pub returns-in-Some : goal.returns-in-Some
returns-in-Some c =
    let fs = fields_of c.args.line.now in
    let m = subst (λ (o : Option BNode). option_map bnode_of o ≡ box_at true fs) c.in-Some.is c.in_ok-node.ensures in
    (sym m, box_looser fs (bnode_of c.in-Some.node) (sym m))
