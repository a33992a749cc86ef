use Rattle.std.proofs.Common.{◌≡◌, sym, subst, true, Option}
use Rattle.std.specs.Prelude.{option_map}
use Rattle.zr_cases.specs.declared.rnode.RNode.{RNode}
use Rattle.zr_cases.specs.Cases.{rnode_of}
use Rattle.zr_form.specs.Lines.{fields_of}
use Rattle.zr_lines.specs.Reader.{case_at}
use Rattle.zr_lines.proofs.LineLooser.{case_looser}
use Rattle.zr_lines.proofs.case_lines.case_line.Goals as goal

pub returns-in-Some : goal.returns-in-Some
returns-in-Some c =
    let fs = fields_of c.args.line.now in
    let m = subst (λ (o : Option RNode). option_map rnode_of o ≡ case_at true c.args.players fs) c.in-Some.is c.in_ok-node.ensures in
    (sym m, case_looser c.args.players fs (rnode_of c.in-Some.node) (sym m))
