use Rattle.std.proofs.Common.{rules, ◌≡◌, FitsSigned, true, false}
use Rattle.std.specs.Prelude.{int_le, option_copied}
use Rattle.std.specs.Int.{w64, w128}
use Rattle.std.proofs.lemmas.Int.{to_z-of_z}
use Rattle.zr_form.specs.Bounds.{is_narrow}
use Rattle.zr_form.specs.Code.{left_of}
use Rattle.zr_tree.specs.Form.{greatest_split, least_split}
use Rattle.zr_lines.specs.Fits.{is_at}
use Rattle.zr_lines.proofs.TreeTests.{at_above, at_below, at_narrow, at_within}
use Rattle.zr_lines.proofs.OtherTests.{integer_fails, integer_lacks, integer_passes}
use Rattle.zr_lines.proofs.node.at.Goals.{then-n-lt-LEAST_SPLIT-via-then-n-lt-LEAST_SPLIT as below, then-n-lt-LEAST_SPLIT-via-else-n-lt-LEAST_SPLIT+then-n-gt-GREATEST_SPLIT as above}
use Rattle.zr_lines.proofs.node.at.Goals as goal

pub returns-in_err-n : goal.returns-in_err-n
returns-in_err-n c =
    let fs = left_of (option_copied c.args.left) in
    rw c.from_residual.ensures (integer_lacks (is_narrow true) (is_at true) fs fs at_narrow c.in_err-n.ensures)

pub returns-then-n-lt-LEAST_SPLIT : goal.returns-then-n-lt-LEAST_SPLIT
returns-then-n-lt-LEAST_SPLIT c =
    let fs = left_of (option_copied c.args.left) in
    let rest = left_of (option_copied c.in_ok-n.rest) in
    elim c.then-n-lt-LEAST_SPLIT.branch [
      | below w ↦
          let t : int_le least_split c.in_ok-n.n ≡ false = search rules in
          integer_fails (is_narrow true) (is_at true) fs rest c.in_ok-n.n c.in_ok-n.ensures (at_below c.in_ok-n.n t)
      | above w ↦
          let t : int_le c.in_ok-n.n greatest_split ≡ false = search rules in
          integer_fails (is_narrow true) (is_at true) fs rest c.in_ok-n.n c.in_ok-n.ensures (at_above c.in_ok-n.n t)
    ]

pub returns : goal.returns
returns c =
    let fs = left_of (option_copied c.args.left) in
    let rest = left_of (option_copied c.in_ok-n.rest) in
    let wide : FitsSigned w128 c.in_ok-n.n = search rules in
    let low : int_le least_split c.in_ok-n.n ≡ true = search rules in
    let high : int_le c.in_ok-n.n greatest_split ≡ true = search rules in
    let narrow : FitsSigned w64 c.in_ok-n.n = search rules in
    simp to_z-of_z (integer_passes (is_narrow true) (is_at true) fs rest c.in_ok-n.n c.in_ok-n.ensures (at_within c.in_ok-n.n low high))
