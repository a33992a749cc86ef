use Rattle.std.proofs.Common.{rules, ◌≡◌, FitsSigned, pos, true, false}
use Rattle.std.specs.Prelude.{int_le, option_copied}
use Rattle.std.specs.Int.{w128}
use Rattle.std.proofs.lemmas.Int.{to_z-of_z}
use Rattle.zr_form.specs.Bounds.{is_narrow}
use Rattle.zr_form.specs.Code.{left_of}
use Rattle.zr_lines.specs.Fits.{is_scale}
use Rattle.zr_lines.proofs.TreeTests.{scale_above, scale_below, scale_free, scale_level, scale_narrow}
use Rattle.zr_lines.proofs.OtherTests.{integer_fails, integer_lacks, integer_passed, integer_passes}
use Rattle.zr_lines.proofs.node.scale.Goals.{then-n-lt0-via-then-n-lt0, then-n-lt0-via-else-n-lt0+then-n-gt0, then-refuting, else-refuting}
use Rattle.zr_lines.proofs.node.scale.Goals as goal

pub returns-in_err-n : goal.returns-in_err-n
returns-in_err-n c =
    let fs = left_of (option_copied c.args.left) in
    rw c.from_residual.ensures (integer_lacks (is_narrow true) (is_scale true c.args.refuting) fs fs (scale_narrow c.args.refuting) c.in_err-n.ensures)

pub returns-then-n-lt0 : goal.returns-then-n-lt0
returns-then-n-lt0 c =
    let fs = left_of (option_copied c.args.left) in
    let rest = left_of (option_copied c.in_ok-n.rest) in
    elim c.then-n-lt0.branch [
      | then-n-lt0-via-then-n-lt0 w ↦
          let t : int_le (pos 0) c.in_ok-n.n ≡ false = search rules in
          integer_fails (is_narrow true) (is_scale true c.args.refuting) fs rest c.in_ok-n.n c.in_ok-n.ensures (scale_below c.args.refuting c.in_ok-n.n t)
      | then-n-lt0-via-else-n-lt0+then-n-gt0 w ↦
          elim w.if-refuting.branch [
            | then-refuting v ↦
                let t : int_le (pos 0) c.in_ok-n.n ≡ true = search rules in
                let u : int_le c.in_ok-n.n (pos 0) ≡ false = search rules in
                integer_fails (is_narrow true) (is_scale true c.args.refuting) fs rest c.in_ok-n.n c.in_ok-n.ensures (scale_above c.args.refuting c.in_ok-n.n t v.if-refuting.true u)
            | else-refuting v ↦ let e = v.value-is in let g = w.if-n-gt0.true in absurd (search rules)
          ]
    ]

pub returns : goal.returns
returns c =
    let fs = left_of (option_copied c.args.left) in
    let rest = left_of (option_copied c.in_ok-n.rest) in
    let f : FitsSigned w128 c.in_ok-n.n = search rules in
    let low : int_le (pos 0) c.in_ok-n.n ≡ true = search rules in
    let n = integer_passed (is_narrow true) fs rest c.in_ok-n.n c.in_ok-n.ensures in
    elim c.if-refuting.branch [
      | then-refuting w ↦
          let u : int_le c.in_ok-n.n (pos 0) ≡ true = search rules in
          simp to_z-of_z (integer_passes (is_narrow true) (is_scale true c.args.refuting) fs rest c.in_ok-n.n c.in_ok-n.ensures (scale_level c.args.refuting c.in_ok-n.n n low w.if-refuting.true u))
      | else-refuting w ↦
          simp to_z-of_z (integer_passes (is_narrow true) (is_scale true c.args.refuting) fs rest c.in_ok-n.n c.in_ok-n.ensures (scale_free c.args.refuting c.in_ok-n.n n low w.if-refuting.false))
    ]
