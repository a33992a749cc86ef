use Rattle.std.proofs.Common.{rules, ◌≡◌, FitsSigned, pos, true, false}
use Rattle.std.specs.Prelude.{int_le, option_copied}
use Rattle.std.specs.Int.{w128}
use Rattle.std.proofs.lemmas.Int.{to_z-of_z}
use Rattle.zr_form.specs.Bounds.{is_narrow}
use Rattle.zr_form.specs.Code.{left_of}
use Rattle.zr_form.proofs.Parsing.{also_ok, also_not, also_err}
use Rattle.zr_form.proofs.atoms.positive.Goals as goal

pub returns-in_err-n : goal.returns-in_err-n
returns-in_err-n c = rw c.from_residual.ensures (also_err (is_narrow true) (int_le (pos 1)) (left_of (option_copied c.args.left)) (left_of (option_copied c.args.left)) (c.in_err-n.ensures))

pub returns-then-n-ge1 : goal.returns-then-n-ge1
returns-then-n-ge1 c =
    let f : FitsSigned w128 c.in_ok-n.n = search rules in
    let t : int_le (pos 1) c.in_ok-n.n ≡ true = search rules in
    simp to_z-of_z (also_ok (is_narrow true) (int_le (pos 1)) (left_of (option_copied c.args.left)) c.in_ok-n.n (left_of (option_copied c.in_ok-n.rest)) (c.in_ok-n.ensures) t)

pub returns-else-n-ge1 : goal.returns-else-n-ge1
returns-else-n-ge1 c =
    let t : int_le (pos 1) c.in_ok-n.n ≡ false = search rules in
    also_not (is_narrow true) (int_le (pos 1)) (left_of (option_copied c.args.left)) c.in_ok-n.n (left_of (option_copied c.in_ok-n.rest)) (c.in_ok-n.ensures) t
