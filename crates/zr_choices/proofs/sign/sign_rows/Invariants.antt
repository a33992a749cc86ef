use Rattle.std.proofs.Common.{◌≡◌, ◌++◌, drop}
use Rattle.zr_choices.specs.Signs.{is_sign, numbers_of, sign_rows}
use Rattle.zr_choices.proofs.sign.sign_rows.Given as goal

abbrev pub invariant-loop-r : goal.invariant-loop-r
invariant-loop-r l = l.list.items ++ numbers_of is_sign l.r (drop l.r l.lines) ≡ sign_rows l.lines
