use Rattle.std.proofs.Common.{◌≡◌, ◌<◌, ◌^◌, drop}
use Rattle.zr_form.specs.Numbers.{more_digits}
use Rattle.zr_form.proofs.cut.digits.Given as goal

-- the digits so far are in n
abbrev pub invariant-loop-d : goal.invariant-loop-d
invariant-loop-d l = record { narrow : l.n < 2 ^ 127; so_far : more_digits l.n (drop l.d-index l.field) ≡ more_digits 0 l.field }
