use Rattle.std.proofs.Common.{arith}
use Rattle.zr_form.specs.Numbers.{more_digits}
use Rattle.zr_form.proofs.Steps.{bad_low, bad_high, bad_big, one_step, all_done}
use Rattle.zr_form.proofs.cut.digits.Goals as goal

pub returns-then-d-lt48 : goal.returns-then-d-lt48
returns-then-d-lt48 c = bad_low c.loop-d.n c.args.field.now c.loop-d.d-index (more_digits 0 c.args.field.now) (omega arith) (omega arith) c.loop-d.invariant.so_far

pub returns-then-d-gt57 : goal.returns-then-d-gt57
returns-then-d-gt57 c = bad_high c.loop-d.n c.args.field.now c.loop-d.d-index (more_digits 0 c.args.field.now) (omega arith) (omega arith) c.loop-d.invariant.so_far

pub returns-then-n-digit : goal.returns-then-n-digit
returns-then-n-digit c = bad_big c.loop-d.n c.args.field.now c.loop-d.d-index (more_digits 0 c.args.field.now) (omega arith) (omega arith) (omega arith) (omega arith) c.loop-d.invariant.so_far

pub loop-d-preserved : goal.loop-d-preserved
loop-d-preserved c = record {
  narrow = omega arith;
  so_far = one_step c.loop-d.n c.args.field.now c.loop-d.d-index (more_digits 0 c.args.field.now) (omega arith) (omega arith) (omega arith) c.loop-d.invariant.so_far;
}

pub returns : goal.returns
returns c = all_done c.loop-d.n c.args.field.now c.loop-d.d-index (more_digits 0 c.args.field.now) (omega arith) (omega arith) c.loop-d.invariant.so_far
