use Rattle.std.proofs.Common.{rules, FitsSigned, true}
use Rattle.std.specs.Int.{w128}
use Rattle.std.specs.Prelude.{option_copied}
use Rattle.std.proofs.lemmas.Int.{to_z-of_z}
use Rattle.zr_form.specs.Code.{left_of}
use Rattle.zr_form.specs.Lines.{fields_of}
use Rattle.zr_lines.proofs.NodeSteps.{pair_no_by, pair_no_slot, pair_read, pair_shorter}
use Rattle.zr_lines.proofs.multiplier_fields.multiplier.Goals as goal

pub returns-in_err-slot-clause-reads : goal.returns-in_err-slot-clause-reads
returns-in_err-slot-clause-reads c = rw c.from_residual.ensures (pair_no_slot true c.args.line.now (fields_of c.args.line.now) c.in_err-slot.ensures.reads)

pub returns-in_err-by-clause-reads : goal.returns-in_err-by-clause-reads
returns-in_err-by-clause-reads c =
    let gs = left_of (option_copied c.in_ok-slot.rest) in
    rw c.from_residual-in_err-by.ensures (pair_no_by true (fields_of c.args.line.now) gs gs c.in_ok-slot.slot c.in_ok-slot.ensures.reads c.in_err-by.ensures)

pub returns-clause-reads : goal.returns-clause-reads
returns-clause-reads c =
    let gs = left_of (option_copied c.in_ok-slot.rest) in
    let hs = left_of (option_copied c.in_ok-by.rest) in
    let f : FitsSigned w128 c.in_ok-by.by = search rules in
    simp to_z-of_z (pair_read true (fields_of c.args.line.now) gs hs c.in_ok-slot.slot c.in_ok-by.by c.in_ok-slot.ensures.reads c.in_ok-by.ensures)

pub returns-clause-shorter : goal.returns-clause-shorter
returns-clause-shorter c =
    let gs = left_of (option_copied c.in_ok-slot.rest) in
    let hs = left_of (option_copied c.in_ok-by.rest) in
    pair_shorter true (fields_of c.args.line.now) gs hs c.in_ok-slot.slot c.in_ok-by.by c.in_ok-slot.ensures.reads c.in_ok-by.ensures
