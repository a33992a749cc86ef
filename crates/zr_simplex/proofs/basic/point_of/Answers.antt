use Rattle.std.proofs.Common.{rules, ◌≡◌, pos, arith, ap, ◌∙◌, length, take, FitsSigned}
use Rattle.std.proofs.lemmas.Int.{to_z-of_z}
use Rattle.std.specs.Int.{w128}
use Rattle.std.proofs.lemmas.List.{get_or-take, length-take-le}
use Rattle.zr_simplex.specs.Programs.{numbers}
use Rattle.zr_simplex.proofs.basic.point_of.Goals as goal

pub returns-in-Ok-clause-point : goal.returns-in-Ok-clause-point
returns-in-Ok-clause-point c =
    let d : FitsSigned w128 c.in-Ok.den = search rules in
    let e : c.len.result ≡ length c.args.lp.now.rows.items = search rules in
    let n = c.args.lp.now.columns in
    let xs = c.in-Ok.num.items in
    let made = c.in-Ok.ensures in
    let items : c.make_point.result.num ≡ take n xs = c.make_point.ensures.num ∙ c.truncate.ensures.items in
    let den : c.make_point.result.den ≡ c.in-Ok.den = simp to_z-of_z at c.make_point.ensures.den in
    let on = rw e at made.on in
    record {
      all = numbers xs;
      solution = record {
        positive = rw den made.den.0;
        on = λ i h. rw den (on i h);
        off = λ j h out. made.off j out;
      };
      len = ap length items ∙ length-take-le n xs (omega (arith, made.len));
      same = λ j h. ap (λ zs. numbers zs j) items ∙ get_or-take n xs j (pos 0) h;
    }

pub returns-in-Err-Wide-clause-halts : goal.returns-in-Err-Wide-clause-halts
returns-in-Err-Wide-clause-halts c =
    let e : c.len.result ≡ length c.args.lp.now.rows.items = search rules in
    (rw e at (rw c.in-Err-Wide.field-0-is at c.in-Err-Wide.ensures.halts), tt)
