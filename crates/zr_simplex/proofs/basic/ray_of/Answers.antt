use Rattle.std.proofs.Common.{rules, ◌≡◌, ◌<◌, pos, arith, sym, ap, ◌∙◌, length, take, set, FitsSigned, get_or-set_same, get_or-set_other, length-set}
use Rattle.std.proofs.lemmas.Int.{to_z-of_z}
use Rattle.std.specs.Int.{w128}
use Rattle.std.proofs.lemmas.List.{get_or-take, length-take-le}
use Rattle.zr_simplex.specs.Programs.{numbers}
use Rattle.zr_simplex.specs.Tableaus.{basis_of}
use Rattle.zr_simplex.proofs.basic.ray_of.Goals as goal

pub returns-in-Ok-clause-ray : goal.returns-in-Ok-clause-ray
returns-in-Ok-clause-ray c =
    let d : FitsSigned w128 c.in-Ok.den = search rules in
    let n = c.args.lp.now.columns in
    let xs = c.in-Ok.ray.items in
    let made = c.in-Ok.ensures in
    let raised = set xs c.args.column c.in-Ok.den in
    let items : c.truncate.new.self.items ≡ take n raised = simp to_z-of_z at c.truncate.ensures.items in
    let below : c.args.column < length xs = omega (arith, made.len, c.requires.column) in
    record {
      all = numbers raised;
      raise = c.in-Ok.den;
      direction = record {
        positive = made.den.0;
        raised = get_or-set_same xs c.args.column c.in-Ok.den (pos 0) below;
        on = λ i h. rw (get_or-set_other xs c.args.column (basis_of c.args.tableau.now i) c.in-Ok.den (pos 0) (λ e. c.requires.free i h (sym e))) (made.on i h);
        off = λ j h other out. get_or-set_other xs c.args.column j c.in-Ok.den (pos 0) other ∙ made.off j out;
      };
      len = ap length items ∙ length-take-le n raised (omega (arith, made.len, length-set xs c.args.column c.in-Ok.den));
      same = λ j h. ap (λ zs. numbers zs j) items ∙ get_or-take n raised j (pos 0) h;
    }
