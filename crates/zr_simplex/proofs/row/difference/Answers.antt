use Rattle.std.proofs.Common.{rules, ◌≡◌, arith, sym, ℤ, pos, ◌*ℤ◌, FitsSigned, ⊎_elim}
use Rattle.std.proofs.lemmas.Int.{ints, to_z-of_z}
use Rattle.std.proofs.Math.IntN.{*ℤ-zero}
use Rattle.std.specs.Int.{w128}
use Rattle.zr_simplex.proofs.Bits.{bits_are}
use Rattle.zr_simplex.proofs.Crossed.{cross_same}
use Rattle.zr_simplex.proofs.row.difference.Goals as goal

kept : (by own : ℤ) → own ≡ pos 0 → by *ℤ own ≡ own
kept by own e = rw e (*ℤ-zero by)

one : (by own : ℤ) → by ≡ pos 1 → by *ℤ own ≡ own
one by own e = rw e (omega (arith, ints))

pub returns-then-by-eq1 : goal.returns-then-by-eq1
returns-then-by-eq1 c =
    let b : FitsSigned w128 c.args.by = search rules in
    let o : FitsSigned w128 c.args.own = search rules in
    let t : FitsSigned w128 c.args.other = search rules in
    let same : c.args.by *ℤ c.args.own ≡ c.args.own = ⊎_elim (λ z. kept c.args.by c.args.own (bits_are c.args.own 0 o (omega arith) z)) (λ z. one c.args.by c.args.own (bits_are c.args.by 1 b (omega arith) z.1)) c.if-by-eq1.either in
    simp to_z-of_z (sym (cross_same c.args.by c.args.own c.args.less c.args.other c.requires same (bits_are c.args.other 0 t (omega arith) c.if-other-eq0.true)))
