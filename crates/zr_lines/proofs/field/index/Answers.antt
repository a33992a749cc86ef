use Rattle.std.proofs.Common.{rules, ◌≡◌, ◌==◌, ◌^◌, ◌<◌, arith, true}
use Rattle.std.specs.Prelude.{option_copied}
use Rattle.std.proofs.lemmas.Bool.{eq-eqb, eqb-true, lt-ltb, ne_eqb}
use Rattle.zr_form.specs.Bounds.{below}
use Rattle.zr_form.specs.Code.{left_of}
use Rattle.zr_lines.proofs.OtherTests.{natural_fails, natural_lacks, natural_passes}
use Rattle.zr_lines.proofs.field.index.Goals as goal

pub returns-in_err-n : goal.returns-in_err-n
returns-in_err-n c =
    let fs = left_of (option_copied c.args.left) in
    let few : c.args.i < 2 ^ 32 = search rules in
    rw c.from_residual.ensures (natural_lacks (below true 4294967296) (λ n. n == c.args.i) fs fs (λ n e. let k = eqb-true n c.args.i e in lt-ltb n 4294967296 (omega (arith, k, few))) c.in_err-n.ensures.reads)

pub returns-then-n-i : goal.returns-then-n-i
returns-then-n-i c =
    let fs = left_of (option_copied c.args.left) in
    let rest = left_of (option_copied c.in_ok-n.rest) in
    natural_fails (below true 4294967296) (λ n. n == c.args.i) fs rest c.in_ok-n.n c.in_ok-n.ensures.reads (ne_eqb c.in_ok-n.n c.args.i (search rules))

pub returns : goal.returns
returns c =
    let fs = left_of (option_copied c.args.left) in
    let rest = left_of (option_copied c.in_ok-n.rest) in
    let same : c.in_ok-n.n ≡ c.args.i = search rules in
    let e = natural_passes (below true 4294967296) (λ n. n == c.args.i) fs rest c.in_ok-n.n c.in_ok-n.ensures.reads (eq-eqb c.in_ok-n.n c.args.i same) in
    rw same at e
