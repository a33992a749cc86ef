use Rattle.std.proofs.Common.{◌≡◌, ℤ, arith, sym, ap, subst, ◌∙◌, pos, neg_ℤ, ◌-ℤ◌, ◌*ℤ◌, ◌<ℤ◌}
use Rattle.std.proofs.lemmas.Int.{ints}
use Rattle.std.specs.Cmp.{int_ranks}
use Rattle.std.specs.Ordering.{MatchOrdering}
use Rattle.std.specs.declared.cmp.Ordering.{Ordering}
use Rattle.std.specs.declared.cmp.Ordering.TheVariants.{Less, Equal, Greater}
use Rattle.zr_simplex.specs.Tableaus.{form_of}
use Rattle.zr_simplex.proofs.Quotients.{turned_equal, turned_less}
use Rattle.zr_simplex.proofs.choose.compare_directions.Goals as goal

-- what the order of the two products says of their difference, turned about
ranked : (r : Ordering) (a b d e z : ℤ) → z ≡ a *ℤ b -ℤ d *ℤ e → MatchOrdering r ((a *ℤ neg_ℤ b) <ℤ (d *ℤ neg_ℤ e)) (a *ℤ neg_ℤ b ≡ d *ℤ neg_ℤ e) ((d *ℤ neg_ℤ e) <ℤ (a *ℤ neg_ℤ b)) → MatchOrdering r (pos 0 <ℤ z) (z ≡ pos 0) (z <ℤ pos 0)
ranked Less a b d e z is h = let t = turned_less a b d e h in omega (arith, ints, is, t)
ranked Equal a b d e z is h = let t = turned_equal a b d e h in omega (arith, ints, is, t)
ranked Greater a b d e z is h = let t = turned_less d e a b h in omega (arith, ints, is, t)

pub returns-in-Some : goal.returns-in-Some
returns-in-Some c numbers compares =
    let form = form_of c.args.tableau.now in
    let i = c.in-Some.i in
    let there = c.in-Some.ensures in
    let a = form i c.args.last in
    let b = form c.args.row c.args.column in
    let d = form i c.args.column in
    let e = form c.args.row c.args.last in
    let is = ap numbers (sym there.1) ∙ compares.on i (omega (arith, there.0, c.requires.kept.count)) in
    ranked c.compare_at_row.result a b d e (numbers c.args.at) is (subst (λ r. MatchOrdering r ((a *ℤ neg_ℤ b) <ℤ (d *ℤ neg_ℤ e)) (a *ℤ neg_ℤ b ≡ d *ℤ neg_ℤ e) ((d *ℤ neg_ℤ e) <ℤ (a *ℤ neg_ℤ b))) (sym c.compare_at_row.ensures) (int_ranks (a *ℤ neg_ℤ b) (d *ℤ neg_ℤ e)))
