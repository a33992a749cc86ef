use Rattle.std.proofs.Common.{◌≡◌, ◌≢◌, ◌∷◌, [], ◌∙◌, sym, true, false}
use Rattle.std.specs.Cmp.Lexicographic.{bytes_decides}
use Rattle.zr_form.proofs.AnySize.{zero_natural, other_natural}
use Rattle.zr_form.proofs.loose.is_natural.Goals as goal

not_so : false ≡ true → ⊥
not_so e = cc

pub returns-then-eq : goal.returns-then-eq
returns-then-eq c =
    let same : c.args.field.now ≡ c.as_slice.result.now = (bytes_decides c.args.field.now c.as_slice.result.now).0 (sym c.eq.ensures ∙ c.if-eq.true) in
    c.if-eq.true ∙ zero_natural c.args.field.now (same ∙ c.as_slice.ensures)

pub returns-else-eq : goal.returns-else-eq
returns-else-eq c =
    let other : c.args.field.now ≢ 48 ∷ [] = λ e. not_so (sym c.if-eq.false ∙ c.eq.ensures ∙ (bytes_decides c.args.field.now c.as_slice.result.now).1 (e ∙ sym c.as_slice.ensures)) in
    c.is_above_zero.ensures ∙ other_natural c.args.field.now other
