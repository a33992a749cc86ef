use Rattle.std.proofs.Common.{◌≡◌, ◌++◌, ◌∷◌, [], map, replicate, pos, sym, ap, ◌∙◌, append_assoc, ℤ, List}
use Rattle.std.proofs.lemmas.List.{append-nil, replicate_more}
use Rattle.zr_form.specs.Lines.{spaced}
use Rattle.zr_form.specs.Numbers.{signed}
use Rattle.zr_text.proofs.Putting.{numbers_grow}
use Rattle.zr_report.proofs.question.put_zeros.Goals as goal

pub loop-init : goal.loop-init
loop-init c = sym (append-nil c.args.out.now.items)

pub loop-preserved : goal.loop-preserved
loop-preserved c =
    let n = c.loop.counter in
    let more = numbers_grow.more (replicate n (pos 0)) (pos 0) in
    let next = ap (λ (zs : List ℤ). spaced (map signed zs)) (sym (replicate_more n (pos 0))) ∙ more in
    c.in_ok-put_integer_field.ensures
    ∙ ap (λ (z : _). z ++ 32 ∷ signed (pos 0)) c.loop.invariant
    ∙ append_assoc c.args.out.now.items (spaced (map signed (replicate n (pos 0)))) (32 ∷ signed (pos 0))
    ∙ ap (λ (z : _). c.args.out.now.items ++ z) (sym next)
