use Rattle.std.proofs.Common.{◌≡◌, ℕ, ◌∙◌, ap, ℤ, ◌+ℤ◌, length, slice_index, Result, Ok, Err}
use Rattle.std.specs.Prelude.{IfOk}
use Rattle.zr_base.specs.Terms.{value_at}
use Rattle.zr_branch.specs.Merged.{renamed}
use Rattle.zr_choices.specs.Merging.{first_terms}
use Rattle.zr_choices.proofs.Renaming.{right_apart, right_form, right_value}
use Rattle.zr_choices.proofs.multiplier.by_row.Goals as goal

pub merged-requires-clause-right : goal.merged-requires-clause-right
merged-requires-clause-right c =
    rw (c.deref.ensures.value, c.in_ok-extras.ensures)
    (right_form c.args.signs.now c.args.mult.now c.args.extra.now c.requires.rows c.requires.extra)

pub merged-requires-clause-apart : goal.merged-requires-clause-apart
merged-requires-clause-apart c =
    rw (c.deref.ensures.value, c.in_ok-extras.ensures)
    (right_apart c.args.signs.now c.args.mult.now c.args.extra.now c.requires.rows
    c.requires.extra)

if_ok : {T E : Type 0} (P Q : T → Type 0) (r : Result T E) → ((x : T) → P x → Q x) → IfOk r P
    → IfOk r Q
if_ok P Q (Ok x) f p = f x p
if_ok P Q (Err e) f p = tt

pub returns-clause-sums : goal.returns-clause-sums
returns-clause-sums c =
    let rows = c.args.signs.now in
    let mult = c.args.mult.now in
    let extra = c.args.extra.now in
    let sums = rw (c.deref.ensures.value, c.in_ok-extras.ensures) at c.merged.ensures.sums in
    if_ok (λ list. (d : ℕ → ℤ) → value_at list.items d
    ≡ value_at mult d +ℤ value_at (renamed (slice_index rows) (first_terms (length rows) extra)) d)
    (λ list. (d : ℕ → ℤ) → value_at list.items d
    ≡ value_at mult d +ℤ value_at (first_terms (length rows) extra) (λ k. d (slice_index rows k)))
    c.merged.result
    (λ list all d. all d ∙ ap (λ z. value_at mult d +ℤ z)
    (right_value rows mult extra c.requires.rows c.requires.extra d)) sums
