use Rattle.std.proofs.Common.{◌≡◌, ◌≢◌, ℕ, ◌+◌, ◌<◌, ◌≤◌, arith, ap₂, ◌∙◌, ℤ, pos, ◌+ℤ◌, length, slice_index, Bool, IsTrue, Result, Ok, Err}
use Rattle.std.specs.Prelude.{IfOk}
use Rattle.zr_base.specs.Terms.{coef_at, value_at}
use Rattle.zr_branch.specs.Merged.{AllPass, renamed}
use Rattle.zr_branch.proofs.Merging.{names_apart, names_pass, renamed_ascends, value_renamed}
use Rattle.zr_branch.proofs.multipliers.by_slot.Goals as goal

fit : (a : ℕ) → a < 1024 → a < 4294967296
fit a h = omega (arith, h)

pub merged-requires-clause-left : goal.merged-requires-clause-left
merged-requires-clause-left c =
    let names = c.args.places.now in
    rw (c.deref.ensures.value, c.in_ok-rows.ensures)
    (renamed_ascends (slice_index names) (length names) 4294967296
    (λ r h. fit (slice_index names r) (c.requires.rows.fits r h)) c.args.mult.now
    c.requires.rows.rises c.requires.mult)

pub merged-requires-clause-right : goal.merged-requires-clause-right
merged-requires-clause-right c =
    let names = c.args.lows.now in
    rw (c.deref-2.ensures.value, c.in_ok-columns.ensures)
    (renamed_ascends (slice_index names) (length names) 4294967296
    (λ r h. fit (slice_index names r) (c.requires.columns.fits r h)) c.args.extra.now
    c.requires.columns.rises c.requires.extra)

pub merged-requires-clause-apart : goal.merged-requires-clause-apart
merged-requires-clause-apart c =
    let rows = c.args.places.now in
    let columns = c.args.lows.now in
    let few = c.requires.few in
    rw (c.deref.ensures.value, c.deref-2.ensures.value, c.in_ok-rows.ensures, c.in_ok-columns.ensures)
    (names_apart (slice_index rows) (slice_index columns) (length rows) (length columns) 4294967296
    c.args.mult.now c.args.extra.now
    (λ r h. fit (slice_index rows r) (c.requires.rows.fits r h))
    (λ r h. fit (slice_index columns r) (c.requires.columns.fits r h))
    c.requires.mult c.requires.extra
    (λ r k h l e n. c.requires.apart r k h l e n))

if_ok : {T E : Type 0} (P Q : T → Type 0) (r : Result T E) → ((x : T) → P x → Q x) → IfOk r P → IfOk r Q
if_ok P Q (Ok x) f p = f x p
if_ok P Q (Err e) f p = tt

pub returns-clause-sums : goal.returns-clause-sums
returns-clause-sums c =
    let rows = c.args.places.now in
    let columns = c.args.lows.now in
    let mult = c.args.mult.now in
    let extra = c.args.extra.now in
    let sums = rw (c.deref.ensures.value, c.deref-2.ensures.value, c.in_ok-rows.ensures, c.in_ok-columns.ensures) at c.merged.ensures.sums in
    if_ok (λ list. (d : ℕ → ℤ) → value_at list.items d
    ≡ value_at (renamed (slice_index rows) mult) d +ℤ value_at (renamed (slice_index columns) extra) d)
    (λ list. (d : ℕ → ℤ) → value_at list.items d
    ≡ value_at mult (λ r. d (slice_index rows r)) +ℤ value_at extra (λ k. d (slice_index columns k)))
    c.merged.result
    (λ list all d. all d ∙ ap₂ (λ x y. x +ℤ y) (value_renamed (slice_index rows) mult d)
    (value_renamed (slice_index columns) extra d)) sums

pub returns-clause-tests : goal.returns-clause-tests
returns-clause-tests c =
    let rows = c.args.places.now in
    let columns = c.args.lows.now in
    let mult = c.args.mult.now in
    let extra = c.args.extra.now in
    let tests = rw (c.deref.ensures.value, c.deref-2.ensures.value, c.in_ok-rows.ensures, c.in_ok-columns.ensures) at c.merged.ensures.tests in
    if_ok (λ list. (test : ℕ → Bool) → AllPass test (renamed (slice_index rows) mult)
    → AllPass test (renamed (slice_index columns) extra) → AllPass test list.items)
    (λ list. (test : ℕ → Bool)
    → ((r : ℕ) → r < length rows → coef_at mult r ≢ pos 0 → IsTrue (test (slice_index rows r)))
    → ((k : ℕ) → k < length columns → coef_at extra k ≢ pos 0 → IsTrue (test (slice_index columns k)))
    → AllPass test list.items) c.merged.result
    (λ list all test first second. all test
    (names_pass (slice_index rows) test (length rows) mult c.requires.mult first)
    (names_pass (slice_index columns) test (length columns) extra c.requires.extra second)) tests
