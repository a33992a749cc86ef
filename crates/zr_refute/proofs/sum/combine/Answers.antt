use Rattle.std.proofs.Common.{rules, ◌≡◌, ◌≢◌, ℕ, arith, refl, sym, ap, subst, ◌∙◌, ℤ, pos, length, get_or, FitsSigned, ⊎_elim}
use Rattle.std.specs.Int.{w128}
use Rattle.std.proofs.lemmas.Bool.{cases_eq}
use Rattle.std.proofs.lemmas.Int.{to_z-of_z}
use Rattle.std.proofs.lemmas.Option.{slice_get-get_or}
use Rattle.zr_base.proofs.SumSteps.{get_or_default}
use Rattle.zr_lin.proofs.MoreRows.{multiplied_below}
use Rattle.zr_lin.proofs.Summed.{left_narrow, le_narrow}
use Rattle.zr_game.specs.Games.{game_of}
use Rattle.zr_system.specs.declared.line.Line.{Line}
use Rattle.zr_system.specs.Asked.{HasWideNumber, no_line}
use Rattle.zr_system.specs.Lines.{all_lines}
use Rattle.zr_system.specs.Regions.{leaves_of}
use Rattle.zr_system.specs.System.{system_rows}
use Rattle.zr_system.specs.Unknowns.{columns}
use Rattle.zr_system.proofs.Existence.{columns_exist}
use Rattle.zr_refute.proofs.Multiplied.{line_exists, line_is, one_added, rows_length, wide_added}
use Rattle.zr_refute.proofs.sum.combine.Goals as goal

pub unwrap-line-requires : goal.unwrap-line-requires
unwrap-line-requires c =
    let game = game_of c.args.game.now in
    let leaves = leaves_of c.args.leaves.now in
    let lines = all_lines game leaves c.args.path.now in
    let n = (get_or c.args.mult.now c.loop-row.row-index (0, pos 0)).0 in
    let b = multiplied_below (length (system_rows game leaves c.args.path.now)) c.args.mult.now
    c.loop-row.row-index c.requires.mult c.loop-row-test.true in
    let l = rows_length game leaves c.args.path.now in
    rw (c.line_at.ensures ∙ slice_get-get_or lines n no_line (omega (arith, b, l))) refl

pub add_line-requires-clause-line : goal.add_line-requires-clause-line
add_line-requires-clause-line c =
    line_exists (game_of c.args.game.now) (leaves_of c.args.leaves.now) c.args.path.now
    (get_or c.args.mult.now c.loop-row.row-index (0, pos 0)).0 c.unwrap-line.result
    (sym c.line_at.ensures ∙ c.unwrap-line.ensures) c.requires.path

pub add_line-requires-clause-order : goal.add_line-requires-clause-order
add_line-requires-clause-order c =
    let game = game_of c.args.game.now in
    let leaves = leaves_of c.args.leaves.now in
    rw c.requires.order (columns_exist game leaves)

pub add_line-requires-clause-narrow : goal.add_line-requires-clause-narrow
add_line-requires-clause-narrow c = left_narrow _ _ _ _ c.loop-row.invariant.sums

pub add_line-requires-clause-narrow_le : goal.add_line-requires-clause-narrow_le
add_line-requires-clause-narrow_le c = le_narrow _ _ _ _ c.loop-row.invariant.sums

pub returns-in-Err-clause-wide : goal.returns-in-Err-clause-wide
returns-in-Err-clause-wide c =
    let game = game_of c.args.game.now in
    let leaves = leaves_of c.args.leaves.now in
    let b : FitsSigned w128 (get_or c.args.mult.now c.loop-row.row-index (0, pos 0)).1 = search
    rules in
    let w = simp to_z-of_z at (rw c.requires.order at c.in-Err.ensures.wide) in
    wide_added game leaves c.args.path.now c.args.mult.now c.loop-row.row-index c.loop-row-test.true
    c.unwrap-line.result (sym c.line_at.ensures ∙ c.unwrap-line.ensures) c.loop-row.sums
    c.loop-row.total c.loop-row.invariant.sums (c.loop-row.auto.sums ∙ c.fill.ensures.len
    ∙ c.requires.columns ∙ ap length c.requires.order) c.in-Err.wide w

pub loop-row-preserved : goal.loop-row-preserved
loop-row-preserved c =
    let game = game_of c.args.game.now in
    let leaves = leaves_of c.args.leaves.now in
    let path = c.args.path.now in
    let mult = c.args.mult.now in
    let k = c.loop-row.row-index in
    let b : FitsSigned w128 (get_or mult k (0, pos 0)).1 = search rules in
    let is = sym c.line_at.ensures ∙ c.unwrap-line.ensures in
    let added = simp to_z-of_z at (rw c.requires.order at c.in-Ok.ensures.sums) in
    let right = simp to_z-of_z at c.in-Ok.ensures.right in
    record {
      sums = one_added game leaves path mult k c.loop-row-test.true c.unwrap-line.result is
          c.loop-row.sums c.loop-row.total c.loop-row.invariant.sums (c.loop-row.auto.sums
          ∙ c.fill.ensures.len ∙ c.requires.columns ∙ ap length c.requires.order)
          c.add_line.new.sums c.in-Ok.next c.add_line.auto.sums added right c.in-Ok.ensures.strict;
      none = λ m w h wide. ⊎_elim (λ (e : m ≡ k). absurd
          (let f = (rw c.requires.order at c.in-Ok.ensures.wide_ends) w (subst
          (λ (l : Line). HasWideNumber game leaves (columns game leaves) l w)
          (line_is game leaves path (get_or mult k (0, pos 0)).0 c.unwrap-line.result is)
          (subst (λ (n : ℕ). HasWideNumber game leaves (columns game leaves)
          (get_or (all_lines game leaves path) (get_or mult n (0, pos 0)).0 no_line) w) e wide)) in
          cc)) (λ (n : m ≢ k). c.loop-row.invariant.none m w (omega (arith, h, n)) wide)
          (cases_eq m k);
    }

pub returns-clause-wide_ends : goal.returns-clause-wide_ends
returns-clause-wide_ends c h =
    let game = game_of c.args.game.now in
    let leaves = leaves_of c.args.leaves.now in
    let path = c.args.path.now in
    let mult = c.args.mult.now in
    let is = get_or_default mult h.2.0 (0, pos 0) h.0 h.2.1 ∙ h.2.2 in
    absurd (c.loop-row.invariant.none h.2.0 h.1 (let b = h.2.1 in
    let past = c.loop-row-test.false in omega (arith, b, past)) (subst
    (λ (t : ℕ × ℤ). HasWideNumber game leaves (columns game leaves)
    (get_or (all_lines game leaves path) t.0 no_line) h.1) (sym is) h.3))
