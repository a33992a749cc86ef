use Rattle.std.proofs.Common.{rules, ◌≡◌, ◌≢◌, ℕ, ◌<◌, ◌≤◌, arith, refl, ◌∙◌, sym, ap, ℤ, pos, negsuc, neg_ℤ, ◌*ℤ◌, ◌+ℤ◌, true, false, FitsSigned}
use Rattle.std.specs.Int.{w128}
use Rattle.std.proofs.lemmas.Int.{ints, to_z-of_z}
use Rattle.zr_base.specs.Terms.{coef_at}
use Rattle.zr_game.specs.Players.{player_of}
use Rattle.zr_basis.specs.BasicForms.{IsBasicForm, value_column}
use Rattle.zr_basis.specs.Programs.{Program}
use Rattle.zr_simplex.specs.Answers.{weighed}
use Rattle.zr_simplex.specs.Programs.{numbers, program_of}
use Rattle.zr_branch.specs.Columns.{is_single}
use Rattle.zr_branch.proofs.Drawing.{drawn}
use Rattle.zr_branch.proofs.Replying.{best_reply, direction_of, empty_reply, single_extras, solution_of, unbounded_reply}
use Rattle.zr_branch.proofs.asking.reply_of.Goals as goal

minus_twice : (z s : ℤ) → s ≡ z → s ≡ negsuc 0 *ℤ neg_ℤ z
minus_twice z s e = omega (arith, ints, e)

zero_times : (z w x : ℤ) → w ≡ x → pos 0 *ℤ z +ℤ w ≡ x
zero_times z w x e = omega (arith, ints, e)

value_gone : (z : ℤ) → z ≡ pos 0 → pos 0 ≡ pos 1 *ℤ neg_ℤ z
value_gone z e = omega (arith, ints, e)

-- the equation of a row has no number at the value
value_zero_of : (p : Program) (basis : ℕ → ℕ) (form : ℕ → ℕ → ℤ) → IsBasicForm p basis form
    → (row : ℕ) → row < p.rows → form row (value_column p) ≡ pos 0
value_zero_of p basis form is row below =
    ap (form row) (sym is.value) ∙
    is.other row p.rows (omega (arith, below)) (omega arith) (λ e. omega (arith, below, e))

pub slot_multipliers-requires-clause-single : goal.slot_multipliers-requires-clause-single
slot_multipliers-requires-clause-single c =
    let player = player_of c.args.player.now in
    let a = c.requires.asked in
    let answer = rw c.in-Best.is at c.requires.answer in
    rw c.deref-in-Best.ensures.value (single_extras player a.0 a.1 c.args.asked.now a.2 c.in-Best.scale
    c.in-Best.mult.items c.in-Best.extra.items answer.listed answer.columns)

pub slot_multipliers-requires-in-Empty-clause-single : goal.slot_multipliers-requires-in-Empty-clause-single
slot_multipliers-requires-in-Empty-clause-single c =
    let player = player_of c.args.player.now in
    let a = c.requires.asked in
    let q = c.args.asked.now in
    let mult = c.in-Empty.mult.items in
    let answer = rw c.in-Empty.is at c.requires.answer in
    rw c.deref-in-Empty-2.ensures.value (single_extras player a.0 a.1 q a.2 (pos 0) mult
    c.in-Empty.extra.items answer.listed
    (λ k h. zero_times (numbers q.lp.aim.items k) ((weighed q.lp mult).coef k)
    (coef_at c.in-Empty.extra.items k) (answer.columns k h)))

pub returns-in_ok-point-in-Best : goal.returns-in_ok-point-in-Best
returns-in_ok-point-in-Best c leaf aim b keeps =
    let player = player_of c.args.player.now in
    let q = c.args.asked.now in
    let f : FitsSigned w128 c.in-Best.scale = search rules in
    let g : FitsSigned w128 c.in-Best.value = search rules in
    let answer = rw c.in-Best.is at c.requires.answer in
    let basic = rw c.in-Best.is at c.requires.basic.3 in
    let basis = c.requires.basic.0 in
    let form = c.requires.basic.1 in
    let is_form = c.requires.basic.2 in
    let mult = c.in-Best.mult.items in
    let extra = c.in-Best.extra.items in
    let list = c.in_ok-mult-in-Best.mult.items in
    let point = c.in-Best.point in
    let x = c.in_ok-point-in-Best.point in
    let spread = rw (c.deref.ensures.value, c.deref-in-Best.ensures.value) at (c.in_ok-mult-in-Best.ensures leaf aim b keeps) in
    let made = rw c.deref-in-Best-2.ensures.value at c.in_ok-point-in-Best.ensures.values in
    let single = single_extras player leaf aim q b c.in-Best.scale mult extra answer.listed answer.columns in
    let row = (program_of q.lp).rows in
    simp to_z-of_z (best_reply player leaf aim q b mult extra list spread point x c.in-Best.scale
    c.in-Best.value c.fraction.result made c.in_ok-point-in-Best.ensures.den answer
    (simp to_z-of_z at c.fraction.ensures.same) c.fraction.ensures.lowest
    (solution_of player leaf aim q b basis form is_form point x made
    c.in_ok-point-in-Best.ensures.den basic.1)
    (drawn player leaf aim q b c.requires.player keeps mult extra answer.listed single list spread
    basis form row is_form (omega arith) true basic.4 c.in-Best.scale
    (minus_twice (form row (value_column (program_of q.lp))) c.in-Best.scale basic.2)))

pub returns-in_ok-mult-in-Empty : goal.returns-in_ok-mult-in-Empty
returns-in_ok-mult-in-Empty c leaf aim b keeps =
    let player = player_of c.args.player.now in
    let q = c.args.asked.now in
    let answer = rw c.in-Empty.is at c.requires.answer in
    let basic = rw c.in-Empty.is at c.requires.basic.3 in
    let basis = c.requires.basic.0 in
    let form = c.requires.basic.1 in
    let is_form = c.requires.basic.2 in
    let mult = c.in-Empty.mult.items in
    let extra = c.in-Empty.extra.items in
    let list = c.in_ok-mult-in-Empty.mult.items in
    let spread = rw (c.deref-in-Empty.ensures.value, c.deref-in-Empty-2.ensures.value) at (c.in_ok-mult-in-Empty.ensures leaf aim b keeps) in
    let single = single_extras player leaf aim q b (pos 0) mult extra answer.listed
    (λ k h. zero_times (numbers q.lp.aim.items k) ((weighed q.lp mult).coef k) (coef_at extra k)
    (answer.columns k h)) in
    let row = basic.0 in
    let below = basic.1.0 in
    empty_reply player leaf aim q b mult extra list spread answer
    (drawn player leaf aim q b c.requires.player keeps mult extra answer.listed single list spread
    basis form row is_form (omega (arith, below)) false basic.2 (pos 0)
    (value_gone (form row (value_column (program_of q.lp)))
    (value_zero_of (program_of q.lp) basis form is_form row below)))

pub returns-in_ok-ray-in-Unbounded : goal.returns-in_ok-ray-in-Unbounded
returns-in_ok-ray-in-Unbounded c leaf aim b keeps =
    let player = player_of c.args.player.now in
    let q = c.args.asked.now in
    let answer = rw c.in-Unbounded.is at c.requires.answer in
    let basic = rw c.in-Unbounded.is at c.requires.basic.3 in
    let basis = c.requires.basic.0 in
    let form = c.requires.basic.1 in
    let is_form = c.requires.basic.2 in
    let point = c.in-Unbounded.point in
    let x = c.in_ok-point-in-Unbounded.point in
    let ray = c.in-Unbounded.ray.items in
    let dir = c.in_ok-ray-in-Unbounded.ray.items in
    let made = rw c.deref-in-Unbounded.ensures.value at c.in_ok-point-in-Unbounded.ensures.values in
    let along = rw (c.deref-in-Unbounded-2.ensures.value, c.deref-in-Unbounded-3.ensures.value) at c.in_ok-ray-in-Unbounded.ensures.values in
    unbounded_reply player leaf aim q b point x ray dir made c.in_ok-point-in-Unbounded.ensures.den along
    c.in_ok-ray-in-Unbounded.ensures.narrow answer
    (solution_of player leaf aim q b basis form is_form point x made c.in_ok-point-in-Unbounded.ensures.den basic.2)
    (direction_of player leaf aim q b basis form is_form basic.0 ray dir along basic.3)
