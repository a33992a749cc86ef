use Rattle.std.proofs.Common.{◌<◌, ◌≤◌, ◌/◌, ◌+◌, arith, sym, ◌∙◌, ⊎_elim}
use Rattle.std.proofs.lemmas.Bool.{cases_lt}
use Rattle.zr_game.specs.Games.{game_of}
use Rattle.zr_system.specs.Regions.{leaves_of, leaf_count}
use Rattle.zr_refute.proofs.Places.{other_at, other_past}
use Rattle.zr_refute.proofs.place.other_line.Goals as goal

pub returns-then-place-count : goal.returns-then-place-count
returns-then-place-count c =
    let n = c.leaf_count-count.ensures.count in
    let t = c.if-place-count.true in
    sym (other_past (game_of c.args.game.now) (leaves_of c.args.leaves.now) c.args.i c.args.k
    c.off_count-size.result c.off_count-size.ensures.count c.requires.leaf.1 c.args.n
    (omega (arith, n, t)) c.off_count-size.ensures.some)

pub returns-then-other-count : goal.returns-then-other-count
returns-then-other-count c =
    let n = c.leaf_count-count.ensures.count in
    let t = c.if-other-count.true in
    let b = c.without-other.ensures.before in
    let a = c.without-other.ensures.after in
    let p : c.args.n / c.off_count-size.result < c.leaf_count-count.result = c.if-place-count.false in
    let q : leaf_count (leaves_of c.args.leaves.now) c.args.i
    ≤ c.args.n / c.off_count-size.result + 1 = ⊎_elim
    (λ (l : c.args.n / c.off_count-size.result < c.args.k). let e = b l in
    absurd (omega (arith, t, p, e)))
    (λ (l : c.args.k ≤ c.args.n / c.off_count-size.result). let e = a l in omega (arith, n, t, e))
    (cases_lt (c.args.n / c.off_count-size.result) c.args.k) in
    sym (other_past (game_of c.args.game.now) (leaves_of c.args.leaves.now) c.args.i c.args.k
    c.off_count-size.result c.off_count-size.ensures.count c.requires.leaf.1 c.args.n q
    c.off_count-size.ensures.some)

pub returns : goal.returns
returns c =
    let n = c.leaf_count-count.ensures.count in
    let t = c.if-other-count.false in
    c.off_line.ensures ∙ sym (other_at (game_of c.args.game.now) (leaves_of c.args.leaves.now)
    c.args.i c.args.k c.off_count-size.result c.off_count-size.ensures.count c.requires.leaf.1
    c.args.n c.without-other.result (omega (arith, n, t)) c.off_count-size.ensures.some
    c.without-other.ensures.before c.without-other.ensures.after)
