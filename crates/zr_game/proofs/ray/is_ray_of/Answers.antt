use Rattle.std.proofs.Common.{◌∙◌, sym, subst, All}
use Rattle.std.proofs.lemmas.List.{length-map}
use Rattle.std.proofs.lemmas.Result.{err_from_is_err_and}
use Rattle.zr_game.specs.Forms.{IsPairForm, IsRowForm}
use Rattle.zr_game.specs.Players.{player_of, var_of}
use Rattle.zr_game.proofs.RaySums.{pairs_narrow, ray_told}
use Rattle.zr_game.proofs.ray.is_ray_of.Goals as goal

pub is_feasible-requires : goal.is_feasible-requires
is_feasible-requires c = record {
  len = c.requires.base;
  rows = subst (λ n. All (IsRowForm n) (player_of c.args.player.now).rows) (sym c.requires.base)
      c.requires.rows;
  pairs = subst (λ n. All (IsPairForm n) (player_of c.args.player.now).pairs) (sym c.requires.base)
      c.requires.pairs;
}

pub rows_keep-requires : goal.rows_keep-requires
rows_keep-requires c =
    rw c.deref.ensures.value (subst (λ n. All (IsRowForm n) (player_of c.args.player.now).rows)
    (sym c.requires.dir) c.requires.rows)

pub pairs_keep-requires-clause-forms : goal.pairs_keep-requires-clause-forms
pairs_keep-requires-clause-forms c =
    rw c.deref-2.ensures.value (subst (λ n. All (IsPairForm n) (player_of c.args.player.now).pairs)
    (sym c.requires.dir) c.requires.pairs)

pub pairs_keep-requires-clause-len : goal.pairs_keep-requires-clause-len
pairs_keep-requires-clause-len c = c.requires.base ∙ sym c.requires.dir

pub pairs_keep-requires-clause-narrow : goal.pairs_keep-requires-clause-narrow
pairs_keep-requires-clause-narrow c =
    rw c.deref-2.ensures.value (pairs_narrow (player_of c.args.player.now) c.args.base.now
    c.in_ok-starts.ensures.0)

pub bounds_keep-requires : goal.bounds_keep-requires
bounds_keep-requires c =
    rw c.deref-3.ensures.value (sym (length-map c.args.player.now.vars.items var_of) ∙
    sym c.requires.dir)

pub returns-in_err-pairs : goal.returns-in_err-pairs
returns-in_err-pairs c =
    let p = err_from_is_err_and c.from_residual-in_err-pairs.result
    c.from_residual-in_err-pairs.ensures.1 in
    let rows = rw c.deref.ensures.value at c.in_ok-rows.ensures in
    let pairs = rw c.deref-2.ensures.value at c.in_err-pairs.ensures in
    rw (p.1, p.2) (rw (c.in_ok-starts.ensures.0, rows.0) pairs)

pub returns : goal.returns
returns c =
    let b = rw c.deref.ensures.value at c.in_ok-rows.ensures in
    let p = rw c.deref-2.ensures.value at c.in_ok-pairs.ensures in
    let k = rw c.deref-3.ensures.value at c.bounds_keep.ensures in
    ray_told (player_of c.args.player.now) c.args.base.now c.args.dir.now c.in_ok-starts.starts
    c.bounds_keep.result c.in_ok-rows.rows c.in_ok-pairs.pairs c.requires.dir
    c.in_ok-starts.ensures k b p
