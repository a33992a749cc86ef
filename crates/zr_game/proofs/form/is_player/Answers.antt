use Rattle.std.proofs.Common.{◌∙◌}
use Rattle.zr_game.specs.Players.{player_of}
use Rattle.zr_game.proofs.GameForms.{Tests, form_told, vars_len}
use Rattle.zr_game.proofs.form.is_player.Goals as goal

pub returns : goal.returns
returns c game are =
    let player = player_of c.args.player.now in
    let columns = c.len-columns.result in
    let tests : Tests game c.args.i player columns c.are_counts.result c.are_vars.result
    c.are_rows.result c.are_pairs.result c.are_terms.result c.are_cross_terms.result
    c.ascend.result c.are_from_zero.result c.are_others.result c.others_ascend.result =
    record {
      columns_are = c.len-columns.ensures ∙ vars_len c.args.player.now;
      counts_told = c.are_counts.ensures;
      vars_told = rw c.deref.ensures.value at c.are_vars.ensures;
      rows_told = rw c.deref-2.ensures.value at c.are_rows.ensures;
      pairs_told = rw c.deref-3.ensures.value at c.are_pairs.ensures;
      cost_told = rw c.as_slice.ensures at c.are_terms.ensures;
      cross_told = rw c.deref-4.ensures.value at (c.are_cross_terms.ensures game are);
      ascend_told = rw c.deref-5.ensures.value at c.ascend.ensures;
      zero_told =
          rw (c.deref-6.ensures.value, c.deref-7.ensures.value) at c.are_from_zero.ensures;
      others_told = rw c.deref-8.ensures.value at (c.are_others.ensures game are);
      order_told = rw c.deref-9.ensures.value at c.others_ascend.ensures;
    }
    in
    form_told game c.args.i player columns c.are_counts.result c.are_vars.result
    c.are_rows.result c.are_pairs.result c.are_terms.result c.are_cross_terms.result
    c.ascend.result c.are_from_zero.result c.are_others.result c.others_ascend.result tests
