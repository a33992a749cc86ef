use Rattle.std.proofs.Common.{◌≡◌, arith, inr, List, [], ◌∷◌, map, length}
use Rattle.std.proofs.lemmas.Bool.Decides.{nat_tests}
use Rattle.zr_game.specs.Players.{pair_of, var_of}
use Rattle.zr_game.proofs.Items.{found}
use Rattle.zr_bnb.proofs.Firsts.{all_found, more_found}
use Rattle.zr_box_search.specs.Whole.{IsBoxVar}
use Rattle.zr_box_search.proofs.whole.is_box_player.Goals as goal

none_left : {A B : Type 0} (f : A → B) (xs : List A) → length xs ≡ 0 → map f xs ≡ []
none_left f [] e = cc
none_left f (x ∷ xs) e = absurd (omega (arith, e))

pub returns-then-not-is_box_var-clause-no : goal.returns-then-not-is_box_var-clause-no
returns-then-not-is_box_var-clause-no c e =
    let is = rw c.deref-var-items.ensures.value at c.var-item.is in
    let below = rw c.deref-var-items.ensures.value at c.loop-var-test.true in
    inr (
      c.loop-var.var-index,
      var_of c.var-item.result,
      found var_of c.args.player.now.vars.items
          c.loop-var.var-index c.var-item.result below is,
      c.is_box_var.ensures.no c.if-not-is_box_var.true,
    )

pub loop-var-preserved : goal.loop-var-preserved
loop-var-preserved c v var h e =
    let is = rw c.deref-var-items.ensures.value at c.var-item.is in
    let below = rw c.deref-var-items.ensures.value at c.loop-var-test.true in
    more_found var_of (λ w x. IsBoxVar x) c.args.player.now.vars.items c.loop-var.var-index
    c.var-item.result below is (λ w x k f. c.loop-var.invariant w x k f)
    (c.is_box_var.ensures.yes c.if-not-is_box_var.false) v var h e

pub returns-clause-yes : goal.returns-clause-yes
returns-clause-yes c e =
    let end = rw c.deref-var-items.ensures.value at c.loop-var-test.false in
    let test = c.if-not-is_empty.ensures in
    let len : length c.args.player.now.pairs.items ≡ 0 =
    (let k = c.args.player.now.pairs.ok.0 in grind (arith, nat_tests)) in
    record {
      pairs = none_left pair_of c.args.player.now.pairs.items len;
      vars = all_found var_of (λ w x. IsBoxVar x) c.args.player.now.vars.items c.loop-var.var-index
          end (λ w x k f. c.loop-var.invariant w x k f);
    }
