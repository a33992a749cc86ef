use Rattle.std.proofs.Common.{ℕ, ◌+◌, sym, ap, ap₂, ◌∙◌, List, [], ◌∷◌, ◌++◌, drop, length, Vec, Global}
use Rattle.zr_choices.specs.Signs.{is_up, numbers_of, spread}
use Rattle.zr_choices.proofs.Spreading.{count_free, count_up, spread_free, spread_up}
use Rattle.zr_choices.proofs.sign.spread_rows.Goals as goal
use Rattle.zr_choices.proofs.sign.spread_rows.Goals.{then-may_be_negative+in_ok-push+in_ok-push-2, else-may_be_negative+in_ok-push-3}

pub loop-u-preserved : goal.loop-u-preserved
loop-u-preserved c =
    let us = c.args.order.now in
    let rows = c.args.rows.now in
    let i = c.loop-u.u-index in
    let m = c.loop-u.next in
    let xs = c.loop-u.list.items in
    let inv = c.loop-u.invariant in
    let below = c.loop-u-test.true in
    elim c.if-may_be_negative.branch [
      | then-may_be_negative+in_ok-push+in_ok-push-2 w ↦
          let f = sym c.may_be_negative.ensures ∙ w.if-may_be_negative.true in
          let items = ap (λ (v : Vec ℕ Global). v.items) w.list-is ∙ w.in_ok-push-2.ensures.items
          ∙ ap (λ (zs : List ℕ). zs ++ (0 ∷ [])) w.in_ok-push.ensures.items in
          record {
            list = ap₂ (λ (zs : List ℕ) (k : ℕ). zs ++ spread (drop (i + 1) us) (drop k rows))
                items w.next-is
                ∙ spread_free us rows i m below xs (spread us rows) f inv.list;
            count = ap (λ (k : ℕ). k + length (numbers_of is_up 0 (drop (i + 1) us))) w.next-is
                ∙ count_free us rows i m below (length rows) f inv.count;
          }
      | else-may_be_negative+in_ok-push-3 w ↦
          let f = sym c.may_be_negative.ensures ∙ w.if-may_be_negative.false in
          let items = ap (λ (v : Vec ℕ Global). v.items) w.list-is
          ∙ w.in_ok-push-3.ensures.items in
          record {
            list = ap₂ (λ (zs : List ℕ) (k : ℕ). zs ++ spread (drop (i + 1) us) (drop k rows))
                items w.next-is
                ∙ spread_up us rows i m below xs (spread us rows) f inv.list;
            count = ap (λ (k : ℕ). k + length (numbers_of is_up 0 (drop (i + 1) us))) w.next-is
                ∙ count_up us rows i m below (length rows) f inv.count;
          }
    ]
