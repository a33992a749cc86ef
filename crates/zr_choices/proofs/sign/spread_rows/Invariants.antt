use Rattle.std.proofs.Common.{◌≡◌, ◌++◌, ◌+◌, drop, length}
use Rattle.zr_choices.specs.Signs.{is_up, numbers_of, spread}
use Rattle.zr_choices.proofs.sign.spread_rows.Given as goal

abbrev pub invariant-loop-u : goal.invariant-loop-u
invariant-loop-u l = record {
  list : l.list.items ++ spread (drop l.u-index l.order) (drop l.next l.rows)
      ≡ spread l.order l.rows;
  count : l.next + length (numbers_of is_up 0 (drop l.u-index l.order)) ≡ length l.rows;
}
