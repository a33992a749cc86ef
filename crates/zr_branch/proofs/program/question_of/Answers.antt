use Rattle.std.proofs.Common.{rules, ◌≡◌, ◌≤◌, ◌<◌, ◌+◌, ◌*◌, arith, sym, ap, subst, ◌∙◌, ℕ, ℤ, List, map, length, false}
use Rattle.std.specs.List.{All}
use Rattle.std.proofs.lemmas.List.{length-map}
use Rattle.zr_base.specs.Rows.{row_of}
use Rattle.zr_base.specs.Steps.{IsNarrow}
use Rattle.zr_base.proofs.Worth.{Each}
use Rattle.zr_lin.specs.Ineqs.{IsIneq, ineq_of}
use Rattle.zr_game.specs.declared.player.Var.{Var}
use Rattle.zr_game.specs.Players.{player_of, var_of}
use Rattle.zr_game.specs.Leaves.{Bound, leaf_of, slots}
use Rattle.zr_simplex.specs.Programs.{numbers}
use Rattle.zr_asked.specs.Branches.{present}
use Rattle.zr_asked.specs.Parts.{Part as APart, by_part, parts_of}
use Rattle.zr_asked.proofs.PartSums.{parts_below}
use Rattle.zr_branch.specs.declared.part.Part.{Part}
use Rattle.zr_branch.specs.Columns.{by_columns, part_number, part_of, row_bound}
use Rattle.zr_branch.proofs.PartLaws.{all_map, numbers_by_part, parts_few, vars_below}
use Rattle.zr_branch.proofs.Present.{present_few, slots_length}
use Rattle.zr_branch.proofs.program.question_of.Goals as goal
use Rattle.zr_branch.proofs.program.question_of.Goals.{After-deref-2}

parts : (c : After-deref-2) → map part_of c.in_ok-parts.parts.items ≡ parts_of (player_of c.args.player.now).vars
parts c = c.in_ok-parts.ensures ∙ ap (λ (xs : List Var). parts_of (map var_of xs)) c.deref.ensures.value

count : (c : After-deref-2) → length c.in_ok-parts.parts.items ≡ length (parts_of (player_of c.args.player.now).vars)
count c = sym (length-map c.in_ok-parts.parts.items part_of) ∙ ap length (parts c)

few : (c : After-deref-2) → length c.in_ok-parts.parts.items ≤ 128
few c =
    let player = player_of c.args.player.now in
    let f = parts_few 0 player.vars in
    let v = c.requires.player.1.1.var_count in
    omega (arith, f, v, count c)

pub rows_at-requires-clause-few : goal.rows_at-requires-clause-few
rows_at-requires-clause-few c =
    let at = (goal.at.rows_at-requires-clause-few c).After-deref-2 in
    rw c.deref-2.ensures.value (few at)

pub overflow_cast-lp : goal.overflow_cast-lp
overflow_cast-lp c =
    let at = (goal.at.overflow_cast-lp c).After-deref-2 in
    omega (arith, few at, c.len.ensures, c.in_ok-parts.parts.ok.0)

pub lows_of-requires-clause-vars : goal.lows_of-requires-clause-vars
lows_of-requires-clause-vars c =
    let at = (goal.at.lows_of-requires-clause-vars c).After-deref-2 in
    let player = player_of c.args.player.now in
    rw c.deref-4.ensures.value (vars_below (length player.vars) c.in_ok-parts.parts.items
    (subst (Each (λ (p : APart). p.0 < length player.vars)) (sym (parts at))
    (parts_below (length player.vars) 0 player.vars (omega arith))) c.requires.player.1.1.var_count)

pub returns : goal.returns
returns c =
    let at = (goal.at.returns c).After-deref-2 in
    let player = player_of c.args.player.now in
    let leaf = leaf_of c.args.leaf.now in
    let rows = c.in_ok-rows.rows.items in
    let items = c.in_ok-parts.parts.items in
    let p = parts at in
    let n = count at in
    let columns : c.len.result ≡ length items = omega (arith, c.len.ensures, c.in_ok-parts.parts.ok.0) in
    let made = rw c.deref-2.ensures.value at c.in_ok-rows.ensures.rows in
    let weak = rw c.deref-2.ensures.value at c.in_ok-rows.ensures.weak in
    let aims = rw c.deref-3.ensures.value at c.in_ok-aim_by_part.ensures.values in
    let lows = rw c.deref-4.ensures.value at c.in_ok-lows.ensures in
    let amount = ap length made in
    let first : c.len-2.result ≡ length player.rows = omega (
      arith,
      c.len-2.ensures,
      c.args.player.now.rows.ok.0,
      length-map c.args.player.now.rows.items row_of,
    ) in
    record {
      good = record {
        rows = rw columns (all_map ineq_of (IsIneq (length items)) rows (λ k d h. (weak k d h).0));
        weak = all_map ineq_of (λ row. row.strict ≡ false) rows (λ k d h. (weak k d h).1);
        aim = ap length aims ∙ length-map items (part_number (numbers c.args.aim.now)) ∙ sym columns;
        narrow = c.in_ok-aim_by_part.ensures.narrow;
        size = omega (
          arith,
          columns,
          amount,
          length-map rows row_bound,
          length-map (present (slots player leaf)) (by_columns (map part_of items)),
          present_few (slots player leaf),
          slots_length player leaf,
          few at,
          c.requires.player.1.1.var_count,
          c.requires.player.1.1.row_count,
          c.requires.player.1.1.pair_count,
        );
      };
      columns = columns ∙ n;
      rows = made ∙ ap (λ (ps : List APart). map (by_columns ps) (present (slots player leaf))) p;
      aims = λ k. ap (λ (zs : List ℤ). numbers zs k) aims ∙ numbers_by_part (numbers c.args.aim.now) items k ∙
          ap (λ (ps : List APart). by_part ps (numbers c.args.aim.now) k) p;
      places_are = c.in_ok-rows.ensures.places;
      lows_are = lows ∙ ap (λ (n : ℕ). map (λ part. n + part.0 + part.0) (map part_of items)) first ∙
          ap (map (λ part. length player.rows + part.0 + part.0)) p;
    }
