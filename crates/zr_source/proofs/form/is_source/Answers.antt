use Rattle.std.proofs.Common.{arith, length}
use Rattle.std.proofs.lemmas.List.{length-map}
use Rattle.zr_game.proofs.GameForms.{not_empty}
use Rattle.zr_source.proofs.FormTests.{source_told}
use Rattle.zr_source.specs.Sources.{leader_of, leaders_of}
use Rattle.zr_source.proofs.form.is_source.Goals as goal

pub returns : goal.returns
returns c =
    let len = length-map c.args.leaders.now leader_of in
    let some = not_empty (length c.args.leaders.now) c.is_empty.result c.is_empty.ensures
    c.if-is_empty.false in
    source_told (leaders_of c.args.leaders.now) c.are_bases.result c.are_leaders.result
    c.are_leader_names.result (omega (arith, len, some)) (omega (arith, len))
    c.are_bases.ensures c.are_leaders.ensures c.are_leader_names.ensures
