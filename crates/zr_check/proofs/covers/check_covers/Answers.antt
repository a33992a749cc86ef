use Rattle.std.proofs.Common.{ℕ, Option, inr, map, subst}
use Rattle.std.proofs.lemmas.Result.{MatchResult-weaker, on_ok_weaker}
use Rattle.zr_game.specs.Games.{game_of}
use Rattle.zr_cert.specs.Certs.{cases_of, named_list, nodes_of}
use Rattle.zr_check.specs.declared.room.CoverRoom.{CoverRoom}
use Rattle.zr_check.specs.CoverPlaces.{HasCoverPlaces, IsCoverRoom}
use Rattle.zr_check.specs.Covers.{ProofRefused}
use Rattle.zr_check.proofs.CoverRooms.{proof_passed, proof_refused, room_is_there, room_whole}
use Rattle.zr_check.proofs.covers.check_covers.Goals as goal
use Rattle.zr_check.proofs.covers.check_covers.Goals.{In-Some}

room_is : (c : In-Some) → IsCoverRoom (game_of c.args.game.now) (map nodes_of c.args.covers.now)
    (map named_list c.args.named.now) (cases_of c.args.proof.now) c.in-Some.room
room_is c =
    subst (λ (o : Option CoverRoom). HasCoverPlaces (game_of c.args.game.now)
    (map nodes_of c.args.covers.now) (map named_list c.args.named.now)
    (cases_of c.args.proof.now) o) c.in-Some.is c.requires.places

pub check_cases-requires-clause-whole : goal.check_cases-requires-clause-whole
check_cases-requires-clause-whole c =
    room_whole (game_of c.args.game.now) (map nodes_of c.args.covers.now)
    (map named_list c.args.named.now) (cases_of c.args.proof.now) c.requires.form c.in-Some.room
    (room_is c)

pub unreachable-requires : goal.unreachable-requires
unreachable-requires c =
    let game = game_of c.args.game.now in
    let covers = map nodes_of c.args.covers.now in
    let named = map named_list c.args.named.now in
    let proof = cases_of c.args.proof.now in
    room_is_there game covers named proof c.requires.form c.in_ok-line.ensures.ok
    (subst (λ (o : Option CoverRoom). HasCoverPlaces game covers named proof o) c.in-None.is
    c.requires.places)

pub returns-clause-ok : goal.returns-clause-ok
returns-clause-ok c =
    let is = room_is ((goal.at.returns-clause-ok c).In-Some) in
    on_ok_weaker c.check_cases.result (λ passes. (
      c.in_ok-line.ensures.ok,
      proof_passed (game_of c.args.game.now) (map nodes_of c.args.covers.now)
          (map named_list c.args.named.now) (cases_of c.args.proof.now) c.requires.form
          c.in-Some.room is c.args.kind passes,
    )) c.check_cases.ensures.ok

pub returns-clause-err : goal.returns-clause-err
returns-clause-err c =
    let game = game_of c.args.game.now in
    let covers = map nodes_of c.args.covers.now in
    let named = map named_list c.args.named.now in
    let proof = cases_of c.args.proof.now in
    let is = room_is ((goal.at.returns-clause-err c).In-Some) in
    MatchResult-weaker c.check_cases.result c.check_cases.ensures.err (λ u h. h)
    (λ fault refused. inr (
      c.in_ok-line.ensures.ok,
      subst (λ (n : ℕ). ProofRefused game c.args.kind covers named proof n fault)
          c.in_ok-line.ensures.line
          (proof_refused game covers named proof c.requires.form c.in-Some.room is c.args.kind
          c.in_ok-line.line fault refused),
    ))
