use Rattle.std.proofs.Common.{arith, ◌≡◌, Err, ap, refl, subst, length, map, List}
use Rattle.std.proofs.lemmas.List.{length-map}
use Rattle.std.proofs.lemmas.Result.{MatchResult-weaker, on_ok_weaker}
use Rattle.zr_game.specs.Games.{game_of}
use Rattle.zr_game.specs.Players.{player_of}
use Rattle.zr_mix.specs.declared.mixture.Strategy.{Strategy}
use Rattle.zr_cert.specs.declared.fault.CertFault.TheVariants.{Bad}
use Rattle.zr_cert.specs.Certs.{BoxVerdict, CoverVerdict, EmptyVerdict, boxes_of, cases_of, mixture_of, named_list, nodes_of, verdict_of}
use Rattle.zr_cert.specs.Listed.{cert_of}
use Rattle.zr_check.specs.Parts.{StrategiesPass, StrategiesRefused}
use Rattle.zr_check.proofs.Answers.{head_if}
use Rattle.zr_check.proofs.Verdicts.{head_passes, head_refused}
use Rattle.zr_check.proofs.check.check_profile.Goals as goal
use Rattle.zr_check.proofs.check.check_profile.Goals.{Else-cert-len}

count : (c : Else-cert-len) → c.args.cert.now.players ≡ length (game_of c.args.game.now)
count c =
    let l = length-map c.args.game.now.players.items player_of in
    omega (arith, l, c.if-cert-len.false, c.len.ensures, c.args.game.now.players.ok.0)

pub returns-in-Profile-clause-ok : goal.returns-in-Profile-clause-ok
returns-in-Profile-clause-ok c =
    let game = game_of c.args.game.now in
    let cert = c.args.cert.now in
    let players = count ((goal.at.returns-in-Profile-clause-ok c).Else-cert-len) in
    let verdict = ap verdict_of c.in-Profile.is in
    let pass = λ (xs : List Strategy). StrategiesPass game cert.kind (map mixture_of xs) in
    on_ok_weaker c.check_head.result (λ passes. head_passes game cert.kind cert.players players cert.verdict _ verdict (subst pass c.deref.ensures.value passes)) c.check_head.ensures.ok

pub returns-in-Profile-clause-err : goal.returns-in-Profile-clause-err
returns-in-Profile-clause-err c =
    let game = game_of c.args.game.now in
    let cert = c.args.cert.now in
    let players = count ((goal.at.returns-in-Profile-clause-err c).Else-cert-len) in
    let verdict = ap verdict_of c.in-Profile.is in
    MatchResult-weaker c.check_head.result c.check_head.ensures.err (λ u h. h) (λ fault refused. head_refused game cert.kind cert.players players cert.verdict _ verdict fault (subst (λ (xs : List Strategy). StrategiesRefused game cert.kind (map mixture_of xs) fault) c.deref.ensures.value refused))

pub returns-in-Profile-clause-exact : goal.returns-in-Profile-clause-exact
returns-in-Profile-clause-exact c =
    let game = game_of c.args.game.now in
    let cert = c.args.cert.now in
    head_if game c.args.game.now.sound (cert_of cert) cert.sound c.check_head.result (returns-in-Profile-clause-ok c) (returns-in-Profile-clause-err c)

pub returns-in-NoneEmpty-clause-exact : goal.returns-in-NoneEmpty-clause-exact
returns-in-NoneEmpty-clause-exact c =
    let game = game_of c.args.game.now in
    let cert = c.args.cert.now in
    let players = count ((goal.at.returns-in-NoneEmpty-clause-exact c).Else-cert-len) in
    let verdict = EmptyVerdict c.in-NoneEmpty.player (nodes_of c.in-NoneEmpty.tree) in
    let refused = head_refused game cert.kind cert.players players cert.verdict verdict (ap verdict_of c.in-NoneEmpty.is) (Bad 3) refl in
    head_if game c.args.game.now.sound (cert_of cert) cert.sound (Err (Bad 3)) tt refused

pub returns-in-NoneCover-clause-exact : goal.returns-in-NoneCover-clause-exact
returns-in-NoneCover-clause-exact c =
    let game = game_of c.args.game.now in
    let cert = c.args.cert.now in
    let players = count ((goal.at.returns-in-NoneCover-clause-exact c).Else-cert-len) in
    let refused = head_refused game cert.kind cert.players players cert.verdict (CoverVerdict (map nodes_of c.in-NoneCover.covers.items) (map named_list c.in-NoneCover.named.items) (cases_of c.in-NoneCover.proof)) (ap verdict_of c.in-NoneCover.is) (Bad 3) refl in
    head_if game c.args.game.now.sound (cert_of cert) cert.sound (Err (Bad 3)) tt refused

pub returns-in-NoneBoxes-clause-exact : goal.returns-in-NoneBoxes-clause-exact
returns-in-NoneBoxes-clause-exact c =
    let game = game_of c.args.game.now in
    let cert = c.args.cert.now in
    let players = count ((goal.at.returns-in-NoneBoxes-clause-exact c).Else-cert-len) in
    let refused = head_refused game cert.kind cert.players players cert.verdict (BoxVerdict (boxes_of c.in-NoneBoxes.tree)) (ap verdict_of c.in-NoneBoxes.is) (Bad 3) refl in
    head_if game c.args.game.now.sound (cert_of cert) cert.sound (Err (Bad 3)) tt refused
