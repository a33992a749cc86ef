use Rattle.std.proofs.Common.{◌≡◌, ◌+◌, ◌<◌, ◌≤◌, ◌∙◌, ℕ, Some, All, List, [], ◌∷◌, arith, ap, length, map, slice_get, subst, sym}
use Rattle.std.proofs.lemmas.List.{length-map}
use Rattle.std.proofs.lemmas.Result.{err_from_is_err_and}
use Rattle.zr_game.specs.declared.named.Named.{Named}
use Rattle.zr_game.specs.Forms.{IsPlayer}
use Rattle.zr_game.specs.Games.{game_of}
use Rattle.zr_game.specs.Named.{named_of}
use Rattle.zr_game.specs.Players.{PlayerOf}
use Rattle.zr_game.proofs.Items.{at_number, found, item}
use Rattle.zr_tree.specs.Nodes.{node_of}
use Rattle.zr_tree.specs.Scratches.{Places}
use Rattle.zr_cert.specs.Certs.{named_list, nodes_of}
use Rattle.zr_cert.specs.Forms.{AreNamed, IsNamedForm}
use Rattle.zr_cert.specs.Places.{case_line_number}
use Rattle.zr_check.specs.CoverPlaces.{HasTreePlaces}
use Rattle.zr_check.specs.Covers.{CoverLinesPass, CoverLinesRefused}
use Rattle.zr_check.proofs.CoverRooms.{one_place}
use Rattle.zr_check.proofs.CoverWalks.{CoversTo, all_covers, covers_refused, lines_fit, next_cover}
use Rattle.zr_check.proofs.covers.check_players.Goals as goal
use Rattle.zr_check.proofs.covers.check_players.Goals.{After-deref, After-len-in-loop-i}

module _ (c : After-deref) where
  many : c.loop-i.i < length c.args.named.now
  many = omega (arith, c.loop-i-test.true, c.requires.covers, c.requires.named)

  the_player : (player : PlayerOf) × IsPlayer (game_of c.args.game.now) c.loop-i.i player
  the_player =
      at_number (game_of c.args.game.now) c.loop-i.i
      (omega (arith, c.loop-i-test.true, c.requires.covers))

  at_nodes : slice_get (map nodes_of c.args.covers.now) c.loop-i.i
      ≡ Some (nodes_of c.index-covers-i.result)
  at_nodes =
      found nodes_of c.args.covers.now c.loop-i.i c.index-covers-i.result c.loop-i-test.true
      c.index-covers-i.is

  at_items : slice_get (map named_list c.args.named.now) c.loop-i.i
      ≡ Some (named_list c.index-named-i.result)
  at_items =
      found named_list c.args.named.now c.loop-i.i c.index-named-i.result many c.index-named-i.is

  fit : c.loop-i.line + (length (nodes_of c.index-covers-i.result)
      + (1 + length (named_list c.index-named-i.result)))
      ≤ case_line_number (map nodes_of c.args.covers.now) (map named_list c.args.named.now)
  fit =
      lines_fit (game_of c.args.game.now) (map nodes_of c.args.covers.now)
      (map named_list c.args.named.now) c.loop-i.i c.loop-i.line c.loop-i.invariant.0
      the_player.0 the_player.1 (nodes_of c.index-covers-i.result) at_nodes
      (named_list c.index-named-i.result) at_items

module _ (c : After-len-in-loop-i) where
  counts : c.len.result + (1 + c.len-in-loop-i.result)
      ≡ length (nodes_of c.index-covers-i.result)
      + (1 + length (named_list c.index-named-i.result))
  counts =
      let n = length-map c.index-covers-i.result.nodes.items node_of in
      let m = length-map c.index-named-i.result.items named_of in
      omega (
        arith,
        n,
        m,
        c.len.ensures,
        c.len-in-loop-i.ensures,
        c.index-covers-i.result.nodes.ok.0,
        c.index-named-i.result.ok.0,
      )

  below : c.loop-i.line + (length (nodes_of c.index-covers-i.result)
      + (1 + length (named_list c.index-named-i.result)))
      ≤ case_line_number (map nodes_of c.args.covers.now) (map named_list c.args.named.now)
      → c.loop-i.line + (c.len.result + (1 + c.len-in-loop-i.result)) < 4294967296
  below f = let e = counts in omega (arith, e, f, c.requires.lines)

pub check_player-requires-clause-forms : goal.check_player-requires-clause-forms
check_player-requires-clause-forms c =
    let at = (goal.at.check_player-requires-clause-forms c).After-deref in
    let forms = item named_list AreNamed c.args.named.now c.loop-i.i c.index-named-i.result
    c.requires.forms (many at) c.index-named-i.is in
    subst (λ (xs : List Named). All IsNamedForm (map named_of xs)) (sym c.deref.ensures.value)
    forms

pub check_player-requires-clause-lines : goal.check_player-requires-clause-lines
check_player-requires-clause-lines c =
    let f = fit ((goal.at.check_player-requires-clause-lines c).After-deref) in
    let e = ap length c.deref.ensures.value in
    let l = length-map c.index-named-i.result.items named_of in
    omega (arith, f, e, l, c.requires.lines)

pub check_player-requires-clause-scratch : goal.check_player-requires-clause-scratch
check_player-requires-clause-scratch c =
    let at = (goal.at.check_player-requires-clause-scratch c).After-deref in
    let nodes = nodes_of c.index-covers-i.result in
    subst (λ (s : Places). HasTreePlaces (game_of c.args.game.now) (nodes ∷ []) s)
    (sym c.loop-i.invariant.1)
    (one_place (game_of c.args.game.now) (map nodes_of c.args.covers.now) c.args.scratch.now
    c.loop-i.i nodes c.requires.scratch (at_nodes at))

pub returns-in_err-check_player-clause-err : goal.returns-in_err-check_player-clause-err
returns-in_err-check_player-clause-err c =
    let at = (goal.at.returns-in_err-check_player-clause-err c).After-deref in
    let p = err_from_is_err_and c.from_residual.result c.from_residual.ensures.1 in
    let who = the_player at in
    let nodes = nodes_of c.index-covers-i.result in
    let refused = subst (λ (xs : List Named). CoverLinesRefused who.0 nodes (map named_of xs)
    c.loop-i.line c.in_err-check_player.field-0.0) c.deref.ensures.value
    (c.in_err-check_player.ensures.err who.0 who.1) in
    rw (p.1, p.2) (covers_refused (game_of c.args.game.now) (map nodes_of c.args.covers.now)
    (map named_list c.args.named.now) c.loop-i.i c.loop-i.line c.loop-i.invariant.0 who.0 who.1
    nodes (at_nodes at) (named_list c.index-named-i.result) (at_items at) _ refused)

pub overflow_cast-line-in-loop-i : goal.overflow_cast-line-in-loop-i
overflow_cast-line-in-loop-i c =
    let b = below c (fit ((goal.at.overflow_cast-line-in-loop-i c).After-deref)) in
    omega (arith, b)

pub overflow_add-line : goal.overflow_add-line
overflow_add-line c =
    let b = below c (fit ((goal.at.overflow_add-line c).After-deref)) in omega (arith, b)

pub overflow_add-line-in-loop-i : goal.overflow_add-line-in-loop-i
overflow_add-line-in-loop-i c =
    let b = below c (fit ((goal.at.overflow_add-line-in-loop-i c).After-deref)) in
    omega (arith, b)

pub overflow_add-line-in-loop-i-2 : goal.overflow_add-line-in-loop-i-2
overflow_add-line-in-loop-i-2 c =
    let b = below c (fit ((goal.at.overflow_add-line-in-loop-i-2 c).After-deref)) in
    omega (arith, b)

pub loop-i-preserved : goal.loop-i-preserved
loop-i-preserved c =
    let at = (goal.at.loop-i-preserved c).After-deref in
    let game = game_of c.args.game.now in
    let covers = map nodes_of c.args.covers.now in
    let named = map named_list c.args.named.now in
    let who = the_player at in
    let nodes = nodes_of c.index-covers-i.result in
    let passes = subst (λ (xs : List Named). CoverLinesPass who.0 nodes (map named_of xs))
    c.deref.ensures.value (c.in_ok-check_player.ensures.ok who.0 who.1) in
    let next = next_cover game covers named c.loop-i.i c.loop-i.line c.loop-i.invariant.0 who.0
    who.1 nodes (at_nodes at) (named_list c.index-named-i.result) (at_items at) passes in (
      subst (λ (n : ℕ). CoversTo game covers named (c.loop-i.i + 1) (c.loop-i.line + n))
          (sym (counts c)) next,
      c.in_ok-check_player.ensures.scratch ∙ c.loop-i.invariant.1,
    )

pub returns-clause-ok : goal.returns-clause-ok
returns-clause-ok c =
    all_covers (game_of c.args.game.now) (map nodes_of c.args.covers.now)
    (map named_list c.args.named.now) c.loop-i.i c.loop-i.line c.loop-i.invariant.0
    (omega (arith, c.loop-i-test.false, c.requires.covers))
