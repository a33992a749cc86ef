use Rattle.std.proofs.Common.{arith, ◌≡◌, ◌∙◌, sym, ap, ap₂, subst, length, map, List}
use Rattle.std.proofs.lemmas.List.{length-map}
use Rattle.std.proofs.lemmas.Result.{MatchResult-weaker, on_ok_weaker}
use Rattle.zr_game.specs.Games.{game_of}
use Rattle.zr_game.specs.Players.{player_of}
use Rattle.std.specs.Global.{Vec}
use Rattle.zr_game.specs.declared.named.Named.{Named}
use Rattle.zr_mix.specs.declared.mixture.Strategy.{Strategy}
use Rattle.zr_tree.specs.declared.tree.Tree.{Tree}
use Rattle.zr_cases.specs.Cases.{RNodeOf}
use Rattle.zr_cert.specs.declared.cert.Bound.{Bound}
use Rattle.zr_cert.specs.Certs.{BoxVerdict, CoverVerdict, EmptyVerdict, ProfileVerdict, bound_of, boxes_of, cases_of, mixture_of, named_list, nodes_of, verdict_of}
use Rattle.zr_cert.specs.Listed.{cert_of}
use Rattle.zr_check.specs.Rooms.{HasRoom, RoomOf}
use Rattle.zr_check.proofs.Answers.{exact_if, true_if}
use Rattle.zr_check.proofs.Verdicts.{cert_passes, cert_refused, cover_form, cover_lines, cover_places, tree_places, trees_within}
use Rattle.zr_check.proofs.check.check_cert.Goals as goal
use Rattle.zr_check.proofs.check.check_cert.Goals.{After-deref-in-NoneCover-2, Else-cert-len}

count : (c : Else-cert-len) → c.args.cert.now.players ≡ length (game_of c.args.game.now)
count c =
    let l = length-map c.args.game.now.players.items player_of in
    omega (arith, l, c.if-cert-len.false, c.len.ensures, c.args.game.now.players.ok.0)

of_slices : (xs ys : List Strategy) (bs cs : List Bound) → xs ≡ ys → bs ≡ cs → ProfileVerdict (map mixture_of ys) (map bound_of cs) ≡ ProfileVerdict (map mixture_of xs) (map bound_of bs)
of_slices xs ys bs cs e f = ap₂ (λ (us : List Strategy) (vs : List Bound). ProfileVerdict (map mixture_of us) (map bound_of vs)) (sym e) (sym f)

pub check_equilibrium-requires-clause-trees : goal.check_equilibrium-requires-clause-trees
check_equilibrium-requires-clause-trees c =
    trees_within c.args.cert.now.verdict (map bound_of c.deref-in-Profile.result.now) (map mixture_of c.deref.result.now) (ap verdict_of c.in-Profile.is ∙ of_slices c.deref.result.now _ c.deref-in-Profile.result.now _ c.deref.ensures.value c.deref-in-Profile.ensures.value) _ _ (sym (ap (λ (r : RoomOf). r.scratch.nodes) c.room.view_is)) c.requires.trees

pub returns-in-Profile-clause-ok : goal.returns-in-Profile-clause-ok
returns-in-Profile-clause-ok c =
    let cert = c.args.cert.now in
    on_ok_weaker c.check_equilibrium.result (cert_passes (game_of c.args.game.now) cert.kind cert.players (count ((goal.at.returns-in-Profile-clause-ok c).Else-cert-len)) cert.verdict (ProfileVerdict (map mixture_of c.deref.result.now) (map bound_of c.deref-in-Profile.result.now)) (ap verdict_of c.in-Profile.is ∙ of_slices c.deref.result.now _ c.deref-in-Profile.result.now _ c.deref.ensures.value c.deref-in-Profile.ensures.value)) c.check_equilibrium.ensures.ok

pub returns-in-Profile-clause-err : goal.returns-in-Profile-clause-err
returns-in-Profile-clause-err c =
    let cert = c.args.cert.now in
    MatchResult-weaker c.check_equilibrium.result c.check_equilibrium.ensures.err (λ u h. h) (cert_refused (game_of c.args.game.now) cert.kind cert.players (count ((goal.at.returns-in-Profile-clause-err c).Else-cert-len)) cert.verdict (ProfileVerdict (map mixture_of c.deref.result.now) (map bound_of c.deref-in-Profile.result.now)) (ap verdict_of c.in-Profile.is ∙ of_slices c.deref.result.now _ c.deref-in-Profile.result.now _ c.deref.ensures.value c.deref-in-Profile.ensures.value))

pub returns-in-NoneEmpty-clause-ok : goal.returns-in-NoneEmpty-clause-ok
returns-in-NoneEmpty-clause-ok c =
    let cert = c.args.cert.now in
    on_ok_weaker c.check_empty.result (cert_passes (game_of c.args.game.now) cert.kind cert.players (count ((goal.at.returns-in-NoneEmpty-clause-ok c).Else-cert-len)) cert.verdict (EmptyVerdict c.in-NoneEmpty.player (nodes_of c.in-NoneEmpty.tree)) (ap verdict_of c.in-NoneEmpty.is)) (c.check_empty.ensures.ok cert.kind)

pub returns-in-NoneEmpty-clause-err : goal.returns-in-NoneEmpty-clause-err
returns-in-NoneEmpty-clause-err c =
    let cert = c.args.cert.now in
    MatchResult-weaker c.check_empty.result (c.check_empty.ensures.err cert.kind) (λ u h. h) (cert_refused (game_of c.args.game.now) cert.kind cert.players (count ((goal.at.returns-in-NoneEmpty-clause-err c).Else-cert-len)) cert.verdict (EmptyVerdict c.in-NoneEmpty.player (nodes_of c.in-NoneEmpty.tree)) (ap verdict_of c.in-NoneEmpty.is))

pub returns-in-Profile-clause-exact : goal.returns-in-Profile-clause-exact
returns-in-Profile-clause-exact c =
    exact_if (game_of c.args.game.now) c.args.game.now.sound (cert_of c.args.cert.now) c.args.cert.now.sound c.check_equilibrium.result (returns-in-Profile-clause-ok c) (returns-in-Profile-clause-err c)

pub returns-in-Profile-clause-sound : goal.returns-in-Profile-clause-sound
returns-in-Profile-clause-sound c =
    true_if (game_of c.args.game.now) c.args.game.now.sound (cert_of c.args.cert.now) c.args.cert.now.sound c.check_equilibrium.result (returns-in-Profile-clause-ok c)

pub returns-in-NoneEmpty-clause-exact : goal.returns-in-NoneEmpty-clause-exact
returns-in-NoneEmpty-clause-exact c =
    exact_if (game_of c.args.game.now) c.args.game.now.sound (cert_of c.args.cert.now) c.args.cert.now.sound c.check_empty.result (returns-in-NoneEmpty-clause-ok c) (returns-in-NoneEmpty-clause-err c)

pub returns-in-NoneEmpty-clause-sound : goal.returns-in-NoneEmpty-clause-sound
returns-in-NoneEmpty-clause-sound c =
    true_if (game_of c.args.game.now) c.args.game.now.sound (cert_of c.args.cert.now) c.args.cert.now.sound c.check_empty.result (returns-in-NoneEmpty-clause-ok c)

of_covers : (xs ys : List Tree) (ms ns : List (Vec Named)) (proof : List RNodeOf) → xs ≡ ys
    → ms ≡ ns → CoverVerdict (map nodes_of ys) (map named_list ns) proof
    ≡ CoverVerdict (map nodes_of xs) (map named_list ms) proof
of_covers xs ys ms ns proof e f =
    ap₂ (λ (us : List Tree) (vs : List (Vec Named)). CoverVerdict (map nodes_of us)
    (map named_list vs) proof) (sym e) (sym f)

module _ (c : After-deref-in-NoneCover-2) where
  cover_is : verdict_of c.args.cert.now.verdict
      ≡ CoverVerdict (map nodes_of c.deref-in-NoneCover.result.now)
      (map named_list c.deref-in-NoneCover-2.result.now) (cases_of c.in-NoneCover.proof)
  cover_is =
      ap verdict_of c.in-NoneCover.is
      ∙ of_covers c.deref-in-NoneCover.result.now _ c.deref-in-NoneCover-2.result.now _
      (cases_of c.in-NoneCover.proof) c.deref-in-NoneCover.ensures.value
      c.deref-in-NoneCover-2.ensures.value

pub check_covers-requires-clause-form : goal.check_covers-requires-clause-form
check_covers-requires-clause-form c =
    let cert = c.args.cert.now in
    let at = goal.at.check_covers-requires-clause-form c in
    cover_form (game_of c.args.game.now) cert.kind cert.players cert.verdict _ _ _
    (cover_is at.After-deref-in-NoneCover-2) (count at.Else-cert-len) cert.sound

pub check_covers-requires-clause-lines : goal.check_covers-requires-clause-lines
check_covers-requires-clause-lines c =
    let cert = c.args.cert.now in
    let at = goal.at.check_covers-requires-clause-lines c in
    cover_lines (game_of c.args.game.now) cert.kind cert.players cert.verdict _ _ _
    (cover_is at.After-deref-in-NoneCover-2) cert.sound

pub check_covers-requires-clause-scratch : goal.check_covers-requires-clause-scratch
check_covers-requires-clause-scratch c =
    let cert = c.args.cert.now in
    let game = game_of c.args.game.now in
    let at = goal.at.check_covers-requires-clause-scratch c in
    let has = subst (HasRoom game (cert_of cert)) (sym c.room.view_is) c.requires in
    tree_places game cert.kind cert.players cert.verdict _ _ _
    (cover_is at.After-deref-in-NoneCover-2) _ has

pub check_covers-requires-clause-places : goal.check_covers-requires-clause-places
check_covers-requires-clause-places c =
    let cert = c.args.cert.now in
    let game = game_of c.args.game.now in
    let at = goal.at.check_covers-requires-clause-places c in
    let has = subst (HasRoom game (cert_of cert)) (sym c.room.view_is) c.requires in
    cover_places game cert.kind cert.players cert.verdict _ _ _
    (cover_is at.After-deref-in-NoneCover-2) _ has

pub returns-in-NoneCover-clause-ok : goal.returns-in-NoneCover-clause-ok
returns-in-NoneCover-clause-ok c =
    let cert = c.args.cert.now in
    let at = goal.at.returns-in-NoneCover-clause-ok c in
    on_ok_weaker c.check_covers.result (cert_passes (game_of c.args.game.now) cert.kind
    cert.players (count at.Else-cert-len) cert.verdict _
    (cover_is at.After-deref-in-NoneCover-2)) c.check_covers.ensures.ok

pub returns-in-NoneCover-clause-err : goal.returns-in-NoneCover-clause-err
returns-in-NoneCover-clause-err c =
    let cert = c.args.cert.now in
    let at = goal.at.returns-in-NoneCover-clause-err c in
    MatchResult-weaker c.check_covers.result c.check_covers.ensures.err (λ u h. h)
    (cert_refused (game_of c.args.game.now) cert.kind cert.players (count at.Else-cert-len)
    cert.verdict _ (cover_is at.After-deref-in-NoneCover-2))

pub returns-in-NoneCover-clause-exact : goal.returns-in-NoneCover-clause-exact
returns-in-NoneCover-clause-exact c =
    exact_if (game_of c.args.game.now) c.args.game.now.sound (cert_of c.args.cert.now)
    c.args.cert.now.sound c.check_covers.result (returns-in-NoneCover-clause-ok c)
    (returns-in-NoneCover-clause-err c)

pub returns-in-NoneCover-clause-sound : goal.returns-in-NoneCover-clause-sound
returns-in-NoneCover-clause-sound c =
    true_if (game_of c.args.game.now) c.args.game.now.sound (cert_of c.args.cert.now)
    c.args.cert.now.sound c.check_covers.result (returns-in-NoneCover-clause-ok c)

pub returns-in-NoneBoxes-clause-ok : goal.returns-in-NoneBoxes-clause-ok
returns-in-NoneBoxes-clause-ok c =
    let cert = c.args.cert.now in
    on_ok_weaker c.check_boxes.result (cert_passes (game_of c.args.game.now) cert.kind cert.players (count ((goal.at.returns-in-NoneBoxes-clause-ok c).Else-cert-len)) cert.verdict (BoxVerdict (boxes_of c.in-NoneBoxes.tree)) (ap verdict_of c.in-NoneBoxes.is)) c.check_boxes.ensures.ok

pub returns-in-NoneBoxes-clause-err : goal.returns-in-NoneBoxes-clause-err
returns-in-NoneBoxes-clause-err c =
    let cert = c.args.cert.now in
    MatchResult-weaker c.check_boxes.result c.check_boxes.ensures.err (λ u h. h) (cert_refused (game_of c.args.game.now) cert.kind cert.players (count ((goal.at.returns-in-NoneBoxes-clause-err c).Else-cert-len)) cert.verdict (BoxVerdict (boxes_of c.in-NoneBoxes.tree)) (ap verdict_of c.in-NoneBoxes.is))

pub returns-in-NoneBoxes-clause-exact : goal.returns-in-NoneBoxes-clause-exact
returns-in-NoneBoxes-clause-exact c =
    exact_if (game_of c.args.game.now) c.args.game.now.sound (cert_of c.args.cert.now) c.args.cert.now.sound c.check_boxes.result (returns-in-NoneBoxes-clause-ok c) (returns-in-NoneBoxes-clause-err c)

pub returns-in-NoneBoxes-clause-sound : goal.returns-in-NoneBoxes-clause-sound
returns-in-NoneBoxes-clause-sound c =
    true_if (game_of c.args.game.now) c.args.game.now.sound (cert_of c.args.cert.now) c.args.cert.now.sound c.check_boxes.result (returns-in-NoneBoxes-clause-ok c)
