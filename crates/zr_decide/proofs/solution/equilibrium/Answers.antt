use Rattle.std.proofs.Common.{◌∙◌, arith, map, subst, sym}
use Rattle.std.proofs.lemmas.List.{length-map}
use Rattle.zr_game.specs.Games.{game_of}
use Rattle.zr_cert.specs.Certs.{CertOf, ProfileVerdict, bound_of, mixtures_of, nodes_of}
use Rattle.zr_system.specs.Regions.{leaves_of}
use Rattle.zr_decide.specs.Answers.{IsVerdictWithin}
use Rattle.zr_decide.proofs.Drawing.{covers_count, has_covers, is_drawn, leaves_cover, leaves_exact, played, profile_few, profile_form, profile_right}
use Rattle.zr_decide.specs.Later.{IsBoundsStop}
use Rattle.zr_decide.proofs.DrawnCerts.{drawn_cert}
use Rattle.zr_decide.proofs.Loosening.{bounds_cause, naming_after, open_below}
use Rattle.zr_decide.proofs.Rights.{right_cert}
use Rattle.zr_decide.proofs.Working.{all_work, no_work}
use Rattle.zr_decide.proofs.solution.equilibrium.Goals as goal

pub draw-requires-clause-covers : goal.draw-requires-clause-covers
draw-requires-clause-covers c =
    leaves_cover (game_of c.args.game.now) (map nodes_of c.args.covers.items) (leaves_of c.args.leaves.now)
    c.requires.covers c.args.game.now.sound

pub draw-requires-clause-exact : goal.draw-requires-clause-exact
draw-requires-clause-exact c = leaves_exact (game_of c.args.game.now) (map nodes_of c.args.covers.items) (leaves_of c.args.leaves.now)
    c.requires.covers

pub returns-in-Err-clause-spends : goal.returns-in-Err-clause-spends
returns-in-Err-clause-spends c =
    all_work (game_of c.args.game.now) 0 c.args.purse.now c.args.purse.now (no_work (game_of c.args.game.now) c.args.purse.now)

pub bounds-requires-clause-played : goal.bounds-requires-clause-played
bounds-requires-clause-played c =
    played (game_of c.args.game.now) (map nodes_of c.args.covers.items) (leaves_of c.args.leaves.now)
    c.requires.covers c.args.kind
    c.args.x.now (mixtures_of c.in-Ok.profile) c.in-Ok.ensures.drawn

pub bounds-requires-clause-equilibrium : goal.bounds-requires-clause-equilibrium
bounds-requires-clause-equilibrium c = c.in-Ok.ensures.drawn.equilibrium

pub certificate-requires-clause-form : goal.certificate-requires-clause-form
certificate-requires-clause-form c =
    profile_form (game_of c.args.game.now) (map nodes_of c.args.covers.items) (leaves_of c.args.leaves.now)
    c.requires.covers c.args.kind
    c.args.x.now (mixtures_of c.in-Ok.profile) c.in-Ok.ensures.drawn
    (map bound_of c.in-Ok-bounds.bounds.items)
    c.in-Ok-bounds.ensures.bounds

pub certificate-requires-clause-few : goal.certificate-requires-clause-few
certificate-requires-clause-few c =
    let within = c.bounds.new.purse.within in
    let same = c.in-Ok-bounds.ensures.spends.limit in
    let limit = c.requires.limit in
    profile_few (game_of c.args.game.now) (map nodes_of c.args.covers.items) (leaves_of c.args.leaves.now)
    c.requires.covers c.args.kind
    c.args.x.now (mixtures_of c.in-Ok.profile) c.in-Ok.ensures.drawn
    (map bound_of c.in-Ok-bounds.bounds.items)
    c.in-Ok-bounds.ensures.bounds c.in-Ok.ensures.few c.args.purse.now
    c.bounds.new.purse c.in-Ok-bounds.ensures.few (omega (arith, within, same, limit))
    c.args.game.now.sound.player_count

pub returns-in-Ok-bounds-clause-right : goal.returns-in-Ok-bounds-clause-right
returns-in-Ok-bounds-clause-right c =
    right_cert (game_of c.args.game.now) c.args.kind c.certificate.result
    (ProfileVerdict (mixtures_of c.in-Ok.profile) (map bound_of c.in-Ok-bounds.bounds.items))
    c.certificate.ensures
    (profile_right (game_of c.args.game.now) (map nodes_of c.args.covers.items) (leaves_of c.args.leaves.now)
    c.requires.covers c.args.kind
    c.args.x.now (mixtures_of c.in-Ok.profile) c.in-Ok.ensures.drawn
    (map bound_of c.in-Ok-bounds.bounds.items)
    c.in-Ok-bounds.ensures.bounds)

pub returns-in-Ok-bounds-clause-within : goal.returns-in-Ok-bounds-clause-within
returns-in-Ok-bounds-clause-within c =
    subst (λ (x : CertOf). IsVerdictWithin (game_of c.args.game.now) x.verdict) (sym c.certificate.ensures)
    (has_covers (game_of c.args.game.now) (map nodes_of c.args.covers.items) (leaves_of c.args.leaves.now)
    c.requires.covers c.args.kind
    c.args.x.now (mixtures_of c.in-Ok.profile) c.in-Ok.ensures.drawn)

pub names_with-requires-clause-player : goal.names_with-requires-clause-player
names_with-requires-clause-player c i e =
    open_below (game_of c.args.game.now) (mixtures_of c.in-Ok.profile) c.args.purse.now c.bounds.new.purse
    c.in-Err-bounds.stop c.in-Err-bounds.ensures.cause i e

pub names_with-requires-clause-covers : goal.names_with-requires-clause-covers
names_with-requires-clause-covers c =
    sym (length-map c.args.covers.items nodes_of)
    ∙ covers_count (game_of c.args.game.now) (map nodes_of c.args.covers.items) (leaves_of c.args.leaves.now)
    c.requires.covers

pub returns-in-Ok-names_with-clause-cause : goal.returns-in-Ok-names_with-clause-cause
returns-in-Ok-names_with-clause-cause c =
    subst (IsBoundsStop (game_of c.args.game.now) c.args.kind c.args.purse.now c.names_with.new.purse)
    (sym c.stop_of.ensures)
    (bounds_cause (game_of c.args.game.now) c.args.game.now.sound c.args.kind (mixtures_of c.in-Ok.profile)
    (is_drawn (game_of c.args.game.now) (map nodes_of c.args.covers.items) (leaves_of c.args.leaves.now)
    c.requires.covers c.args.kind
    c.args.x.now (mixtures_of c.in-Ok.profile) c.in-Ok.ensures.drawn)
    c.in-Ok-names_with.named c.args.purse.now c.bounds.new.purse c.names_with.new.purse
    c.in-Ok-names_with.ensures.purse c.in-Err-bounds.stop c.in-Err-bounds.ensures.cause
    (λ i e. c.in-Ok-names_with.ensures.named c.requires.covers.trees c.requires.covers.listed i e))

pub returns-in-Ok-names_with-clause-spends : goal.returns-in-Ok-names_with-clause-spends
returns-in-Ok-names_with-clause-spends c =
    naming_after (game_of c.args.game.now) c.args.purse.now c.bounds.new.purse c.names_with.new.purse
    c.in-Err-bounds.ensures.spends c.in-Ok-names_with.ensures.purse

pub returns-in-Ok-bounds-clause-drawn : goal.returns-in-Ok-bounds-clause-drawn
returns-in-Ok-bounds-clause-drawn c =
    drawn_cert (game_of c.args.game.now) c.args.kind c.certificate.result
    (ProfileVerdict (mixtures_of c.in-Ok.profile) (map bound_of c.in-Ok-bounds.bounds.items))
    c.certificate.ensures (
      is_drawn (game_of c.args.game.now) (map nodes_of c.args.covers.items) (leaves_of c.args.leaves.now)
          c.requires.covers c.args.kind c.args.x.now (mixtures_of c.in-Ok.profile) c.in-Ok.ensures.drawn,
      c.in-Ok-bounds.ensures.drawn,
    )
