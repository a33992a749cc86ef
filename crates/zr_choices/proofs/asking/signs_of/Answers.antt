use Rattle.std.proofs.Common.{◌∙◌, sym, ap, length, List, [], ℕ}
use Rattle.zr_game.specs.Games.{game_of}
use Rattle.zr_system.specs.declared.unknown.Unknown.{Unknown}
use Rattle.zr_system.specs.Regions.{leaves_of}
use Rattle.zr_choices.specs.Signs.{is_up, numbers_of, sign_rows}
use Rattle.zr_choices.proofs.SignPlaces.{base_count}
use Rattle.zr_choices.proofs.asking.signs_of.Goals as goal

pub spread_rows-requires-clause-count : goal.spread_rows-requires-clause-count
spread_rows-requires-clause-count c =
    ap (λ (us : List Unknown). length (numbers_of is_up 0 us)) c.requires.order
    ∙ base_count (game_of c.args.game.now) (leaves_of c.args.leaves.now) []
    ∙ sym (ap (λ (rs : List ℕ). length rs) (c.deref-2.ensures.value ∙ c.in_ok-rows.ensures
    ∙ ap sign_rows (c.deref.ensures.value ∙ c.in-Ok.ensures)))
