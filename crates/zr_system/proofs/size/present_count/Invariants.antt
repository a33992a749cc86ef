use Rattle.std.proofs.Common.{◌≡◌, [], ◌∷◌, length, if◌then◌else◌, ◌≤◌}
use Rattle.zr_game.specs.Games.{game_of}
use Rattle.zr_system.specs.declared.unknown.Unknown.TheVariants.{Dual}
use Rattle.zr_system.specs.Regions.{is_present, leaves_of}
use Rattle.zr_system.specs.Unknowns.{list_to}
use Rattle.zr_system.proofs.size.present_count.Given as goal

abbrev pub invariant-loop-s : goal.invariant-loop-s
invariant-loop-s l = record {
  count : l.count ≡ length (list_to l.s (λ s. if is_present (game_of l.game) (leaves_of l.leaves)
      l.i l.k s then Dual l.i l.k s ∷ [] else []));
  few : l.count ≤ l.s;
}
