-- Each unknown has one column.
use Rattle.std.proofs.Common.{◌≡◌, ℕ, zero, suc, ◌<◌, arith, refl, sym, ◌∙◌, List, [], ◌∷◌, length, get_or, slice_get, Some}
use Rattle.zr_game.specs.Players.{GameOf}
use Rattle.zr_system.specs.declared.unknown.Unknown.{Unknown}
use Rattle.zr_system.specs.declared.unknown.Unknown.TheVariants.{One}
use Rattle.zr_system.specs.Regions.{LeavesOf}
use Rattle.zr_system.specs.Unknowns.{columns}
use Rattle.zr_system.proofs.ColumnOnce.{none_else, one_column}

some_at : (us : List Unknown) (j : ℕ) → j < length us → slice_get us j ≡ Some (get_or us j One)
some_at [] j h = absurd (omega (arith, h))
some_at (u ∷ us) zero h = refl
some_at (u ∷ us) (suc j) h = some_at us j (omega (arith, h))

module _ (game : GameOf) (leaves : LeavesOf) where
  pub columns_apart : (j k : ℕ) → j < length (columns game leaves)
      → k < length (columns game leaves)
      → get_or (columns game leaves) j One ≡ get_or (columns game leaves) k One → j ≡ k
  columns_apart j k h l e =
      let us = columns game leaves in
      let u = get_or us j One in
      let a = some_at us j h in
      let b : slice_get us k ≡ Some u = rw e (some_at us k l) in
      let one = one_column game leaves u (none_else game leaves j u a) in
      one.2 j a ∙ sym (one.2 k b)
