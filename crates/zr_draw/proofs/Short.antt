-- A player's leaves draw no more parts than the system has cells.
use Rattle.std.proofs.Common.{◌≡◌, ◌≢◌, ℕ, zero, suc, ◌<◌, ◌≤◌, arith, refl, ap, ℤ, pos, int_lt, Bool, true, false, List, [], ◌∷◌, length, length-append, ⊎_elim, if◌then◌else◌}
use Rattle.std.proofs.lemmas.Bool.{cases_eq}
use Rattle.zr_game.specs.Players.{GameOf}
use Rattle.zr_game.specs.Profiles.{Strategy}
use Rattle.zr_comp.proofs.Few.{few_columns}
use Rattle.zr_system.specs.declared.unknown.Unknown.{Unknown}
use Rattle.zr_system.specs.declared.unknown.Unknown.TheVariants.{Weight}
use Rattle.zr_system.specs.Drawn.{drawn_part, drawn_strategy, drawn_to}
use Rattle.zr_system.specs.Regions.{LeavesOf, is_exact, leaf_count}
use Rattle.zr_system.specs.System.{cell_count}
use Rattle.zr_system.specs.Unknowns.{duals, leaf_unknowns, list_to, player_unknowns, shares}

module _ {A : Type 0} (f : ℕ → List A) where
  at_least : (n : ℕ) → ((k : ℕ) → 0 < length (f k)) → n ≤ length (list_to n f)
  at_least zero some = omega arith
  at_least (suc n) some =
      let a = at_least n some in
      let l = length-append (list_to n f) (f n) in
      let s = some n in
      omega (arith, a, l, s)

  within : (n i : ℕ) → i < n → length (f i) ≤ length (list_to n f)
  within zero i h = absurd (omega (arith, h))
  within (suc n) i h =
      let l = length-append (list_to n f) (f n) in
      ⊎_elim (λ (e : i ≡ n). let s = ap (λ (k : ℕ). length (f k)) e in omega (arith, l, s))
      (λ (d : i ≢ n). let r = within n i (omega (arith, h, d)) in omega (arith, l, r))
      (cases_eq i n)

-- one part or none for each leaf
parts_to : (game : GameOf) (x : Unknown → ℤ) (i n : ℕ) → length (drawn_to game x i n) ≤ n
parts_to game x i zero = omega arith
parts_to game x i (suc n) = tested (int_lt (pos 0) (x (Weight i n))) refl (parts_to game x i n)
  where
    one : Strategy
    one = if int_lt (pos 0) (x (Weight i n)) then drawn_part game x i n ∷ [] else []

    joined : length one ≤ 1 → length (drawn_to game x i n) ≤ n
        → length (drawn_to game x i (suc n)) ≤ suc n
    joined o rest =
        let l = length-append (drawn_to game x i n) one in omega (arith, l, o, rest)

    tested : (b : Bool) → int_lt (pos 0) (x (Weight i n)) ≡ b
        → length (drawn_to game x i n) ≤ n → length (drawn_to game x i (suc n)) ≤ suc n
    tested true e rest = joined (rw e (omega arith)) rest
    tested false e rest = joined (rw e (omega arith)) rest

pub few_parts : (game : GameOf) (leaves : LeavesOf) (x : Unknown → ℤ) (i most : ℕ)
    → i < length game → cell_count game leaves ≤ most
    → length (drawn_strategy game leaves x i) ≤ most
few_parts game leaves x i most h cells =
    let own = λ (k : ℕ). leaf_unknowns game leaves i k in
    let p = parts_to game x i (leaf_count leaves i) in
    let a = at_least own (leaf_count leaves i) (λ k. let l = length-append (shares game i k)
    (Weight i k ∷ (if is_exact leaves i k then duals game leaves i k else [])) in
    omega (arith, l)) in
    let b = within (λ (j : ℕ). player_unknowns game leaves j) (length game) i h in
    let c = few_columns game leaves most cells in
    omega (arith, p, a, b, c)
