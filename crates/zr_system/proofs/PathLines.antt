-- The rows of one choice more.
use Rattle.std.proofs.Common.{◌≡◌, ℕ, zero, suc, ◌+◌, ◌<◌, arith, sym, ap, ◌∙◌, List, [], ◌∷◌, ◌++◌, length, get_or, take, add-one, append_assoc, append-nil}
use Rattle.zr_game.specs.Players.{GameOf}
use Rattle.zr_game.specs.declared.choice.Choice.{Choice}
use Rattle.zr_system.specs.declared.line.Line.{Line}
use Rattle.zr_system.specs.Regions.{LeavesOf}
use Rattle.zr_system.specs.Lines.{choice_lines, path_lines}

module _ (game : GameOf) (leaves : LeavesOf) where
  longer : (path : List Choice) (k : ℕ) (d : Choice) → k < length path
      → path_lines game leaves (take (suc k) path) ≡ path_lines game leaves (take k path) ++
      choice_lines game leaves (get_or path k d)
  longer [] k d h = absurd (omega arith)
  longer (x ∷ xs) zero d h = append-nil (choice_lines game leaves x)
  longer (x ∷ xs) (suc k) d h =
      ap (λ (ls : List Line). choice_lines game leaves x ++ ls) (longer xs k d (omega arith))
      ∙ sym (append_assoc (choice_lines game leaves x) (path_lines game leaves (take k xs))
      (choice_lines game leaves (get_or xs k d)))

  pub path_more : (front : List Line) (path : List Choice) (k : ℕ) (d : Choice) (xs ys : List Line)
      → k < length path → xs ≡ front ++ path_lines game leaves (take k path)
      → ys ≡ xs ++ choice_lines game leaves (get_or path k d)
      → ys ≡ front ++ path_lines game leaves (take (k + 1) path)
  path_more front path k d xs ys h e f =
      let c = get_or path k d in
      let l = longer path k d h in
      let s : path_lines game leaves (take (k + 1) path) ≡ path_lines game leaves (take k path) ++
      choice_lines game leaves c = rw add-one l in
      f ∙ ap (λ (ls : List Line). ls ++ choice_lines game leaves c) e
      ∙ append_assoc front (path_lines game leaves (take k path)) (choice_lines game leaves c)
      ∙ ap (λ (ls : List Line). front ++ ls) (sym s)
