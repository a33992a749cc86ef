-- A complete list whose question has a solution.
use Rattle.std.proofs.Common.{◌≡◌, ℕ, ℤ, ap, sym, subst, ◌∙◌, refl, List, [], ◌∷◌, ◌++◌, append_assoc, map, All}
use Rattle.std.proofs.lemmas.List.{map-append}
use Rattle.std.proofs.lemmas.List.Elements.{All-cons, All-head, All-nil, All-tail}
use Rattle.zr_base.specs.Points.{PointOf, num_of}
use Rattle.zr_lin.specs.Ineqs.{IneqHolds, IneqOf, Solves}
use Rattle.zr_game.specs.Players.{GameOf}
use Rattle.zr_game.specs.declared.choice.Choice.{Choice}
use Rattle.zr_game.specs.declared.kind.Kind.{Kind}
use Rattle.zr_system.specs.Choices.{IsComplete}
use Rattle.zr_system.specs.declared.line.Line.{Line}
use Rattle.zr_system.specs.Lines.{all_lines, base_lines, choice_lines, path_lines, row_of_line}
use Rattle.zr_system.specs.Regions.{LeavesOf}
use Rattle.zr_system.specs.System.{ineq_over, system_rows}
use Rattle.zr_system.specs.Unknowns.{columns}
use Rattle.zr_refute.specs.Refuting.{then_choice}
use Rattle.zr_choices.specs.Replies.{IsSolvedBy}
use Rattle.zr_comp.specs.Answers.{IsSolution}
use Rattle.zr_comp.specs.Cases.{AreMade, IsChoiceList}
use Rattle.zr_comp.specs.OpenPaths.{AreOpenChoices}

all_left : {A : Type 0} (P : A → Type 0) (xs ys : List A) → All P (xs ++ ys) → All P xs
all_left P [] ys all = All-nil P
all_left P (x ∷ xs) ys all =
    All-cons P x xs (All-head P x (xs ++ ys) all) (all_left P xs ys (All-tail P x (xs ++ ys) all))

module _ (game : GameOf) (leaves : LeavesOf) where
  lines_join : (path more : List Choice)
      → path_lines game leaves (path ++ more) ≡ path_lines game leaves path
      ++ path_lines game leaves more
  lines_join [] more = refl
  lines_join (c ∷ cs) more =
      ap (λ (ls : List Line). choice_lines game leaves c ++ ls) (lines_join cs more)
      ∙ sym (append_assoc (choice_lines game leaves c) (path_lines game leaves cs)
      (path_lines game leaves more))

  abbrev row : Line → IneqOf
  row line = ineq_over (columns game leaves) (row_of_line game leaves line)

  -- the rows under a path are among those under a longer one
  rows_join : (path more : List Choice) → system_rows game leaves (path ++ more)
      ≡ system_rows game leaves path ++ map row (path_lines game leaves more)
  rows_join path more =
      ap (λ (ls : List Line). map row (base_lines game leaves ++ ls)) (lines_join path more)
      ∙ ap (map row) (sym (append_assoc (base_lines game leaves) (path_lines game leaves path)
      (path_lines game leaves more)))
      ∙ map-append row (all_lines game leaves path) (path_lines game leaves more)

  solves_front : (path more : List Choice) (x : ℕ → ℤ) (d : ℤ)
      → Solves (system_rows game leaves (path ++ more)) x d
      → Solves (system_rows game leaves path) x d
  solves_front path more x d h = (
    h.0,
    all_left (IneqHolds x d) (system_rows game leaves path) (map row (path_lines game leaves more))
        (subst (All (IneqHolds x d)) (rows_join path more) h.1),
  )

  -- choices whose rows all are met by one solution lead to a node of an open tree
  made_open : (kind : Kind) (start path : List Choice) (x : ℕ → ℤ) (d : ℤ)
      → AreMade game leaves kind start path → Solves (system_rows game leaves (start ++ path)) x d
      → AreOpenChoices game leaves kind start path
  made_open kind start [] x d made solves = tt
  made_open kind start (c ∷ cs) x d made solves = (
    (x, d, solves_front start (c ∷ cs) x d solves),
    made.0,
    made_open kind (then_choice start c) cs x d made.1
        (subst (λ (p : List Choice). Solves (system_rows game leaves p) x d)
        (sym (append_assoc start (c ∷ []) cs)) solves),
  )

  pub solution_of : (kind : Kind) (path : List Choice) (x : PointOf)
      → IsChoiceList game leaves kind path → IsComplete game leaves kind path
      → IsSolvedBy game leaves path x → IsSolution game leaves kind x
  solution_of kind path x list complete solved = (
    path,
    record {
      exist = list.exist;
      suits = list.suits;
      complete = complete;
      once = list.once;
      open_is = made_open kind [] path (num_of x) x.den list.made solved.solves;
    },
    solved,
  )
