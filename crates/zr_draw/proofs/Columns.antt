-- Where a point meets the rows over the columns, the numbers of the unknowns solve the system.
use Rattle.std.proofs.Common.{◌≡◌, ℕ, zero, suc, ◌+◌, ◌<◌, arith, refl, sym, ap, ap₂, add-one, subst, ◌∙◌, ℤ, pos, neg_ℤ, ◌+ℤ◌, ◌*ℤ◌, Bool, true, false, Some, List, [], ◌∷◌, ◌++◌, length, get_or, slice_get}
use Rattle.std.specs.Ordering.{int_eq}
use Rattle.std.proofs.lemmas.Option.{same_Some, slice_get-get_or, slice_get_within}
use Rattle.zr_base.specs.Points.{PointOf, num_of}
use Rattle.zr_base.specs.Terms.{value_at}
use Rattle.zr_base.proofs.Members.{each_weaker}
use Rattle.zr_lin.specs.DenseRows.{IsBelow}
use Rattle.zr_lin.specs.Ineqs.{IneqHolds, IneqOf, Solves}
use Rattle.zr_game.specs.Players.{GameOf}
use Rattle.zr_game.specs.declared.choice.Choice.{Choice}
use Rattle.zr_game.specs.declared.kind.Kind.{Kind}
use Rattle.zr_system.specs.declared.line.Line.{Line}
use Rattle.zr_system.specs.declared.unknown.Unknown.{Unknown}
use Rattle.zr_system.specs.declared.unknown.Unknown.TheVariants.{One}
use Rattle.zr_system.specs.Asked.{firsts}
use Rattle.zr_system.specs.Choices.{SolvesComplete}
use Rattle.zr_system.specs.Forms.{Form, FormRow, is_same, number_at}
use Rattle.zr_system.specs.Lines.{all_lines, row_of_line}
use Rattle.zr_system.specs.Regions.{LeavesOf}
use Rattle.zr_system.specs.System.{ineq_over, system_rows, terms_from}
use Rattle.zr_system.specs.Unknowns.{columns}
use Rattle.zr_system.proofs.ColumnForms.{by_columns}
use Rattle.zr_system.proofs.ColumnOnce.{none_else, one_column}
use Rattle.zr_system.proofs.Expansion.{same_is, same_self}
use Rattle.zr_system.proofs.Joined.{all_mapped, of_all_mapped}
use Rattle.zr_choices.specs.Replies.{IsSolvedBy}
use Rattle.zr_comp.specs.Answers.{IsCompleteList}
use Rattle.zr_draw.specs.Numbers.{HasColumns, number_from, numbers_of}

-- one number more of a list of numbers
pub one_more : (n : ℕ) (f : ℕ → ℤ) (z : ℤ) (old new : List ℤ) → old ≡ firsts n f
    → new ≡ old ++ (z ∷ []) → z ≡ f n → new ≡ firsts (n + 1) f
one_more n f z old new e g h =
    let s : firsts (n + 1) f ≡ firsts n f ++ (f n ∷ []) = rw add-one refl in
    g ∙ ap₂ (λ (zs : List ℤ) (a : ℤ). zs ++ (a ∷ [])) e h ∙ sym s

module _ (x : PointOf) (u : Unknown) where
  -- at the one place where the unknown stands
  at_place : (us : List Unknown) (j m : ℕ) → slice_get us j ≡ Some u
      → ((k : ℕ) → slice_get us k ≡ Some u → k ≡ j) → number_from m us x u ≡ num_of x (m + j)
  at_place [] j m h once = absurd cc
  at_place (w ∷ ws) zero m h once =
      let t : is_same w u ≡ true = rw (same_Some w u h) (same_self u) in
      let e : m ≡ m + 0 = omega arith in
      rw t (ap (num_of x) e)
  at_place (w ∷ ws) (suc j) m h once = tested (is_same w u) refl (at_place ws j (suc m) h
      (λ k p. let q = once (suc k) p in omega (arith, q)))
    where
      tested : (b : Bool) → is_same w u ≡ b → number_from (suc m) ws x u ≡ num_of x (suc m + j)
          → number_from m (w ∷ ws) x u ≡ num_of x (m + suc j)
      tested true s rest =
          let q = once 0 (ap (λ a. Some a) (same_is w u s)) in absurd (omega (arith, q))
      tested false s rest =
          let e : suc m + j ≡ m + suc j = omega arith in
          rw s (rest ∙ ap (num_of x) e)

  nowhere : (us : List Unknown) (m : ℕ) → ((k : ℕ) → slice_get us k ≡ Some u → ⊥)
      → number_from m us x u ≡ x.den
  nowhere [] m none = refl
  nowhere (w ∷ ws) m none =
      tested (is_same w u) refl (nowhere ws (suc m) (λ k p. none (suc k) p))
    where
      tested : (b : Bool) → is_same w u ≡ b → number_from (suc m) ws x u ≡ x.den
          → number_from m (w ∷ ws) x u ≡ x.den
      tested true s rest = absurd (none 0 (ap (λ a. Some a) (same_is w u s)))
      tested false s rest = rw s rest

-- terms go by the numbers at the columns alone
same_value : (f : Form) (us : List Unknown) (m : ℕ) (p q : ℕ → ℤ)
    → ((j : ℕ) → j < length us → p (m + j) ≡ q (m + j))
    → value_at (terms_from m us f) p ≡ value_at (terms_from m us f) q
same_value f [] m p q same = refl
same_value f (u ∷ us) m p q same =
    tested (int_eq (number_at f u) (pos 0)) refl (same_value f us (m + 1) p q later)
  where
    first : p m ≡ q m
    first = let e : m + 0 ≡ m = omega arith in
        subst (λ n. p n ≡ q n) e (same 0 (omega arith))

    later : (j : ℕ) → j < length us → p (m + 1 + j) ≡ q (m + 1 + j)
    later j h = let e : m + suc j ≡ m + 1 + j = omega arith in
        subst (λ n. p n ≡ q n) e (same (suc j) (omega (arith, h)))

    tested : (b : Bool) → int_eq (number_at f u) (pos 0) ≡ b
        → value_at (terms_from (m + 1) us f) p ≡ value_at (terms_from (m + 1) us f) q
        → value_at (terms_from m (u ∷ us) f) p ≡ value_at (terms_from m (u ∷ us) f) q
    tested true s rest = rw s rest
    tested false s rest =
        rw s (ap (λ z. number_at f u *ℤ z +ℤ value_at (terms_from (m + 1) us f) p) first
        ∙ ap (λ z. number_at f u *ℤ q m +ℤ z) rest)

module _ (game : GameOf) (leaves : LeavesOf) where
  abbrev ineq : Line → IneqOf
  ineq line = ineq_over (columns game leaves) (row_of_line game leaves line)

  module _ (p q : ℕ → ℤ) (d : ℤ)
      (same : (j : ℕ) → j < length (columns game leaves) → p j ≡ q j) where
    same_row : (row : FormRow) → IneqHolds p d (ineq_over (columns game leaves) row)
        → IneqHolds q d (ineq_over (columns game leaves) row)
    same_row row h =
        subst (λ (z : ℤ). IsBelow row.strict z (neg_ℤ (number_at row.left One) *ℤ d))
        (same_value row.left (columns game leaves) 0 p q
        (λ j b. let e : j ≡ 0 + j = omega arith in
        subst (λ (n : ℕ). p n ≡ q n) e (same j b))) h

    same_solution : (path : List Choice) → Solves (system_rows game leaves path) p d
        → Solves (system_rows game leaves path) q d
    same_solution path h = (
      h.0,
      all_mapped ineq (IneqHolds q d) (all_lines game leaves path)
          (each_weaker (λ line. IneqHolds p d (ineq line)) (λ line. IneqHolds q d (ineq line))
          (all_lines game leaves path) (λ line r. same_row (row_of_line game leaves line) r)
          (of_all_mapped ineq (IneqHolds p d) (all_lines game leaves path) h.1)),
    )

  module _ (x : PointOf) where
    -- the unknown of a column has the number there
    pub number_is : (j : ℕ) (u : Unknown) → slice_get (columns game leaves) j ≡ Some u
        → numbers_of game leaves x u ≡ num_of x j
    number_is j u e =
        let one = one_column game leaves u (none_else game leaves j u e) in
        let z : 0 + j ≡ j = omega arith in
        at_place x u (columns game leaves) j 0 e (λ k p. one.2 k p ∙ sym (one.2 j e))
        ∙ ap (num_of x) z

    -- there the point has a number
    pub place_below : HasColumns game leaves x → (j : ℕ) (u : Unknown)
        → slice_get (columns game leaves) j ≡ Some u → j < length x.num
    place_below has j u e =
        let w = slice_get_within (columns game leaves) j u e in
        let l = has.len in
        omega (arith, w, l)

    pub den_is : numbers_of game leaves x One ≡ x.den
    den_is = nowhere x One (columns game leaves) 0 (λ k p. none_else game leaves k One p)

    by_place : (j : ℕ) → j < length (columns game leaves)
        → num_of x j ≡ numbers_of game leaves x (get_or (columns game leaves) j One)
    by_place j h =
        sym (number_is j (get_or (columns game leaves) j One)
        (slice_get-get_or (columns game leaves) j One h))

    pub solves_complete : (kind : Kind) (path : List Choice)
        → IsCompleteList game leaves kind path → IsSolvedBy game leaves path x
        → SolvesComplete game leaves kind path (numbers_of game leaves x)
    solves_complete kind path list solved = record {
      exist = list.exist;
      complete = list.complete;
      solves = (by_columns game leaves (numbers_of game leaves x) path list.exist).1
          (subst (λ (d : ℤ). Solves (system_rows game leaves path)
          (λ j. numbers_of game leaves x (get_or (columns game leaves) j One)) d) (sym den_is)
          (same_solution (num_of x)
          (λ j. numbers_of game leaves x (get_or (columns game leaves) j One)) x.den by_place path
          solved.solves));
    }
