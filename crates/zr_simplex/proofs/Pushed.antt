-- A program with a row pushed: what it keeps of the program without it.
use Rattle.std.proofs.Common.{rules, ◌≡◌, ℕ, ◌+◌, ◌<◌, sym, ap, ◌∙◌, ℤ, ◌-ℤ◌, ◌*ℤ◌, List, [], ◌∷◌, ◌++◌, map, length, Option, Some, None, MatchOption}
use Rattle.std.proofs.lemmas.List.{get_or_append_left, length-map, map-append}
use Rattle.std.proofs.lemmas.List.Elements.{All-append}
use Rattle.std.specs.List.{All}
use Rattle.zr_base.proofs.Dense.{sum_to_same}
use Rattle.zr_lin.specs.declared.system.Ineq.{Ineq}
use Rattle.zr_lin.specs.Ineqs.{IneqOf, dense, ineq_of, row_at}
use Rattle.zr_basis.specs.Programs.{Program}
use Rattle.zr_basis.specs.BasicForms.{value_column, CombinesEquations}
use Rattle.zr_simplex.specs.Tableaus.{Equations, form_of}
use Rattle.zr_basis.specs.Stages.{IsDualFeasibleForm}
use Rattle.zr_simplex.specs.Dues.{IsTableau}

-- the rows are written in another way
module _ (p : Program) (coef : ℕ → ℕ → ℤ) (le : ℕ → ℤ) (same : (r : ℕ) → r < p.rows → coef r ≡ p.coef r) (right : (r : ℕ) → r < p.rows → le r ≡ p.le r) where
  abbrev retold : Program
  retold = record { columns = p.columns; rows = p.rows; coef = coef; le = le; aim = p.aim }

  combines : (e : ℕ → ℤ) → CombinesEquations p e → CombinesEquations retold e
  combines e made = record {
    columns = λ j h. made.columns j h ∙ ap (λ s. s -ℤ e (value_column p) *ℤ p.aim j) (sum_to_same p.rows (λ r. e (p.columns + r) *ℤ p.coef r j) (λ r. e (p.columns + r) *ℤ coef r j) (λ r q. ap (λ f. e (p.columns + r) *ℤ f j) (sym (same r q))));
    right = made.right ∙ sum_to_same p.rows (λ r. e (p.columns + r) *ℤ p.le r) (λ r. e (p.columns + r) *ℤ le r) (λ r q. ap (λ z. e (p.columns + r) *ℤ z) (sym (right r q)));
  }

  pub tableau_retold : (t : Equations) → IsTableau p t → IsTableau (record { columns = p.columns; rows = p.rows; coef = coef; le = le; aim = p.aim }) t
  tableau_retold t kept = record {
    count = kept.count;
    width = kept.width;
    partition = kept.partition;
    free_count = kept.free_count;
    right = kept.right;
    form = record {
      columns = kept.form.columns;
      value = kept.form.value;
      combination = λ i h. combines _ (kept.form.combination i h);
      own = kept.form.own;
      other = kept.form.other;
      primitive = kept.form.primitive;
    };
  }

-- the rows before the pushed one
pub row_before : (rows : List Ineq) (row : Ineq) (r : ℕ) → r < length rows → row_at (map ineq_of (rows ++ row ∷ [])) r ≡ row_at (map ineq_of rows) r
row_before rows row r h =
    ap (λ xs. row_at xs r) (map-append ineq_of rows (row ∷ [])) ∙ ap dense (get_or_append_left (map ineq_of rows) (ineq_of row ∷ []) _ r (rw (length-map rows ineq_of) h))

pub one_more : (rows : List Ineq) (row : Ineq) (P : IneqOf → Type 0) → All P (map ineq_of rows) → P (ineq_of row) → All P (map ineq_of (rows ++ row ∷ []))
one_more rows row P all here =
    rw (map-append ineq_of rows (row ∷ [])) (All-append P (map ineq_of rows) (ineq_of row ∷ []) all (alone (ineq_of row) here))
  where
    alone : (x : IneqOf) → P x → All P (x ∷ [])
    alone x h = search rules

-- a tableau, if there is one, at which the value falls along no column
pub tableau_if : (p : Program) (coef : ℕ → ℕ → ℤ) (le : ℕ → ℤ) (same : (r : ℕ) → r < p.rows → coef r ≡ p.coef r) (right : (r : ℕ) → r < p.rows → le r ≡ p.le r) (t : Option Equations) → MatchOption t (Unit {0}) (λ t. IsTableau p t × IsDualFeasibleForm p (form_of t)) → MatchOption t (Unit {0}) (λ t. IsTableau (record { columns = p.columns; rows = p.rows; coef = coef; le = le; aim = p.aim }) t × IsDualFeasibleForm (record { columns = p.columns; rows = p.rows; coef = coef; le = le; aim = p.aim }) (form_of t))
tableau_if p coef le same right None kept = tt
tableau_if p coef le same right (Some t) kept =
    (tableau_retold p coef le same right t kept.0, kept.1)
