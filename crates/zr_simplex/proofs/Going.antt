-- The state of the method between two pivots: the run so far, and what was counted.
use Rattle.std.proofs.Common.{◌≡◌, ◌≢◌, ℕ, suc, ◌+◌, ◌-◌, ◌^◌, ◌<◌, ◌≤◌, arith, refl, sym, ap, subst, ◌∙◌, ℤ, pos, List, length, slice_index, Option, None, Some, MatchOption, inl, inr, ⊎_elim}
use Rattle.std.proofs.lemmas.Int.{ints}
use Rattle.zr_io.specs.Faults.{next_count}
use Rattle.zr_io.specs.Purses.{Spends}
use Rattle.zr_io.specs.declared.purse.Purse.{Purse}
use Rattle.zr_io.specs.declared.purse.Unit.TheVariants.{Pivot as APivot}
use Rattle.zr_basis.specs.Programs.{Program}
use Rattle.zr_basis.specs.BasicForms.{value_column, IsBasicForm}
use Rattle.zr_basis.specs.Bases.{Exchanges}
use Rattle.zr_basis.specs.Choices.{choose}
use Rattle.zr_basis.specs.Stages.{Stage, IsFeasibleForm}
use Rattle.zr_basis.specs.Primal.{IsPrimalDue}
use Rattle.zr_basis.specs.Orders.{Order, IsOrder}
use Rattle.zr_basis.specs.Dual.{AreDirectionsPositive, IsDualDue}
use Rattle.zr_basis.specs.Runs.{Run, end_of, turn_of}
use Rattle.zr_basis.proofs.Signs.{side}
use Rattle.zr_basis.proofs.Runs.{few_in_stages, feasible_from}
use Rattle.zr_basis.proofs.Extended.{IsLonger, begins_at, by_dual, by_primal, turn_here}
use Rattle.zr_simplex.specs.Causes.{CountsFew, CountsPivots, CountsUp, IsPivotDue}
use Rattle.zr_simplex.specs.Dues.{IsEnd, IsStartBasis, IsMendingDue, IsImprovingDue}
use Rattle.zr_simplex.specs.Halts.{HasRun, IsFrom, Origin}
use Rattle.zr_simplex.specs.declared.choose.Due.{Due}
use Rattle.zr_simplex.specs.declared.choose.Due.TheVariants.{Best, Empty, Unbounded, Pivot}
use Rattle.zr_basis.proofs.Counting.{one_choice}

pub counts_none : (purse : Purse) → CountsPivots purse purse 0
counts_none purse = record {
  count = inl (omega arith);
  limit = refl;
  branches = refl;
  cuts = refl;
}

counts_up : (old mid new n : ℕ) → CountsUp old mid n → new ≡ next_count mid → CountsUp old new (n + 1)
counts_up old mid new n (inl e) next = ⊎_elim (λ (h : old + n < 2 ^ 64 - 1). inl (omega (arith, e, next, h))) (λ (h : 2 ^ 64 - 1 ≤ old + n). inr (omega (arith, e, next, h), omega (arith, h))) (side (old + n) (2 ^ 64 - 1))
counts_up old mid new n (inr (e, h)) next = inr (omega (arith, e, next), omega (arith, h))

pub counts_more : (old mid new : Purse) (n : ℕ) → CountsPivots old mid n → Spends mid new APivot → CountsPivots old new (n + 1)
counts_more old mid new n first spends = record {
  count = counts_up old.pivots mid.pivots new.pivots n first.count spends.0;
  limit = spends.3 ∙ first.limit;
  branches = spends.1 ∙ first.branches;
  cuts = spends.2 ∙ first.cuts;
}

-- n pivots lead here, all of them by the dual rule
pub record IsMending (p : Program) (o : Origin) (old new : Purse) (n : ℕ) (basis : ℕ → ℕ) (form : ℕ → ℕ → ℤ) : Type 0 where
  pub run : Run p
  pub from : IsFrom p o run
  pub pivots : run.pivots ≡ n
  pub counts : CountsPivots old new n
  pub basis_is : (end_of p run).basis ≡ basis
  pub form_is : (end_of p run).form ≡ form
  pub before : run.pivots < run.turn

-- n pivots lead here, those from the basis `start` on by the primal rule
pub record IsImproving (p : Program) (o : Origin) (old new : Purse) (n : ℕ) (basis : ℕ → ℕ) (form : ℕ → ℕ → ℤ) (start : List ℕ) : Type 0 where
  pub run : Run p
  pub from : IsFrom p o run
  pub pivots : run.pivots ≡ n
  pub counts : CountsPivots old new n
  pub basis_is : (end_of p run).basis ≡ basis
  pub form_is : (end_of p run).form ≡ form
  pub after : run.turn ≤ run.pivots
  pub start_is : (turn_of p run).basis ≡ (λ i. slice_index start i)
  pub start_long : length start ≡ p.rows + 1

-- a pivot is due under other names
due_there : (p : Program) (order other : Order) (basis next : ℕ → ℕ) (form made : ℕ → ℕ → ℤ) (row col : ℕ) → other ≡ order → next ≡ basis → made ≡ form → IsDualDue p order basis form row col → IsDualDue p other next made row col
due_there p order other basis next form made row col e h i due = rw (e, h, i) due

-- a longer run begins where the run does
longer : (p : Program) (o : Origin) (run : Run p) (new : Stage p) (next : Run p) → IsLonger p run new next → IsFrom p o run → IsFrom p o next
longer p o run new next more from = record {
  order = more.order ∙ from.order;
  basis = ap (λ s. s.basis) more.first ∙ from.basis;
  form = ap (λ s. s.form) more.first ∙ from.form;
}

pub few_pivots : (p : Program) (run : Run p) → run.pivots < choose (value_column p) p.rows
few_pivots p run = few_in_stages p run.order run.turn run.pivots run.stage run.follows

module _ (p : Program) (o : Origin) (old new : Purse) (n : ℕ) (basis : ℕ → ℕ) (form : ℕ → ℕ → ℤ) where
  pub mending_few : IsMending p o old new n basis form → n < choose (value_column p) p.rows
  mending_few state = subst (λ m. m < choose (value_column p) p.rows) state.pivots (few_pivots p state.run)

  pub improving_few : (start : List ℕ) → IsImproving p o old new n basis form start → n < choose (value_column p) p.rows
  improving_few start state =
      subst (λ m. m < choose (value_column p) p.rows) state.pivots (few_pivots p state.run)

  counted : (run : Run p) → run.pivots ≡ n → CountsPivots old new n → CountsPivots old new run.pivots
  counted run e counts = rw e counts

  pub mending_run : IsMending p o old new n basis form → HasRun p o old new basis form
  mending_run state =
      (state.run, state.from, counted state.run state.pivots state.counts, state.basis_is, state.form_is)

  pub improving_run : (start : List ℕ) → IsImproving p o old new n basis form start → HasRun p o old new basis form
  improving_run start state =
      (state.run, state.from, counted state.run state.pivots state.counts, state.basis_is, state.form_is)

  -- the first basis with no right side below zero is where the primal rule begins
  pub turn : (start : List ℕ) → IsMending p o old new n basis form → IsFeasibleForm p form → basis ≡ (λ i. slice_index start i) → length start ≡ p.rows + 1 → IsImproving p o old new n basis form start
  turn start state feasible same long = record {
    run = turn_here p state.run state.before (rw state.form_is feasible);
    from = record { order = state.from.order; basis = state.from.basis; form = state.from.form };
    pivots = state.pivots;
    counts = state.counts;
    basis_is = state.basis_is;
    form_is = state.form_is;
    after = omega arith;
    start_is = state.basis_is ∙ same;
    start_long = long;
  }

  pub improving_feasible : (start : List ℕ) → IsImproving p o old new n basis form start → IsFeasibleForm p form
  improving_feasible start state = subst (λ f. IsFeasibleForm p f) state.form_is (feasible_from p state.run.order state.run.turn state.run.pivots state.run.stage state.run.follows state.run.pivots state.after (omega arith))

  pub improving_start : (start : List ℕ) → IsImproving p o old new n basis form start → IsStartBasis p start
  improving_start start state = (state.start_long, λ i h. subst (λ b. b i < value_column p) state.start_is ((turn_of p state.run).basic.columns i h))

  -- one pivot more
  module _ (last : Purse) (counts : Spends new last APivot) (row col : ℕ) (next : ℕ → ℕ) (made : ℕ → ℕ → ℤ) (after : IsBasicForm p next made) (exchange : Exchanges basis row col next) where
    pub mending_more : IsMending p o old new n basis form → IsDualDue p o.order basis form row col → IsMending p o old last (n + 1) next made
    mending_more state due =
        let stage : Stage p = record { basis = next; form = made; basic = after } in
        let more = by_dual p state.run state.before stage (row, col, due_there p o.order state.run.order basis (end_of p state.run).basis form (end_of p state.run).form row col state.from.order state.basis_is state.form_is due, rw state.basis_is exchange) in
        record {
          run = more.0;
          from = longer p o state.run stage more.0 more.1 state.from;
          pivots = more.1.pivots ∙ ap suc state.pivots ∙ omega arith;
          counts = counts_more old new last n state.counts counts;
          basis_is = ap (λ s. s.basis) more.1.end;
          form_is = ap (λ s. s.form) more.1.end;
          before = more.2;
        }

    pub improving_more : (start : List ℕ) → IsImproving p o old new n basis form start → IsPrimalDue p (λ i. slice_index start i) form row col → IsImproving p o old last (n + 1) next made start
    improving_more start state due =
        let stage : Stage p = record { basis = next; form = made; basic = after } in
        let more = by_primal p state.run state.after stage (row, col, rw (state.start_is, state.form_is) due, rw state.basis_is exchange) in
        record {
          run = more.0;
          from = longer p o state.run stage more.0 more.1 state.from;
          pivots = more.1.pivots ∙ ap suc state.pivots ∙ omega arith;
          counts = counts_more old new last n state.counts counts;
          basis_is = ap (λ s. s.basis) more.1.end;
          form_is = ap (λ s. s.form) more.1.end;
          after = more.2;
          start_is = ap (λ s. s.basis) more.3 ∙ state.start_is;
          start_long = state.start_long;
        }

-- where the run begins
pub begins : (p : Program) (o : Origin) (purse : Purse) → IsOrder p o.order → IsBasicForm p o.basis o.form → AreDirectionsPositive p o.order o.basis o.form → IsMending p o purse purse 0 o.basis o.form
begins p o purse ordered basic positive =
    let stage : Stage p = record { basis = o.basis; form = o.form; basic = basic } in
    record {
      run = begins_at p o.order ordered stage positive;
      from = record { order = refl; basis = refl; form = refl };
      pivots = refl;
      counts = counts_none purse;
      basis_is = refl;
      form_is = refl;
      before = omega arith;
    }

-- the state, by the basis that is kept for the primal rule, if any
abbrev pub IsGoing : {V : Type 0} → Option V → (V → List ℕ) → Program → Origin → Purse → Purse → ℕ → (ℕ → ℕ) → (ℕ → ℕ → ℤ) → Type 0
IsGoing start items p o old new n basis form =
    MatchOption start (IsMending p o old new n basis form) (λ kept. IsImproving p o old new n basis form (items kept))

-- what is due, by that basis
abbrev pub IsGoingDue : {V : Type 0} → Option V → (V → List ℕ) → Program → Order → (ℕ → ℕ) → (ℕ → ℕ → ℤ) → Due → Type 0
IsGoingDue start items p order basis form due =
    MatchOption start (IsMendingDue p order basis form due) (λ kept. IsImprovingDue p (λ i. slice_index (items kept) i) form due)

pub going_few : {V : Type 0} (start : Option V) (items : V → List ℕ) (p : Program) (o : Origin) (old new : Purse) (n : ℕ) (basis : ℕ → ℕ) (form : ℕ → ℕ → ℤ) → IsGoing start items p o old new n basis form → n < choose (value_column p) p.rows
going_few None items p o old new n basis form state = mending_few p o old new n basis form state
going_few (Some kept) items p o old new n basis form state =
    improving_few p o old new n basis form (items kept) state

pub going_run : {V : Type 0} (start : Option V) (items : V → List ℕ) (p : Program) (o : Origin) (old new : Purse) (n : ℕ) (basis : ℕ → ℕ) (form : ℕ → ℕ → ℤ) → IsGoing start items p o old new n basis form → HasRun p o old new basis form
going_run None items p o old new n basis form state = mending_run p o old new n basis form state
going_run (Some kept) items p o old new n basis form state =
    improving_run p o old new n basis form (items kept) state

pub going_counts : {V : Type 0} (start : Option V) (items : V → List ℕ) (p : Program) (o : Origin) (old new : Purse) (n : ℕ) (basis : ℕ → ℕ) (form : ℕ → ℕ → ℤ) → IsGoing start items p o old new n basis form → CountsPivots old new n
going_counts None items p o old new n basis form state = state.counts
going_counts (Some kept) items p o old new n basis form state = state.counts

pub going_ready : {V : Type 0} (start : Option V) (items : V → List ℕ) (p : Program) (o : Origin) (old new : Purse) (n : ℕ) (basis : ℕ → ℕ) (form : ℕ → ℕ → ℤ) → IsGoing start items p o old new n basis form → MatchOption start (Unit {0}) (λ kept. IsStartBasis p (items kept) × IsFeasibleForm p form)
going_ready None items p o old new n basis form state = tt
going_ready (Some kept) items p o old new n basis form state = (
  improving_start p o old new n basis form (items kept) state,
  improving_feasible p o old new n basis form (items kept) state,
)

pub going_on : {V : Type 0} (start next : Option V) (items : V → List ℕ) (p : Program) (o : Origin) (old new : Purse) (n : ℕ) (list : List ℕ) (form : ℕ → ℕ → ℤ) → length list ≡ p.rows + 1 → IsGoing start items p o old new n (λ i. slice_index list i) form → MatchOption start (MatchOption next (Unit {0}) (λ kept. (items kept ≡ list) × IsFeasibleForm p form)) (λ kept. next ≡ Some kept) → IsGoing next items p o old new n (λ i. slice_index list i) form
going_on None None items p o old new n list form long state kept = state
going_on None (Some made) items p o old new n list form long state kept =
    turn p o old new n (λ i. slice_index list i) form (items made) state kept.1 (ap (λ xs. λ i. slice_index xs i) (sym kept.0)) (rw kept.0 long)
going_on (Some before) next items p o old new n list form long state kept =
    rw kept state

pub going_due : {V : Type 0} (start : Option V) (items : V → List ℕ) (p : Program) (order : Order) (basis : ℕ → ℕ) (form : ℕ → ℕ → ℤ) (row col : ℕ) → IsGoingDue start items p order basis form (Pivot row col) → (row < p.rows) × (col < value_column p) × (form row col ≢ pos 0)
going_due None items p order basis form row col due =
    (due.below, due.column, λ e. let under = due.under in omega (arith, ints, under, e))
going_due (Some kept) items p order basis form row col due =
    (due.below, due.column, λ e. let above = due.above in omega (arith, ints, above, e))

pub going_more : {V : Type 0} (start : Option V) (items : V → List ℕ) (p : Program) (o : Origin) (old new last : Purse) (n : ℕ) (basis : ℕ → ℕ) (form : ℕ → ℕ → ℤ) → Spends new last APivot → (row col : ℕ) (next : ℕ → ℕ) (made : ℕ → ℕ → ℤ) → IsBasicForm p next made → Exchanges basis row col next → IsGoing start items p o old new n basis form → IsGoingDue start items p o.order basis form (Pivot row col) → IsGoing start items p o old last (n + 1) next made
going_more None items p o old new last n basis form counts row col next made after exchange state due =
    mending_more p o old new n basis form last counts row col next made after exchange state due
going_more (Some kept) items p o old new last n basis form counts row col next made after exchange state due =
    improving_more p o old new n basis form last counts row col next made after exchange (items kept) state due

-- the run of the state, and that a pivot is due at its end
pub due_after : {V : Type 0} (start : Option V) (items : V → List ℕ) (p : Program) (o : Origin) (old new : Purse) (n : ℕ) (basis : ℕ → ℕ) (form : ℕ → ℕ → ℤ) (row col : ℕ) → IsGoing start items p o old new n basis form → IsGoingDue start items p o.order basis form (Pivot row col) → (run : Run p) × IsFrom p o run × CountsPivots old new run.pivots × ((end_of p run).basis ≡ basis) × ((end_of p run).form ≡ form) × IsPivotDue p run row col
due_after None items p o old new n basis form row col state due =
    (state.run, state.from, rw state.pivots state.counts, state.basis_is, state.form_is, inl (due_there p o.order state.run.order basis (end_of p state.run).basis form (end_of p state.run).form row col state.from.order state.basis_is state.form_is due))
due_after (Some kept) items p o old new n basis form row col state due =
    (state.run, state.from, rw state.pivots state.counts, state.basis_is, state.form_is, inr (state.after, rw (state.start_is, state.form_is) due))

-- what is due and no pivot ends the method
pub end_if : {V : Type 0} (start : Option V) (items : V → List ℕ) (p : Program) (order : Order) (basis : ℕ → ℕ) (form : ℕ → ℕ → ℤ) (due : Due) → IsGoingDue start items p order basis form due → ((row col : ℕ) → due ≡ Pivot row col → ⊥) → IsEnd p form due
end_if None items p order basis form Best due over = absurd due
end_if None items p order basis form (Empty row) due over = due
end_if None items p order basis form (Unbounded col) due over = absurd due
end_if None items p order basis form (Pivot row col) due over = absurd (over row col refl)
end_if (Some kept) items p order basis form Best due over = due
end_if (Some kept) items p order basis form (Empty row) due over = absurd due
end_if (Some kept) items p order basis form (Unbounded col) due over = due
end_if (Some kept) items p order basis form (Pivot row col) due over = absurd (over row col refl)

-- no pivot was made
pub no_pivot : (p : Program) (purse : Purse) → CountsFew p purse purse
no_pivot p purse =
    (0, one_choice (value_column p) p.rows (omega arith), counts_none purse)
