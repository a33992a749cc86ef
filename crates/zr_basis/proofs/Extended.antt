-- A run, one pivot longer.
use Rattle.std.proofs.Common.{◌≡◌, ◌≢◌, ℕ, zero, suc, ◌<◌, ◌≤◌, arith, refl, ⊎_elim}
use Rattle.std.proofs.lemmas.Bool.{cases_eq}
use Rattle.zr_basis.specs.Programs.{Program}
use Rattle.zr_basis.specs.Orders.{Order, IsOrder}
use Rattle.zr_basis.specs.Dual.{AreDirectionsPositive}
use Rattle.zr_basis.specs.Stages.{IsFeasibleForm, Stage}
use Rattle.zr_basis.specs.Runs.{IsDualStep, IsPrimalStep, IsRun, Run, end_of, turn_of}

-- f up to n, and then new
abbrev pub put : (p : Program) → ℕ → (ℕ → Stage p) → Stage p → ℕ → Stage p
put p n f new zero = f zero
put p zero f new (suc k) = new
put p (suc n) f new (suc k) = put p n (λ j. f (suc j)) new k

pub put_low : (p : Program) (n : ℕ) (f : ℕ → Stage p) (new : Stage p) (k : ℕ) → k ≤ n → put p n f new k ≡ f k
put_low p zero f new zero h = refl
put_low p (suc n) f new zero h = refl
put_low p zero f new (suc k) h = absurd (omega arith)
put_low p (suc n) f new (suc k) h = put_low p n (λ j. f (suc j)) new k (omega arith)

pub put_high : (p : Program) (n : ℕ) (f : ℕ → Stage p) (new : Stage p) → put p n f new (suc n) ≡ new
put_high p zero f new = refl
put_high p (suc n) f new = put_high p n (λ j. f (suc j)) new

-- the turn may still come later
pub turn_later : (p : Program) (order : Order) (turn later last : ℕ) (stage : ℕ → Stage p) → IsRun p order turn last stage → last < turn → last < later → IsRun p order later last stage
turn_later p order turn later last stage run h q = record { ordered = run.ordered; positive = run.positive; duals = λ n a b. run.duals n a (omega arith); feasible = λ a. absurd (omega arith); primals = λ n a b. absurd (omega arith) }

-- or be now
pub turn_now : (p : Program) (order : Order) (turn last : ℕ) (stage : ℕ → Stage p) → IsRun p order turn last stage → last < turn → IsFeasibleForm p (stage last).form → IsRun p order last last stage
turn_now p order turn last stage run h feasible = record { ordered = run.ordered; positive = run.positive; duals = λ n a b. run.duals n a (omega arith); feasible = λ a. feasible; primals = λ n a b. absurd (omega arith) }

pub more_dual : (p : Program) (order : Order) (n turn : ℕ) (stage : ℕ → Stage p) → IsRun p order turn n stage → suc n < turn → (new : Stage p) → IsDualStep p order (stage n) new → IsRun p order turn (suc n) (put p n stage new)
more_dual p order n turn stage run later new step = record {
  ordered = run.ordered;
  positive = rw (put_low p n stage new 0 (omega arith)) run.positive;
  duals = λ k h q. ⊎_elim (λ (e : k ≡ n). rw (e, put_low p n stage new n (omega arith), put_high p n stage new) step) (λ (a : k ≢ n). rw (put_low p n stage new k (omega arith), put_low p n stage new (suc k) (omega arith)) (run.duals k (omega arith) q)) (cases_eq k n);
  feasible = λ a. absurd (omega arith);
  primals = λ k h q. absurd (omega arith);
}

pub more_primal : (p : Program) (order : Order) (n turn : ℕ) (stage : ℕ → Stage p) → IsRun p order turn n stage → turn ≤ n → (new : Stage p) → IsPrimalStep p (stage turn) (stage n) new → IsRun p order turn (suc n) (put p n stage new)
more_primal p order n turn stage run earlier new step = record {
  ordered = run.ordered;
  positive = rw (put_low p n stage new 0 (omega arith)) run.positive;
  duals = λ k h q. rw (put_low p n stage new k (omega arith), put_low p n stage new (suc k) (omega arith)) (run.duals k (omega arith) q);
  feasible = λ a. rw (put_low p n stage new turn earlier) (run.feasible earlier);
  primals = λ k h q. ⊎_elim (λ (e : k ≡ n). rw (e, put_low p n stage new n (omega arith), put_high p n stage new, put_low p n stage new turn earlier) step) (λ (a : k ≢ n). rw (put_low p n stage new k (omega arith), put_low p n stage new (suc k) (omega arith), put_low p n stage new turn earlier) (run.primals k (omega arith) q)) (cases_eq k n);
}

-- the run of no pivot
abbrev pub begins_at : (p : Program) (order : Order) → IsOrder p order → (s : Stage p) → AreDirectionsPositive p order s.basis s.form → Run p
begins_at p order ordered s positive = record {
  order = order;
  pivots = 0;
  turn = 1;
  stage = λ n. s;
  follows = record {
    ordered = ordered;
    positive = positive;
    duals = λ n h q. absurd (omega (arith, h));
    feasible = λ h. absurd (omega (arith, h));
    primals = λ n h q. absurd (omega (arith, h));
  };
}

-- a run with one pivot more, to a stage
pub record IsLonger (p : Program) (run : Run p) (new : Stage p) (next : Run p) : Type 0 where
  pub pivots : next.pivots ≡ suc run.pivots
  pub order : next.order ≡ run.order
  pub first : next.stage 0 ≡ run.stage 0
  pub end : end_of p next ≡ new

pub by_dual : (p : Program) (run : Run p) → run.pivots < run.turn → (new : Stage p) → IsDualStep p run.order (end_of p run) new → (next : Run p) × IsLonger p run new next × (next.pivots < next.turn)
by_dual p run before new step =
    let later = turn_later p run.order run.turn (suc (suc run.pivots)) run.pivots run.stage run.follows before (omega arith) in
    let follows = more_dual p run.order run.pivots (suc (suc run.pivots)) run.stage later (omega arith) new step in (
      record {
        order = run.order;
        pivots = suc run.pivots;
        turn = suc (suc run.pivots);
        stage = put p run.pivots run.stage new;
        follows = follows;
      },
      record { pivots = refl; order = refl; first = put_low p run.pivots run.stage new 0 (omega arith); end = put_high p run.pivots run.stage new },
      omega arith,
    )

-- the primal rule begins here
abbrev pub turn_here : (p : Program) (run : Run p) → run.pivots < run.turn → IsFeasibleForm p (end_of p run).form → Run p
turn_here p run before feasible = record {
  order = run.order;
  pivots = run.pivots;
  turn = run.pivots;
  stage = run.stage;
  follows = turn_now p run.order run.turn run.pivots run.stage run.follows before feasible;
}

pub by_primal : (p : Program) (run : Run p) → run.turn ≤ run.pivots → (new : Stage p) → IsPrimalStep p (turn_of p run) (end_of p run) new → (next : Run p) × IsLonger p run new next × (next.turn ≤ next.pivots) × (turn_of p next ≡ turn_of p run)
by_primal p run after new step =
    let follows = more_primal p run.order run.pivots run.turn run.stage run.follows after new step in (
      record {
        order = run.order;
        pivots = suc run.pivots;
        turn = run.turn;
        stage = put p run.pivots run.stage new;
        follows = follows;
      },
      record { pivots = refl; order = refl; first = put_low p run.pivots run.stage new 0 (omega arith); end = put_high p run.pivots run.stage new },
      omega arith,
      put_low p run.pivots run.stage new run.turn after,
    )
