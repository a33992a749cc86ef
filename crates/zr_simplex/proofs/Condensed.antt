-- Condensed equations, and the basic form that they stand for.
use Rattle.std.proofs.Common.{◌≡◌, ◌≢◌, ℕ, ◌+◌, ◌<◌, arith, refl, sym, ap, subst, ◌∙◌, ⊎_elim, ℤ, pos, ◌-ℤ◌, ◌*ℤ◌, unsigned_abs, List, length, set, slice_index, get_or-set_same, get_or-set_other, length-set}
use Rattle.std.proofs.lemmas.Bool.{cases_eq}
use Rattle.std.proofs.lemmas.Bool.Decides.{nat_tests}
use Rattle.std.proofs.lemmas.Int.{ints}
use Rattle.std.proofs.lemmas.Nat.Gcd.{dvd-zero}
use Rattle.std.specs.Int.{◌∣◌}
use Rattle.zr_base.specs.declared.step.Wide.{Wide}
use Rattle.zr_simplex.specs.declared.columns.Column.{Column}
use Rattle.zr_simplex.specs.declared.columns.Column.TheVariants.{Basic}
use Rattle.zr_simplex.specs.Programs.{numbers}
use Rattle.zr_basis.specs.BasicForms.{IsPrimitive}
use Rattle.zr_simplex.specs.StuckSteps.{IsWidePivot}
use Rattle.zr_simplex.specs.RowSteps.{IsExchange, IsMixture, IsPivot, IsQuotient, IsWideClear, entered, left, swapped}
use Rattle.zr_simplex.specs.Tableaus.{AreColumns, IsPartition, column_at, number_at}
use Rattle.zr_simplex.proofs.Stands.{partition_of}
use Rattle.zr_simplex.proofs.Swaps.{entered_else, entered_here, left_else, left_own, left_place, swapped_off, swapped_own}

-- the condensed numbers xs of equation i are those of e at the columns off the basis and at its own
pub record Reads (basis free : List ℕ) (i : ℕ) (e xs : ℕ → ℤ) : Type 0 where
  pub off : (k : ℕ) → k < length free → e (slice_index free k) ≡ xs k
  pub own : e (slice_index basis i) ≡ xs (length free)

-- what holds at the columns off the basis and at those in it holds at each
each_column : {width : ℕ} {basis free : List ℕ} (part : IsPartition width basis free) (P : ℕ → Type 0) → ((k : ℕ) → k < length free → P (slice_index free k)) → ((i : ℕ) → i < length basis → P (slice_index basis i)) → (j : ℕ) → j < width → P j
each_column part P off on j h =
    ⊎_elim (λ (x : (i : ℕ) × _ × _). subst P x.2 (on x.0 x.1)) (λ (x : (k : ℕ) × _ × _). subst P x.2 (off x.0 x.1)) (part.each j h)

module _ {width : ℕ} {basis free : List ℕ} (part : IsPartition width basis free) (i : ℕ) (inside : i < length basis) where
  pub primitive_in : (e xs : ℕ → ℤ) → Reads basis free i e xs → ((k : ℕ) → k < length basis → k ≢ i → e (slice_index basis k) ≡ pos 0) → IsPrimitive width e → IsPrimitive (length free + 1) xs
  primitive_in e xs reads zeros primitive d all =
      primitive d (each_column part (λ j. d ∣ unsigned_abs (e j)) (λ k h. rw (reads.off k h) (all k (omega (arith, h)))) (λ k h. ⊎_elim (λ (s : k ≡ i). rw (s, reads.own) (all (length free) (omega arith))) (λ (a : k ≢ i). rw (zeros k h a) (dvd-zero d)) (cases_eq k i)))

  pub primitive_out : (e xs : ℕ → ℤ) → Reads basis free i e xs → IsPrimitive (length free + 1) xs → IsPrimitive width e
  primitive_out e xs reads primitive d all =
      primitive d (λ k h. ⊎_elim (λ (s : k ≡ length free). rw (s, ← reads.own) (all (slice_index basis i) (part.basic_below i inside))) (λ (a : k ≢ length free). let q : k < length free = omega (arith, h, a) in rw (← reads.off k q) (all (slice_index free k) (part.free_below k q))) (cases_eq k (length free)))

  module _ (r : ℕ) (e f made xs fs ys : ℕ → ℤ) (at_e : Reads basis free i e xs) (at_f : Reads basis free i f fs) (at_made : Reads basis free i made ys) (zero_e : (k : ℕ) → k < length basis → k ≢ i → k ≢ r → e (slice_index basis k) ≡ pos 0) (zero_f : (k : ℕ) → k < length basis → k ≢ i → k ≢ r → f (slice_index basis k) ≡ pos 0) (zero_made : (k : ℕ) → k < length basis → k ≢ i → made (slice_index basis k) ≡ pos 0) where
    mixture_out : (mix : IsMixture (length free + 1) xs fs ys) → mix.by *ℤ e (slice_index basis r) ≡ mix.less *ℤ f (slice_index basis r) → IsMixture width e f made
    mixture_out mix cleared = record {
      by = mix.by;
      less = mix.less;
      over = mix.over;
      by_apart = mix.by_apart;
      over_apart = mix.over_apart;
      numbers = each_column part (λ j. made j *ℤ mix.over ≡ mix.by *ℤ e j -ℤ mix.less *ℤ f j) (λ k h. rw (at_made.off k h, at_e.off k h, at_f.off k h) (mix.numbers k (omega (arith, h)))) (λ k h. ⊎_elim (λ (s : k ≡ i). rw (s, at_made.own, at_e.own, at_f.own) (mix.numbers (length free) (omega arith))) (λ (a : k ≢ i). ⊎_elim (λ (s : k ≡ r). rw (zero_made k h a, s) (omega (arith, ints, cleared))) (λ (b : k ≢ r). rw (zero_made k h a, zero_e k h a b, zero_f k h a b) (omega (arith, ints))) (cases_eq k r)) (cases_eq k i));
    }

  quotient_out : (e made xs ys : ℕ → ℤ) → Reads basis free i e xs → Reads basis free i made ys → ((k : ℕ) → k < length basis → k ≢ i → e (slice_index basis k) ≡ pos 0) → ((k : ℕ) → k < length basis → k ≢ i → made (slice_index basis k) ≡ pos 0) → IsQuotient (length free + 1) xs ys → IsQuotient width e made
  quotient_out e made xs ys at_e at_made zero_e zero_made q = record {
    over = q.over;
    over_apart = q.over_apart;
    numbers = each_column part (λ j. made j *ℤ q.over ≡ e j) (λ k h. rw (at_made.off k h, at_e.off k h) (q.numbers k (omega (arith, h)))) (λ k h. ⊎_elim (λ (s : k ≡ i). rw (s, at_made.own, at_e.own) (q.numbers (length free) (omega arith))) (λ (a : k ≢ i). rw (zero_made k h a, zero_e k h a) (omega (arith, ints))) (cases_eq k i));
  }

-- the numbers of equation i by the columns' list
abbrev pub full : List Column → ℕ → ℕ → List ℤ → ℕ → ℤ
full columns own i xs j = number_at own i xs (column_at columns j)

pub own_number : (own i : ℕ) (xs : List ℤ) → number_at own i xs (Basic i) ≡ numbers xs own
own_number own i xs = grind (arith, nat_tests)

pub zero_number : (own i : ℕ) (xs : List ℤ) (k : ℕ) → k ≢ i → number_at own i xs (Basic k) ≡ pos 0
zero_number own i xs k a = grind (arith, nat_tests)

module _ {basis free : List ℕ} {columns : List Column} (are : AreColumns basis free columns) (i : ℕ) (xs : List ℤ) where
  pub full_free : (k : ℕ) → k < length free → full columns (length free) i xs (slice_index free k) ≡ numbers xs k
  full_free k h = rw (are.free_at k h).1 refl

  pub full_own : i < length basis → full columns (length free) i xs (slice_index basis i) ≡ numbers xs (length free)
  full_own h = rw (are.basic_at i h).1 (own_number (length free) i xs)

  pub full_zero : (k : ℕ) → k < length basis → k ≢ i → full columns (length free) i xs (slice_index basis k) ≡ pos 0
  full_zero k h a = rw (are.basic_at k h).1 (zero_number (length free) i xs k a)

  pub full_reads : i < length basis → Reads basis free i (full columns (length free) i xs) (numbers xs)
  full_reads h = record { off = full_free; own = full_own h }

-- the equations as the columns stand before and after column `free place` takes the place of that of equation r
module _ (basis free : List ℕ) (columns then : List Column) (are : AreColumns basis free columns) (r place : ℕ) (row : r < length basis) (inside : place < length free) (after : AreColumns (set basis r (slice_index free place)) (set free place (slice_index basis r)) then) (same : length then ≡ length columns) where
  abbrev next : List ℕ
  next = set basis r (slice_index free place)

  abbrev off : List ℕ
  off = set free place (slice_index basis r)

  next_other : (k : ℕ) → k ≢ r → slice_index next k ≡ slice_index basis k
  next_other k a = get_or-set_other basis r k (slice_index free place) 0 a

  next_here : slice_index next r ≡ slice_index free place
  next_here = get_or-set_same basis r (slice_index free place) 0 row

  off_other : (k : ℕ) → k ≢ place → slice_index off k ≡ slice_index free k
  off_other k a = get_or-set_other free place k (slice_index basis r) 0 a

  off_here : slice_index off place ≡ slice_index basis r
  off_here = get_or-set_same free place (slice_index basis r) 0 inside

  next_long : length next ≡ length basis
  next_long = length-set basis r (slice_index free place)

  off_long : length off ≡ length free
  off_long = length-set free place (slice_index basis r)

  -- an equation i other than r, read at the columns that come
  enters : (i : ℕ) → i < length basis → i ≢ r → (xs : List ℤ) → length xs ≡ length free + 1 → Reads next off i (full columns (length free) i xs) (numbers (entered place xs))
  enters i is_row apart xs long = record {
    off = λ k h. ⊎_elim (λ (s : k ≡ place). rw (s, off_here, entered_here place xs (omega (arith, inside, long))) (full_zero are i xs r row (λ e. apart (sym e)))) (λ (a : k ≢ place). rw (off_other k a, entered_else place xs k a) (full_free are i xs k (rw off_long at h))) (cases_eq k place);
    own = rw (next_other i apart, off_long, entered_else place xs (length free) (λ e. omega (arith, e, inside))) (full_own are i xs is_row);
  }

  -- equation r
  module _ (fs : List ℤ) (long : length fs ≡ length free + 1) where
    has_own : length free < length fs
    has_own = omega (arith, long)

    leaves_off : (k : ℕ) → k < length off → full columns (length free) r fs (slice_index off k) ≡ numbers (left place (length free) fs) k
    leaves_off k h = ⊎_elim (λ (s : k ≡ place). rw (s, off_here, left_place place (length free) fs inside has_own) (full_own are r fs row)) (λ (a : k ≢ place). let q : k < length free = rw off_long at h in rw (off_other k a, left_else place (length free) fs inside has_own k a (λ e. omega (arith, e, q))) (full_free are r fs k q)) (cases_eq k place)

    leaves : (i : ℕ) → i < length basis → i ≢ r → Reads next off i (full columns (length free) r fs) (numbers (left place (length free) fs))
    leaves i h apart = record {
      off = leaves_off;
      own = rw (next_other i apart, off_long, left_own place (length free) fs inside has_own) (full_zero are r fs i h apart);
    }

    swaps : Reads next off r (full columns (length free) r fs) (numbers (swapped place (length free) fs))
    swaps = record {
      off = λ k h. let q : k < length free = rw off_long at h in rw (swapped_off place (length free) fs inside has_own k (λ e. omega (arith, e, q))) (leaves_off k h);
      own = rw (next_here, off_long, swapped_own place (length free) fs inside has_own) (full_free are r fs place inside);
    }

  part : IsPartition (length columns) next off
  part = rw same at (partition_of after)

  -- any equation, read at the columns that came
  reads_then : (i : ℕ) → i < length basis → (xs : List ℤ) → Reads next off i (full then (length free) i xs) (numbers xs)
  reads_then i h xs = rw off_long at (full_reads after i xs (rw next_long h))

  zero_then : (i : ℕ) (xs : List ℤ) (k : ℕ) → k < length next → k ≢ i → full then (length free) i xs (slice_index next k) ≡ pos 0
  zero_then i xs k h a = rw off_long at (full_zero after i xs k h a)

  zero_before : (i : ℕ) (xs : List ℤ) (k : ℕ) → k < length next → k ≢ i → k ≢ r → full columns (length free) i xs (slice_index next k) ≡ pos 0
  zero_before i xs k h a b = rw (next_other k b) (full_zero are i xs k (rw next_long at h) a)

  here_before : (i : ℕ) (xs : List ℤ) → full columns (length free) i xs (slice_index next r) ≡ numbers xs place
  here_before i xs = rw next_here (full_free are i xs place inside)

  module _ (old made : ℕ → List ℤ) (long : (i : ℕ) → i < length basis → length (old i) ≡ length free + 1) where
    abbrev before : ℕ → ℕ → ℤ
    before i = full columns (length free) i (old i)

    abbrev later : ℕ → ℕ → ℤ
    later i = full then (length free) i (made i)

    module _ (exchange : IsExchange (length basis) (length free) r place old made) where
      changed : (i : ℕ) → i < length basis → i ≢ r → IsMixture (length columns) (before i) (before r) (later i)
      changed i h a =
          let one = exchange.changed i h a in
          let mix : IsMixture (length off + 1) (numbers (entered place (old i))) (numbers (left place (length free) (old r))) (numbers (made i)) = rw off_long one.mixture in
          let in_next : i < length next = rw next_long h in
          mixture_out part i in_next r (before i) (before r) (later i) (numbers (entered place (old i))) (numbers (left place (length free) (old r))) (numbers (made i)) (enters i h a (old i) (long i h)) (leaves (old r) (long r row) i h a) (reads_then i h (made i)) (zero_before i (old i)) (λ k q b d. zero_before r (old r) k q d d) (zero_then i (made i)) mix (rw (here_before i (old i), here_before r (old r)) one.cleared)

      own_here : later r (slice_index free place) ≡ numbers (made r) (length free)
      own_here = ap (later r) (sym next_here) ∙ (reads_then r row (made r)).own ∙ ap (numbers (made r)) off_long

      own_other : (i : ℕ) → i < length basis → i ≢ r → later i (slice_index basis i) ≡ numbers (made i) (length free)
      own_other i h a = ap (later i) (sym (next_other i a)) ∙ (reads_then i h (made i)).own ∙ ap (numbers (made i)) off_long

      pub pivot_out : IsPivot (length basis) (length columns) (λ i. slice_index basis i) before r (slice_index free place) later
      pivot_out = record {
        pivoted = quotient_out part r (rw next_long row) (before r) (later r) (numbers (swapped place (length free) (old r))) (numbers (made r)) (swaps (old r) (long r row)) (reads_then r row (made r)) (λ k h a. zero_before r (old r) k h a a) (zero_then r (made r)) (rw off_long exchange.pivoted);
        changed = changed;
        cleared = λ i h a. rw next_here at (zero_then i (made i) r (rw next_long row) (λ e. a (sym e)));
        here = rw own_here exchange.here;
        own = λ i h a. rw (own_other i h a) (exchange.changed i h a).own;
        primitive = λ i h. primitive_out part i (rw next_long h) (later i) (numbers (made i)) (reads_then i h (made i)) (rw off_long (primitive_at i h));
      }
        where
          primitive_at : (i : ℕ) → i < length basis → IsPrimitive (length free + 1) (numbers (made i))
          primitive_at i h = ⊎_elim (λ (e : i ≡ r). rw e exchange.primitive) (λ (a : i ≢ r). (exchange.changed i h a).primitive) (cases_eq i r)

    -- the column whose number comes at a place of equation i
    module _ (i : ℕ) (is_row : i < length basis) (apart : i ≢ r) (at col : ℕ) (within : at < length free + 1) (at_own : at ≡ length free → col ≡ slice_index basis i) (at_off : at ≢ length free → col ≡ slice_index (set free place (slice_index basis r)) at) where
      reads_at : (e : ℕ → ℤ) (xs : ℕ → ℤ) → Reads next off i e xs → e col ≡ xs at
      reads_at e xs reads = ⊎_elim (λ (s : at ≡ length free). rw (at_own s, s, ← next_other i apart, ← off_long) reads.own) (λ (a : at ≢ length free). rw (at_off a) (reads.off at (rw off_long (omega (arith, within, a))))) (cases_eq at (length free))

      pub column_inside : col < length columns
      column_inside = ⊎_elim (λ (s : at ≡ length free). rw (at_own s) (are.basic_at i is_row).0) (λ (a : at ≢ length free). rw (at_off a) (part.free_below at (rw off_long (omega (arith, within, a))))) (cases_eq at (length free))

      pub wide_out : (w : Wide) → numbers (old r) place ≢ pos 0 → IsWideClear (numbers (old r) place) (numbers (old i) place) (numbers (left place (length free) (old r))) (numbers (entered place (old i))) at w → IsWidePivot (before r) (before i) (slice_index free place) col w
      wide_out w nonzero wide =
          let e_at = reads_at (before i) (numbers (entered place (old i))) (enters i is_row apart (old i) (long i is_row)) in
          let f_at = reads_at (before r) (numbers (left place (length free) (old r))) (leaves (old r) (long r row) i is_row apart) in
          let e_col = full_free are i (old i) place inside in
          let f_col = full_free are r (old r) place inside in
          rw (e_at, f_at, e_col, f_col) (wide.0, wide.1, nonzero, wide.2, wide.3, wide.4)
