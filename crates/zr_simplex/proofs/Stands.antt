-- Where the columns of a tableau stand.
use Rattle.std.proofs.Common.{◌≡◌, ◌≢◌, ℕ, ◌+◌, ◌<◌, ◌≤◌, arith, sym, ap, ◌∙◌, ◌⊎◌, inl, inr, ⊎_elim, List, [], ◌∷◌, ◌++◌, length, length-append, set, slice_index, length-set, get_or-set_same, get_or-set_other}
use Rattle.std.proofs.lemmas.Bool.{cases_eq, cases_lt}
use Rattle.std.proofs.lemmas.List.{get_or_push, get_or_append_left}
use Rattle.zr_simplex.specs.declared.columns.Column.{Column}
use Rattle.zr_simplex.specs.declared.columns.Column.TheVariants.{Basic, Free}
use Rattle.zr_simplex.specs.Tableaus.{AreColumns, Holds, StandsAt, IsPartition, column_at}

module _ {basis free : List ℕ} {columns : List Column} (are : AreColumns basis free columns) where
  each_of : (j : ℕ) (place : Column) → Holds basis free j place → ((i : ℕ) × (i < length basis) × (slice_index basis i ≡ j)) ⊎ ((k : ℕ) × (k < length free) × (slice_index free k ≡ j))
  each_of j (Basic i) held = inl (i, held.0, held.1)
  each_of j (Free k) held = inr (k, held.0, held.1)

  pub partition_of : IsPartition (length columns) basis free
  partition_of = record {
    basic_below = λ i h. (are.basic_at i h).0;
    free_below = λ k h. (are.free_at k h).0;
    each = λ j h. each_of j (column_at columns j) (are.each j h);
    apart = λ i k h q e.
        let clash : Basic i ≡ Free k = sym (are.basic_at i h).1 ∙ ap (column_at columns) e ∙ (are.free_at k q).1 in
        cc clash;
    basic_once = λ i k h q e.
        let same : Basic i ≡ Basic k = sym (are.basic_at i h).1 ∙ ap (column_at columns) e ∙ (are.basic_at k q).1 in
        cc same;
    free_once = λ i k h q e.
        let same : Free i ≡ Free k = sym (are.free_at i h).1 ∙ ap (column_at columns) e ∙ (are.free_at k q).1 in
        cc same;
  }

-- the column of equation r and the one at a place off the basis take each other's place
module _ (basis free : List ℕ) (columns : List Column) (are : AreColumns basis free columns) (r place : ℕ) (row : r < length basis) (inside : place < length free) where
  leaving : ℕ
  leaving = slice_index basis r

  entering : ℕ
  entering = slice_index free place

  first : List Column
  first = set columns (slice_index free place) (Basic r)

  made : List Column
  made = set (set columns (slice_index free place) (Basic r)) (slice_index basis r) (Free place)

  differ : slice_index free place ≢ slice_index basis r
  differ e =
      let clash : Free place ≡ Basic r = sym (are.free_at place inside).1 ∙ ap (column_at columns) e ∙ (are.basic_at r row).1 in
      cc clash

  pub exchanged-length : length (set (set columns (slice_index free place) (Basic r)) (slice_index basis r) (Free place)) ≡ length columns
  exchanged-length = length-set (set columns (slice_index free place) (Basic r)) (slice_index basis r) (Free place) ∙ length-set columns (slice_index free place) (Basic r)

  at_leaving : column_at made leaving ≡ Free place
  unfolding made leaving
  at_leaving = get_or-set_same (set columns (slice_index free place) (Basic r)) (slice_index basis r) (Free place) (Basic 0) (let h = (are.basic_at r row).0 in omega (arith, h, length-set columns (slice_index free place) (Basic r)))

  at_entering : column_at made entering ≡ Basic r
  unfolding made entering
  at_entering = get_or-set_other (set columns (slice_index free place) (Basic r)) (slice_index basis r) (slice_index free place) (Free place) (Basic 0) differ ∙ get_or-set_same columns (slice_index free place) (Basic r) (Basic 0) (are.free_at place inside).0

  at_other : (j : ℕ) → j ≢ leaving → j ≢ entering → column_at made j ≡ column_at columns j
  unfolding made leaving entering
  at_other j a b = get_or-set_other (set columns (slice_index free place) (Basic r)) (slice_index basis r) j (Free place) (Basic 0) a ∙ get_or-set_other columns (slice_index free place) j (Basic r) (Basic 0) b

  new_basic : (i : ℕ) → i < length basis → StandsAt made (slice_index (set basis r entering) i) (Basic i)
  unfolding made leaving entering
  new_basic i h = ⊎_elim (λ (e : i ≡ r). rw (e, get_or-set_same basis r (slice_index free place) 0 row) (rw exchanged-length (are.free_at place inside).0, at_entering)) (λ (a : i ≢ r). rw (get_or-set_other basis r i (slice_index free place) 0 a) (rw exchanged-length (are.basic_at i h).0, at_other (slice_index basis i) (λ e. a ((partition_of are).basic_once i r h row e)) (λ e. (partition_of are).apart i place h inside e) ∙ (are.basic_at i h).1)) (cases_eq i r)

  new_free : (k : ℕ) → k < length free → StandsAt made (slice_index (set free place leaving) k) (Free k)
  unfolding made leaving entering
  new_free k h = ⊎_elim (λ (e : k ≡ place). rw (e, get_or-set_same free place (slice_index basis r) 0 inside) (rw exchanged-length (are.basic_at r row).0, at_leaving)) (λ (a : k ≢ place). rw (get_or-set_other free place k (slice_index basis r) 0 a) (rw exchanged-length (are.free_at k h).0, at_other (slice_index free k) (λ e. (partition_of are).apart r k row h (sym e)) (λ e. a ((partition_of are).free_once k place h inside e)) ∙ (are.free_at k h).1)) (cases_eq k place)

  held_at : (j : ℕ) (stands : Column) → j ≢ slice_index basis r → j ≢ slice_index free place → Holds basis free j stands → Holds (set basis r (slice_index free place)) (set free place (slice_index basis r)) j stands
  held_at j (Basic i) a b held = (rw (length-set basis r (slice_index free place)) held.0, get_or-set_other basis r i (slice_index free place) 0 (λ e. a (sym held.1 ∙ ap (λ n. slice_index basis n) e)) ∙ held.1)
  held_at j (Free k) a b held = (rw (length-set free place (slice_index basis r)) held.0, get_or-set_other free place k (slice_index basis r) 0 (λ e. b (sym held.1 ∙ ap (λ n. slice_index free n) e)) ∙ held.1)

  new_each : (j : ℕ) → j < length columns → Holds (set basis r (slice_index free place)) (set free place (slice_index basis r)) j (column_at made j)
  unfolding leaving entering
  new_each j h = ⊎_elim (λ (e : j ≡ slice_index basis r). rw (e, at_leaving) (rw (length-set free place (slice_index basis r)) inside, get_or-set_same free place (slice_index basis r) 0 inside)) (λ (a : j ≢ slice_index basis r). ⊎_elim (λ (e : j ≡ slice_index free place). rw (e, at_entering) (rw (length-set basis r (slice_index free place)) row, get_or-set_same basis r (slice_index free place) 0 row)) (λ (b : j ≢ slice_index free place). rw (at_other j a b) (held_at j (column_at columns j) a b (are.each j h))) (cases_eq j (slice_index free place))) (cases_eq j (slice_index basis r))

  pub exchanged : AreColumns (set basis r (slice_index free place)) (set free place (slice_index basis r)) (set (set columns (slice_index free place) (Basic r)) (slice_index basis r) (Free place))
  unfolding made leaving entering
  exchanged = record {
    basic_at = λ i h. new_basic i (rw (length-set basis r (slice_index free place)) at h);
    free_at = λ k h. new_free k (rw (length-set free place (slice_index basis r)) at h);
    each = λ j h. new_each j (rw exchanged-length at h);
  }

-- a slack column comes in before the value's, which is the basis' last, and before that of the right sides, which is the last off it
module _ (basis free : List ℕ) (columns : List Column) (are : AreColumns basis free columns) (m n v : ℕ) (count : length basis ≡ m + 1) (off : length free ≡ n + 1) (long : length columns ≡ v + 2) (value : slice_index basis m ≡ v) (right : slice_index free n ≡ v + 1) where
  abbrev next : List ℕ
  next = basis ++ (v + 1) ∷ []

  abbrev later : List ℕ
  later = set free n (v + 2)

  abbrev then : List Column
  then = set columns (v + 1) (Basic (m + 1)) ++ Free n ∷ []

  set_long : length (set columns (v + 1) (Basic (m + 1))) ≡ v + 2
  set_long = length-set columns (v + 1) (Basic (m + 1)) ∙ long

  then_long : length then ≡ v + 3
  then_long = omega (arith, length-append (set columns (v + 1) (Basic (m + 1))) (Free n ∷ []), set_long)

  then_before : (j : ℕ) → j < v + 1 → column_at then j ≡ column_at columns j
  then_before j h =
      get_or_append_left (set columns (v + 1) (Basic (m + 1))) (Free n ∷ []) (Basic 0) j (omega (arith, h, set_long)) ∙ get_or-set_other columns (v + 1) j (Basic (m + 1)) (Basic 0) (λ e. omega (arith, e, h))

  then_value : column_at then (v + 1) ≡ Basic (m + 1)
  then_value =
      get_or_append_left (set columns (v + 1) (Basic (m + 1))) (Free n ∷ []) (Basic 0) (v + 1) (omega (arith, set_long)) ∙ get_or-set_same columns (v + 1) (Basic (m + 1)) (Basic 0) (omega (arith, long))

  then_right : column_at then (v + 2) ≡ Free n
  then_right = get_or_push (set columns (v + 1) (Basic (m + 1))) (Free n) (Basic 0) (v + 2) set_long

  next_before : (i : ℕ) → i < m + 1 → slice_index next i ≡ slice_index basis i
  next_before i h = get_or_append_left basis ((v + 1) ∷ []) 0 i (omega (arith, h, count))

  next_value : slice_index next (m + 1) ≡ v + 1
  next_value = get_or_push basis (v + 1) 0 (m + 1) count

  next_long : length next ≡ m + 2
  next_long = omega (arith, length-append basis ((v + 1) ∷ []), count)

  later_before : (k : ℕ) → k ≢ n → slice_index later k ≡ slice_index free k
  later_before k a = get_or-set_other free n k (v + 2) 0 a

  later_right : slice_index later n ≡ v + 2
  later_right = get_or-set_same free n (v + 2) 0 (omega (arith, off))

  later_long : length later ≡ n + 1
  later_long = length-set free n (v + 2) ∙ off

  basic_low : (i : ℕ) → i < m + 1 → slice_index basis i < v + 1
  basic_low i h =
      let below = (are.basic_at i (omega (arith, h, count))).0 in
      let apart : slice_index basis i ≢ v + 1 = λ e. (partition_of are).apart i n (omega (arith, h, count)) (omega (arith, off)) (e ∙ sym right) in
      omega (arith, below, apart, long)

  free_low : (k : ℕ) → k < n → slice_index free k < v + 1
  free_low k h =
      let below = (are.free_at k (omega (arith, h, off))).0 in
      let apart : slice_index free k ≢ v + 1 = λ e. (let s = (partition_of are).free_once k n (omega (arith, h, off)) (omega (arith, off)) (e ∙ sym right) in omega (arith, s, h)) in
      omega (arith, below, apart, long)

  before_held : (j : ℕ) (stands : Column) → j < v + 1 → Holds basis free j stands → Holds next later j stands
  before_held j (Basic i) h held = (omega (arith, held.0, count, next_long), next_before i (omega (arith, held.0, count)) ∙ held.1)
  before_held j (Free k) h held = (omega (arith, held.0, off, later_long), later_before k (λ e. (let s = ap (λ i. slice_index free i) e in omega (arith, s, right, held.1, h))) ∙ held.1)

  pub slack_added : AreColumns (basis ++ (v + 1) ∷ []) (set free n (v + 2)) (set columns (v + 1) (Basic (m + 1)) ++ Free n ∷ [])
  slack_added = record {
    basic_at = λ i h. ⊎_elim (λ (a : i < m + 1). rw (next_before i a) (let b = basic_low i a in omega (arith, b, then_long), then_before (slice_index basis i) (basic_low i a) ∙ (are.basic_at i (omega (arith, a, count))).1)) (λ (a : m + 1 ≤ i). let e : i ≡ m + 1 = omega (arith, a, h, next_long) in rw (e, next_value) (omega (arith, then_long), then_value)) (cases_lt i (m + 1));
    free_at = λ k h. ⊎_elim (λ (e : k ≡ n). rw (e, later_right) (omega (arith, then_long), then_right)) (λ (a : k ≢ n). let q : k < n = omega (arith, a, h, later_long) in rw (later_before k a) (let b = free_low k q in omega (arith, b, then_long), then_before (slice_index free k) (free_low k q) ∙ (are.free_at k (omega (arith, q, off))).1)) (cases_eq k n);
    each = λ j h. ⊎_elim (λ (a : j < v + 1). rw (then_before j a) (before_held j (column_at columns j) a (are.each j (omega (arith, a, long))))) (λ (a : v + 1 ≤ j). ⊎_elim (λ (e : j ≡ v + 1). rw (e, then_value) (omega (arith, next_long), next_value)) (λ (b : j ≢ v + 1). let e : j ≡ v + 2 = omega (arith, a, b, h, then_long) in rw (e, then_right) (omega (arith, later_long), later_right)) (cases_eq j (v + 1))) (cases_lt j (v + 1));
  }
