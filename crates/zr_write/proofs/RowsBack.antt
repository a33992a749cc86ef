-- The values of terms, rows and pairs are read as these.
use Rattle.std.proofs.Common.{◌≡◌, ℕ, ◌+◌, ◌<◌, ◌≤◌, ℤ, List, [], ◌∷◌, ◌++◌, length, filter, map, refl, sym, ap, subst, ◌∙◌, Ok, Option, Some, None, true, false, Ordering, arith, codes, append-nil}
use Rattle.std.specs.Prelude.{decimal, nat_le, slice_get, is_some, ◌||◌, if◌then◌else◌}
use Rattle.std.specs.List.{All, sum_by}
use Rattle.std.specs.Ordering.{nat_cmp, ordering_reverse}
use Rattle.std.specs.Cmp.{IsTotalOrder, nat_cmp_is}
use Rattle.std.specs.declared.cmp.Ordering.TheVariants.{Less, Greater}
use Rattle.std.specs.BTreeMap.{insert_entry}
use Rattle.std.proofs.lemmas.Cmp.{nat_cmp_total}
use Rattle.std.proofs.lemmas.List.Sums.{sum_by-cons}
use Rattle.std.proofs.lemmas.Option.{slice_get-get_or}
use mathlib.Core.List.{append_assoc}
use Rattle.serde_json.specs.Data.{Data}
use Rattle.serde_json.specs.Find.{get}
use Rattle.serde_json.proofs.OnLiterals.{serde_json_on_literals}
use Rattle.zr_base.specs.Terms.{Terms, AscendWith}
use Rattle.zr_base.specs.Rows.{RowOf}
use Rattle.zr_game.specs.Players.{Name, VarOf, PairOf}
use Rattle.zr_game.specs.Forms.{IsCoefficient, AreTerms, IsRowForm, IsPairForm, IsFromZero}
use Rattle.zr_source.specs.Names.{AreNames}
use Rattle.zr_value.specs.Faults.{Read, ◌>>=◌, fault, under}
use Rattle.zr_value.specs.declared.fault.GameFault.TheVariants.{Count, PairLow}
use Rattle.zr_value.specs.Values.{number_in, needed, optional, part, items_in, listed, each}
use Rattle.zr_value.specs.Names.{known_in}
use Rattle.zr_value.specs.Terms.{taken, is_term, term_variable_in, new_variable, add_term, terms_in}
use Rattle.zr_value.proofs.Keys.{Before, Ordered}
use Rattle.zr_value.specs.declared.format.GameFormat.{GameFormat}
use Rattle.zr_value.specs.declared.format.GameFormat.TheVariants.{First, Second}
use Rattle.zr_value.specs.Formats.{since_second}
use Rattle.zr_read.specs.Rows.{side_in, rows_of, row_in, add_rows, row_count, rows_in, is_from_zero, pair_variable_in, pair_in, add_pair, pairs_in}
use Rattle.zr_write.specs.Canonical.{whole_data, list_data, name_data, term_data, terms_data, row_data, pair_data}
use Rattle.zr_write.proofs.VariablesBack.{then_back, needed_back, optional_back, part_back, since_missing, leb_is, not_zero, number_back, known_back, items_back, listed_data_back, all_back, map-itself}

-- ---- numbers by keys

module _ {K : Type 0} (order : K → K → Ordering) where
  -- the key comes after those of the entries
  abbrev pub IsAfter : K → List (K × ℤ) → Type 0
  IsAfter k [] = Unit {0}
  IsAfter k (e ∷ es) = (order k e.0 ≡ Greater) × IsAfter k es

  pub insert_last : (es : List (K × ℤ)) (k : K) (z : ℤ) → IsAfter k es
      → insert_entry order es k z ≡ es ++ (k, z) ∷ []
  insert_last [] k z h = refl
  insert_last (e ∷ es) k z h = rw (h.0) (ap (λ r. e ∷ r) (insert_last es k z h.1))

  pub free_last : (es : List (K × ℤ)) (k : K) → IsAfter k es → taken order es k ≡ false
  free_last [] k h = refl
  free_last (e ∷ es) k h = rw (h.0) (free_last es k h.1)

  -- all keys come after those of the entries
  abbrev pub AreAfter : List (K × ℤ) → List (K × ℤ) → Type 0
  AreAfter before [] = Unit {0}
  AreAfter before (e ∷ es) = IsAfter e.0 before × AreAfter before es

  pub after_none : (es : List (K × ℤ)) → AreAfter [] es
  after_none [] = tt
  after_none (e ∷ es) = (tt, after_none es)

  module _ (total : IsTotalOrder order) where
    after_push : (before : List (K × ℤ)) (k : K) (e : K × ℤ) → IsAfter k before
        → order e.0 k ≡ Less → IsAfter k (before ++ e ∷ [])
    after_push [] k e a less = (total.antisymm k e.0 ∙ ap ordering_reverse less, tt)
    after_push (b ∷ before) k e a less = (a.0, after_push before k e a.1 less)

    pub all_after_push : (before : List (K × ℤ)) (e : K × ℤ) (es : List (K × ℤ))
        → AreAfter before es → Before order e.0 es → AreAfter (before ++ e ∷ []) es
    all_after_push before e [] a b = tt
    all_after_push before e (f ∷ es) a b =
        (after_push before f.0 e a.0 b.0, all_after_push before e es a.1 b.1)

    -- each item adds its entry at the end
    pub entries_back : {T D : Type 0} (P : K → Type 0) (Q : ℤ → Type 0) (entry_of : T → K × ℤ)
        (add : List (K × ℤ) → D → Read (List (K × ℤ))) (data_of : T → D)
        → ((before : List (K × ℤ)) (t : T) → P (entry_of t).0 → Q (entry_of t).1
        → IsAfter (entry_of t).0 before
        → add before (data_of t) ≡ Ok (before ++ entry_of t ∷ []))
        → (i : ℕ) (before : List (K × ℤ)) (ts : List T)
        → Ordered order P Q (map entry_of ts) → AreAfter before (map entry_of ts)
        → each add i before (map data_of ts) ≡ Ok (before ++ map entry_of ts)
    entries_back P Q entry_of add data_of reads i before [] o a = ap Ok (sym (append-nil before))
    entries_back P Q entry_of add data_of reads i before (t ∷ ts) o a =
        let more = before ++ entry_of t ∷ [] in
        let e : under (decimal i) (add before (data_of t)) ≡ Ok more
        = rw (reads before t o.0 o.1 a.0) refl in
        then_back (under (decimal i) (add before (data_of t))) more
        (λ more. each add (i + 1) more (map data_of ts))
        (Ok (before ++ entry_of t ∷ map entry_of ts)) e
        (entries_back P Q entry_of add data_of reads (i + 1) more ts o.3
        (all_after_push before (entry_of t) (map entry_of ts) a.1 o.2)
        ∙ ap Ok (append_assoc before (entry_of t ∷ []) (map entry_of ts)))

  -- no number of these is 0
  pub none_dropped : (P : K → Type 0) (es : List (K × ℤ)) → Ordered order P IsCoefficient es
      → filter is_term es ≡ es
  none_dropped P [] o = refl
  none_dropped P (e ∷ es) o =
      rw (not_zero e.1 o.1.1) (ap (λ r. e ∷ r) (none_dropped P es o.3))

-- ---- terms

less_is : (v w : ℕ) → v < w → nat_cmp v w ≡ Less
less_is v w h = sym (nat_cmp_is v w Less h)

terms_before : (v low n : ℕ) (ts : Terms) → v < low → AscendWith IsCoefficient low n ts
    → Before nat_cmp v ts
terms_before v low n [] h a = tt
terms_before v low n (t ∷ ts) h a =
    let below : v < t.0 = omega (arith, h, a.0) in
    (less_is v t.0 below, terms_before v (t.0 + 1) n ts (omega (arith, below)) a.3)

terms_ordered : (low n : ℕ) (ts : Terms) → AscendWith IsCoefficient low n ts
    → Ordered nat_cmp (λ v. v < n) IsCoefficient ts
terms_ordered low n [] a = tt
terms_ordered low n (t ∷ ts) a =
    (a.1, a.2, terms_before t.0 (t.0 + 1) n ts (omega arith) a.3, terms_ordered (t.0 + 1) n ts a.3)

module _ (names : List Name) (are : AreNames names) where
  add_back : (before : Terms) (t : ℕ × ℤ) → t.0 < length names → IsCoefficient t.1
      → IsAfter nat_cmp t.0 before
      → add_term names before (term_data names t) ≡ Ok (before ++ t ∷ [])
  add_back before t below z a =
      let d = term_data names t in
      let v : term_variable_in names before (name_data names t.0) ≡ Ok t.0
      = then_back (known_in names (name_data names t.0)) t.0 (new_variable before) (Ok t.0)
      (known_back names t.0 are below) (rw (free_last nat_cmp before t.0 a) refl) in
      then_back (part 0 (term_variable_in names before) d) t.0
      (λ v. part 1 number_in d >>= λ z. Ok (insert_entry nat_cmp before v z))
      (Ok (before ++ t ∷ []))
      (part_back 0 (term_variable_in names before) d (name_data names t.0) t.0 refl v)
      (then_back (part 1 number_in d) t.1 (λ z. Ok (insert_entry nat_cmp before t.0 z))
      (Ok (before ++ t ∷ []))
      (part_back 1 number_in d (whole_data t.1) t.1 refl (number_back t.1 z.0))
      (ap Ok (insert_last nat_cmp before t.0 t.1 a)))

  -- a list of terms
  pub terms_back : (ts : Terms) → AreTerms (length names) ts
      → terms_in names (terms_data names ts) ≡ Ok ts
  terms_back ts a =
      let o = terms_ordered 0 (length names) ts a in
      let same = map-itself ts in
      let P : ℕ → Type 0 = λ v. v < length names in
      then_back (items_in (terms_data names ts)) (map (term_data names) ts)
      (λ ds. each (add_term names) 0 [] ds >>= λ all. Ok (filter is_term all)) (Ok ts)
      (items_back (map (term_data names) ts))
      (then_back (each (add_term names) 0 [] (map (term_data names) ts)) ts
      (λ all. Ok (filter is_term all)) (Ok ts)
      (entries_back nat_cmp nat_cmp_total P IsCoefficient (λ t. t) (add_term names)
      (term_data names) add_back 0 [] ts (subst (Ordered nat_cmp P IsCoefficient) (sym same) o)
      (after_none nat_cmp (map (λ t. t) ts)) ∙ ap Ok same)
      (ap Ok (none_dropped nat_cmp P ts o)))

  -- ---- rows

  row_terms : (r : RowOf) → get (codes "terms") (row_data names r) ≡ Some (terms_data names r.coef)
  unfolding serde_json_on_literals
  row_terms r = refl

  row_le : (r : RowOf) → get (codes "le") (row_data names r) ≡ Some (whole_data r.le)
  unfolding serde_json_on_literals
  row_le r = refl

  row_ge : (r : RowOf) → get (codes "ge") (row_data names r) ≡ None
  unfolding serde_json_on_literals
  row_ge r = refl

  row_eq : (r : RowOf) → get (codes "eq") (row_data names r) ≡ None
  unfolding serde_json_on_literals
  row_eq r = refl

  row_back : (f : GameFormat) (r : RowOf) → IsRowForm (length names) r
      → row_in f names (row_data names r) ≡ Ok (r ∷ [])
  row_back f r is =
      let d = row_data names r in
      then_back (needed (codes "terms") (terms_in names) d) r.coef
      (λ terms. optional (codes "le") None (side_in false) d >>= λ le.
      since_second f (codes "ge") None (side_in (is_some le)) d >>= λ ge.
      since_second f (codes "eq") None (side_in (is_some le || is_some ge)) d >>= λ eq.
      rows_of terms le ge eq) (Ok (r ∷ []))
      (needed_back (codes "terms") (terms_in names) d (terms_data names r.coef) r.coef (row_terms r)
      (terms_back r.coef is.coef))
      (then_back (optional (codes "le") None (side_in false) d) (Some r.le)
      (λ le. since_second f (codes "ge") None (side_in (is_some le)) d >>= λ ge.
      since_second f (codes "eq") None (side_in (is_some le || is_some ge)) d >>= λ eq.
      rows_of r.coef le ge eq) (Ok (r ∷ []))
      (optional_back (codes "le") None (side_in false) d (whole_data r.le) (Some r.le) (row_le r)
      (rw (number_back r.le is.le) refl))
      (then_back (since_second f (codes "ge") None (side_in true) d) None
      (λ ge. since_second f (codes "eq") None (side_in true) d >>= λ eq.
      rows_of r.coef (Some r.le) ge eq) (Ok (r ∷ []))
      (since_missing f (codes "ge") None (side_in true) d (row_ge r))
      (then_back (since_second f (codes "eq") None (side_in true) d) None
      (λ eq. rows_of r.coef (Some r.le) None eq) (Ok (r ∷ []))
      (since_missing f (codes "eq") None (side_in true) d (row_eq r)) refl)))

  one_row : (f : GameFormat) (r : RowOf) → row_count f (row_data names r) ≡ 1
  one_row First r = refl
  one_row Second r = ap (λ (o : Option Data). if is_some o then 2 else 1) (row_eq r)

  rows_counted : (f : GameFormat) (rs : List RowOf)
      → sum_by (row_count f) (map (row_data names) rs) ≡ length rs
  rows_counted f [] = refl
  rows_counted f (r ∷ rs) =
      let rest = rows_counted f rs in
      let one = one_row f r in
      let whole = sum_by-cons (row_count f) (row_data names r) (map (row_data names) rs) in
      omega (arith, rest, one, whole)

  -- at most so many rows
  pub rows_back : (f : GameFormat) (most : ℕ) (rs : List RowOf) → length rs ≤ most
      → All (IsRowForm (length names)) rs
      → rows_in f most names (list_data (row_data names) rs) ≡ Ok rs
  rows_back f most rs m all =
      let ds = map (row_data names) rs in
      then_back (items_in (list_data (row_data names) rs)) ds
      (λ ds. if nat_le (sum_by (row_count f) ds) most then each (add_rows f names) 0 [] ds
      else fault Count) (Ok rs) (items_back ds)
      (rw (leb_is (sum_by (row_count f) ds) most
      (subst (λ n. n ≤ most) (sym (rows_counted f rs)) m))
      (all_back (IsRowForm (length names)) (add_rows f names) (row_data names)
      (λ before r is. then_back (row_in f names (row_data names r)) (r ∷ [])
      (λ rows. Ok (before ++ rows)) (Ok (before ++ r ∷ [])) (row_back f r is) refl) rs all))

  -- ---- pairs

  pair_terms : (p : PairOf) → get (codes "terms") (pair_data names p)
      ≡ Some (terms_data names p.coef)
  unfolding serde_json_on_literals
  pair_terms p = refl

  pair_var : (p : PairOf) → get (codes "var") (pair_data names p) ≡ Some (name_data names p.var)
  unfolding serde_json_on_literals
  pair_var p = refl

  pair_add : (p : PairOf) → get (codes "add") (pair_data names p) ≡ Some (whole_data p.add)
  unfolding serde_json_on_literals
  pair_add p = refl

  module _ (vars : List VarOf) (same : length names ≡ length vars) where
    abbrev pub IsPair : PairOf → Type 0
    IsPair p = IsPairForm (length names) p × IsFromZero vars p.var

    from_zero : (v : ℕ) → v < length names → IsFromZero vars v
        → is_from_zero (slice_get vars v) ≡ true
    from_zero v below zero =
        let var : VarOf = record { name = []; whole = false; low = None; up = None } in
        let at = slice_get-get_or vars v var (omega (arith, below, same)) in
        rw at (rw (zero _ at) refl)

    pair_back : (p : PairOf) → IsPair p → pair_in names vars (pair_data names p) ≡ Ok p
    pair_back p is =
        let d = pair_data names p in
        then_back (needed (codes "var") (pair_variable_in names vars) d) p.var
        (λ v. needed (codes "terms") (terms_in names) d >>= λ terms.
        needed (codes "add") number_in d >>= λ add.
        Ok (record { var = v; coef = terms; add = add })) (Ok p)
        (needed_back (codes "var") (pair_variable_in names vars) d (name_data names p.var) p.var
        (pair_var p) (then_back (known_in names (name_data names p.var)) p.var
        (λ v. if is_from_zero (slice_get vars v) then Ok v else fault PairLow) (Ok p.var)
        (known_back names p.var are is.0.var) (rw (from_zero p.var is.0.var is.1) refl)))
        (then_back (needed (codes "terms") (terms_in names) d) p.coef
        (λ terms. needed (codes "add") number_in d >>= λ add.
        Ok (record { var = p.var; coef = terms; add = add })) (Ok p)
        (needed_back (codes "terms") (terms_in names) d (terms_data names p.coef) p.coef
        (pair_terms p) (terms_back p.coef is.0.coef))
        (then_back (needed (codes "add") number_in d) p.add
        (λ add. Ok (record { var = p.var; coef = p.coef; add = add })) (Ok p)
        (needed_back (codes "add") number_in d (whole_data p.add) p.add (pair_add p)
        (number_back p.add is.0.add)) refl))

    -- at most 32 pairs
    pub pairs_back : (ps : List PairOf) → length ps ≤ 32 → All IsPair ps
        → pairs_in names vars (list_data (pair_data names) ps) ≡ Ok ps
    pairs_back ps m all =
        then_back (listed 0 32 (list_data (pair_data names) ps)) (map (pair_data names) ps)
        (λ ds. each (add_pair names vars) 0 [] ds) (Ok ps)
        (listed_data_back 0 32 (pair_data names) ps (omega arith) m)
        (all_back IsPair (add_pair names vars) (pair_data names)
        (λ before p is. then_back (pair_in names vars (pair_data names p)) p
        (λ p. Ok (before ++ p ∷ [])) (Ok (before ++ p ∷ [])) (pair_back p is) refl) ps all)
