-- The rows and pairs that are read keep the rules.
use Rattle.std.proofs.Common.{◌≡◌, ℕ, ◌+◌, ◌≤◌, ℤ, pos, List, [], ◌∷◌, ◌++◌, length, subst, refl, sym, Ok, Option, Some, None, Bool, true, false, cond, codes, arith, length-append}
use Rattle.std.specs.Prelude.{◌||◌, ◌<◌, neg_ℤ, is_some, nat_le, slice_get}
use Rattle.std.specs.List.{All, sum_by}
use Rattle.std.specs.Option.{ForSome}
use Rattle.std.proofs.lemmas.Bool.Decides.{Decides-int_eq}
use Rattle.std.proofs.lemmas.List.Elements.{All-nil, All-cons, All-push, All-append}
use Rattle.serde_json.specs.Data.{Data}
use Rattle.serde_json.specs.Find.{get}
use Rattle.zr_base.specs.Terms.{Terms}
use Rattle.zr_base.specs.Rows.{RowOf}
use Rattle.zr_game.specs.Players.{Name, VarOf, PairOf}
use Rattle.zr_game.specs.Forms.{AreTerms, IsNumber, IsRowForm, IsPairForm, IsFromZero}
use Rattle.zr_value.specs.declared.fault.GameFault.TheVariants.{Twice, Count, PairLow}
use Rattle.zr_value.specs.Faults.{Read, fault, under}
use Rattle.zr_value.specs.Values.{number_in, object_in, items_in, needed, optional, there_or, listed, each}
use Rattle.zr_value.specs.Names.{known_in}
use Rattle.zr_value.specs.Terms.{terms_in, opposite}
use Rattle.zr_value.proofs.Behind.{bind_ok, guard_ok, only_ok, needed_ok, optional_keeps, each_keeps, each_counts, each_grows, listed_ok, le_from_test}
use Rattle.zr_value.proofs.Keys.{number_opposite}
use Rattle.zr_value.proofs.TermLaws.{whole_ok, known_below, terms_are_right, opposite_ascends}
use Rattle.zr_value.specs.declared.format.GameFormat.{GameFormat}
use Rattle.zr_value.specs.declared.format.GameFormat.TheVariants.{First, Second}
use Rattle.zr_value.specs.Formats.{since_second}
use Rattle.zr_read.specs.Rows.{side_in, at_most, at_least, rows_of, row_in, add_rows, row_count, rows_in, is_zero, is_from_zero, pair_variable_in, pair_in, add_pair, pairs_in}
use Rattle.zr_read.proofs.Naming.{length-push}
use Rattle.zr_read.proofs.OwnVars.{since_keeps}

-- ---- rows

side_ok : (has_one : Bool) (d : Data) (o : Option ℤ) → side_in has_one d ≡ Ok o
    → ForSome o IsNumber
side_ok has_one d o h z is =
    let b = bind_ok (number_in d) _ o h in
    let g = guard_ok Twice has_one (Some b.0) o b.2 in
    let same : b.0 ≡ z = cc (g.1) in
    subst IsNumber same (whole_ok _ d b.0 b.1)

none_ok : ForSome None IsNumber
none_ok z e = absurd (cc)

rows_right : (n : ℕ) (ts : Terms) (le ge eq : Option ℤ) (rs : List RowOf) → AreTerms n ts
    → ForSome le IsNumber → ForSome ge IsNumber → ForSome eq IsNumber
    → rows_of ts le ge eq ≡ Ok rs → All (IsRowForm n) rs
rows_right n ts (Some z) ge eq rs t l g q h =
    let e : record { coef = ts; le = z } ∷ [] ≡ rs = cc in
    subst (All (IsRowForm n)) e (All-cons (IsRowForm n) (at_most ts z) []
    (record { coef = t; le = l z refl }) (All-nil (IsRowForm n)))
rows_right n ts None (Some z) eq rs t l g q h =
    let e : record { coef = opposite ts; le = neg_ℤ z } ∷ [] ≡ rs = cc in
    subst (All (IsRowForm n)) e (All-cons (IsRowForm n) (at_least ts z) []
    (record { coef = opposite_ascends 0 n ts t; le = number_opposite z (g z refl) })
    (All-nil (IsRowForm n)))
rows_right n ts None None (Some z) rs t l g q h =
    let e : record { coef = ts; le = z } ∷ record { coef = opposite ts; le = neg_ℤ z } ∷ [] ≡ rs
    = cc in
    subst (All (IsRowForm n)) e (All-cons (IsRowForm n) (at_most ts z) (at_least ts z ∷ [])
    (record { coef = t; le = q z refl })
    (All-cons (IsRowForm n) (at_least ts z) []
    (record { coef = opposite_ascends 0 n ts t; le = number_opposite z (q z refl) })
    (All-nil (IsRowForm n))))
rows_right n ts None None None rs t l g q h = absurd (cc)

one_row : (ts : Terms) (le ge : Option ℤ) (rs : List RowOf) → rows_of ts le ge None ≡ Ok rs
    → length rs ≤ 1
one_row ts (Some z) ge rs h =
    let e : record { coef = ts; le = z } ∷ [] ≡ rs = cc in
    subst (λ rs. length rs ≤ 1) e (omega arith)
one_row ts None (Some z) rs h =
    let e : record { coef = opposite ts; le = neg_ℤ z } ∷ [] ≡ rs = cc in
    subst (λ rs. length rs ≤ 1) e (omega arith)
one_row ts None None rs h = absurd (cc)

two_rows : (ts : Terms) (le ge eq : Option ℤ) (rs : List RowOf) → rows_of ts le ge eq ≡ Ok rs
    → length rs ≤ 2
two_rows ts le ge None rs h = let one = one_row ts le ge rs h in omega (arith, one)
two_rows ts (Some z) ge (Some y) rs h = let one = one_row ts (Some z) ge rs h in omega (arith, one)
two_rows ts None (Some z) (Some y) rs h =
    let one = one_row ts None (Some z) rs h in omega (arith, one)
two_rows ts None None (Some y) rs h =
    let e : record { coef = ts; le = y } ∷ record { coef = opposite ts; le = neg_ℤ y } ∷ [] ≡ rs
    = cc in
    subst (λ rs. length rs ≤ 2) e (omega arith)

-- no more rows than the object counts for
counted : (f : GameFormat) (has_one : Bool) (ts : Terms) (le ge eq : Option ℤ) (d : Data)
    (rs : List RowOf) → since_second f (codes "eq") None (side_in has_one) d ≡ Ok eq
    → rows_of ts le ge eq ≡ Ok rs → length rs ≤ row_count f d
counted First has_one ts le ge eq d rs q h =
    let e : None ≡ eq = cc in
    one_row ts le ge rs (subst (λ o. rows_of ts le ge o ≡ Ok rs) (sym e) h)
counted Second has_one ts le ge eq d rs q h = by (get (codes "eq") d) q
  where
    by : (o : Option Data) → under (codes "eq") (there_or None (side_in has_one) o) ≡ Ok eq
        → length rs ≤ cond (is_some o) 2 1
    by None q =
        let e : None ≡ eq = cc in
        one_row ts le ge rs (subst (λ o. rows_of ts le ge o ≡ Ok rs) (sym e) h)
    by (Some d) q = two_rows ts le ge eq rs h

module _ (f : GameFormat) (names : List Name) where
  -- the rows of one object
  row_ok : (d : Data) (rs : List RowOf) → row_in f names d ≡ Ok rs
      → All (IsRowForm (length names)) rs × (length rs ≤ row_count f d)
  row_ok d rs h =
      let o = bind_ok (object_in d) _ rs h in
      let t = bind_ok (needed (codes "terms") (terms_in names) d) _ rs o.2 in
      let l = bind_ok (optional (codes "le") None (side_in false) d) _ rs t.2 in
      let g = bind_ok (since_second f (codes "ge") None (side_in (is_some l.0)) d) _ rs l.2 in
      let q = bind_ok (since_second f (codes "eq") None (side_in (is_some l.0 || is_some g.0)) d)
      _ rs g.2 in
      let ts = needed_ok (codes "terms") (terms_in names) d t.0 t.1 in (
        rows_right (length names) t.0 l.0 g.0 q.0 rs (terms_are_right names ts.0 t.0 ts.1)
            (optional_keeps (λ o. ForSome o IsNumber) (codes "le") None (side_in false) d l.0
            none_ok (side_ok false) l.1)
            (since_keeps (λ o. ForSome o IsNumber) f (codes "ge") None (side_in (is_some l.0)) d g.0
            none_ok (side_ok (is_some l.0)) g.1)
            (since_keeps (λ o. ForSome o IsNumber) f (codes "eq") None
            (side_in (is_some l.0 || is_some g.0)) d q.0
            none_ok (side_ok (is_some l.0 || is_some g.0)) q.1) q.2,
        counted f (is_some l.0 || is_some g.0) t.0 l.0 g.0 q.0 d rs q.1 q.2,
      )

  rows_keep : (s : List RowOf) (d : Data) (t : List RowOf) → All (IsRowForm (length names)) s
      → add_rows f names s d ≡ Ok t → All (IsRowForm (length names)) t
  rows_keep s d t are h =
      let b = bind_ok (row_in f names d) (λ rs. Ok (s ++ rs)) t h in
      let e : s ++ b.0 ≡ t = cc (b.2) in
      subst (All (IsRowForm (length names))) e
      (All-append (IsRowForm (length names)) s b.0 are (row_ok d b.0 b.1).0)

  rows_grow : (s : List RowOf) (d : Data) (t : List RowOf) → add_rows f names s d ≡ Ok t
      → length t ≤ length s + row_count f d
  rows_grow s d t h =
      let b = bind_ok (row_in f names d) (λ rs. Ok (s ++ rs)) t h in
      let e : s ++ b.0 ≡ t = cc (b.2) in
      let few = (row_ok d b.0 b.1).1 in
      let whole : length (s ++ b.0) ≡ length s + length b.0 = length-append s b.0 in
      subst (λ t. length t ≤ length s + row_count f d) e (omega (arith, few, whole))

  -- the rows that are read are at most so many, and right
  pub rows_ok : (most : ℕ) (d : Data) (rs : List RowOf) → rows_in f most names d ≡ Ok rs
      → (length rs ≤ most) × All (IsRowForm (length names)) rs
  rows_ok most d rs h =
      let ds = bind_ok (items_in d) _ rs h in
      let only = only_read (nat_le (sum_by (row_count f) ds.0) most)
      (each (add_rows f names) 0 [] ds.0) rs ds.2 in
      let few = le_from_test (sum_by (row_count f) ds.0) most only.0 in
      let n = each_grows length (row_count f) (add_rows f names) rows_grow 0 [] ds.0 rs only.1 in (
        omega (arith, few, n),
        each_keeps (All (IsRowForm (length names))) (add_rows f names) rows_keep 0 [] ds.0 rs
            (All-nil (IsRowForm (length names))) only.1,
      )
    where
      only_read : (b : Bool) (r : Read (List RowOf)) (rs : List RowOf)
          → (let all : Read (List RowOf) = cond b r (fault Count) in all ≡ Ok rs)
          → (b ≡ true) × (r ≡ Ok rs)
      only_read true r rs h = (refl, h)
      only_read false r rs h = absurd (cc)

-- ---- pairs

zero_from_test : (o : Option ℤ) → is_zero o ≡ true → o ≡ Some (pos 0)
zero_from_test None h = absurd (cc)
zero_from_test (Some z) h = let e : z ≡ pos 0 = (Decides-int_eq z (pos 0)).0 h in rw e refl

from_zero_from_test : (vars : List VarOf) (v : ℕ) → is_from_zero (slice_get vars v) ≡ true
    → IsFromZero vars v
from_zero_from_test vars v h var at =
    zero_from_test var.low (subst (λ o. is_from_zero o ≡ true) at h)

module _ (names : List Name) (vars : List VarOf) where
  abbrev pub IsPair : PairOf → Type 0
  IsPair pair = IsPairForm (length names) pair × IsFromZero vars pair.var

  pair_ok : (d : Data) (p : PairOf) → pair_in names vars d ≡ Ok p → IsPair p
  pair_ok d p h =
      let o = bind_ok (object_in d) _ p h in
      let v = bind_ok (needed (codes "var") (pair_variable_in names vars) d) _ p o.2 in
      let t = bind_ok (needed (codes "terms") (terms_in names) d) _ p v.2 in
      let a = bind_ok (needed (codes "add") number_in d) _ p t.2 in
      let v_at = needed_ok (codes "var") (pair_variable_in names vars) d v.0 v.1 in
      let t_at = needed_ok (codes "terms") (terms_in names) d t.0 t.1 in
      let a_at = needed_ok (codes "add") number_in d a.0 a.1 in
      let k = bind_ok (known_in names v_at.0) _ v.0 v_at.1 in
      let low = only_ok PairLow (is_from_zero (slice_get vars k.0)) k.0 v.0 k.2 in
      let e : record { var = v.0; coef = t.0; add = a.0 } ≡ p = cc (a.2) in
      subst IsPair e (
        record {
          var = subst (λ v. v < length names) low.1 (known_below names v_at.0 k.0 k.1);
          coef = terms_are_right names t_at.0 t.0 t_at.1;
          add = whole_ok _ a_at.0 a.0 a_at.1;
        },
        subst (IsFromZero vars) low.1 (from_zero_from_test vars k.0 low.0),
      )

  pairs_keep : (s : List PairOf) (d : Data) (t : List PairOf) → All IsPair s
      → add_pair names vars s d ≡ Ok t → All IsPair t
  pairs_keep s d t are h =
      let b = bind_ok (pair_in names vars d) (λ p. Ok (s ++ p ∷ [])) t h in
      let e : s ++ b.0 ∷ [] ≡ t = cc (b.2) in
      subst (All IsPair) e (All-push IsPair s b.0 are (pair_ok d b.0 b.1))

  pairs_count : (s : List PairOf) (d : Data) (t : List PairOf) → add_pair names vars s d ≡ Ok t
      → length t ≡ length s + 1
  pairs_count s d t h =
      let b = bind_ok (pair_in names vars d) (λ p. Ok (s ++ p ∷ [])) t h in
      let e : s ++ b.0 ∷ [] ≡ t = cc (b.2) in
      subst (λ t. length t ≡ length s + 1) e (length-push s b.0)

  -- the pairs that are read are 32 at most, and right
  pub pairs_ok : (d : Data) (ps : List PairOf) → pairs_in names vars d ≡ Ok ps
      → (length ps ≤ 32) × All IsPair ps
  pairs_ok d ps h =
      let ds = bind_ok (listed 0 32 d) (λ ds. each (add_pair names vars) 0 [] ds) ps h in
      let few = listed_ok 0 32 d ds.0 ds.1 in
      let n = each_counts (add_pair names vars) pairs_count 0 [] ds.0 ps ds.2 in (
        omega (arith, few.1, n),
        each_keeps (All IsPair) (add_pair names vars) pairs_keep 0 [] ds.0 ps (All-nil IsPair) ds.2,
      )
