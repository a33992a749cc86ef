-- What is put in order, merged and divided is the strategy as it is printed.
use Rattle.std.proofs.Common.{◌≡◌, ℕ, suc, ◌+◌, ◌<◌, ◌≤◌, arith, refl, sym, ap, subst, ◌∙◌, ℤ, pos, ◌+ℤ◌, ◌*ℤ◌, ◌<ℤ◌, ◌≤ℤ◌, unsigned_abs, [], ◌∷◌, length, inl, inr}
use Rattle.std.specs.List.{Contains}
use Rattle.std.proofs.lemmas.Int.{ints}
use Rattle.std.proofs.lemmas.Nat.Gcd.{dvd_refl}
use Rattle.zr_base.specs.Points.{IsPoint, PointOf}
use Rattle.zr_base.specs.Steps.{IsNarrow}
use Rattle.zr_base.proofs.Members.{Has, each_of, each_of_all, each_weaker}
use Rattle.zr_base.proofs.Worth.{Each}
use Rattle.zr_game.specs.Profiles.{Part, Strategy, surely, total}
use Rattle.zr_cert.specs.Forms.{IsPartForm}
use Rattle.zr_system.proofs.Joined.{all_of_each}
use Rattle.zr_tidy.specs.Merges.{AreDivided, AreMerged, HasPut, alone, before, met, after, done, more}
use Rattle.zr_tidy.specs.Tidy.{AreParts, IsGreatestWeight, IsPointOf, IsTidied, IsTidy, width}
use Rattle.zr_tidy.proofs.Lowering.{narrow_factor}
use Rattle.zr_tidy.proofs.Tidying.{Divides, EachPoint, HasWeight, Lowered, is_tidy, points_divided, points_merged, weight_divided, weight_merged}
use Rattle.zr_tidy.proofs.Totals.{narrow_below, nonneg_total}
use Rattle.zr_tidy.proofs.Weighing.{are_alike, some_total, total_divided, total_merged}

abbrev pub HasForm : PointOf → Type 0
HasForm x = IsPoint x.num x.den

abbrev pub HasLength : ℕ → PointOf → Type 0
HasLength n x = length x.num ≡ n

dens_merged : (old raw new : Strategy) → AreMerged old raw new
    → Each (λ part. (pos 0) <ℤ part.point.den) raw
dens_merged old [] new m = tt
dens_merged old (p ∷ ps) new m = (m.1.same.right, dens_merged m.0 ps new m.2)

positive_total : (xs : Strategy) → 0 < length xs → Each HasWeight xs → (pos 0) <ℤ total xs
positive_total [] h w = absurd (omega arith)
positive_total (p ∷ ps) h w =
    let a = w.0 in let r = nonneg_total ps w.1 in omega (arith, ints, a, r)

some_length : (xs : Strategy) → (pos 0) <ℤ total xs → 0 < length xs
some_length [] h = absurd (omega (arith, ints, h))
some_length (p ∷ ps) h = omega arith

-- ---- the form of each part

form_each : (t : ℤ) (n : ℕ) → IsNarrow t → 0 < n → (xs : Strategy) → total xs ≤ℤ t
    → Each HasWeight xs → EachPoint (HasLength n) xs → EachPoint HasForm xs → Each IsPartForm xs
form_each t n narrow some [] le w l f = tt
form_each t n narrow some (p ∷ ps) le w l f =
    let a = w.0 in
    let r = nonneg_total ps w.1 in
    let least : (pos 0) ≤ℤ p.weight = omega (arith, ints, a) in
    let most : p.weight ≤ℤ t = omega (arith, ints, r, le) in
    let rest : total ps ≤ℤ t = omega (arith, ints, a, le) in (
      record {
        weight = (a, narrow_below p.weight t least most narrow);
        some = subst (λ (k : ℕ). 0 < k) (sym l.0) some;
        point = f.0;
      },
      form_each t n narrow some ps rest w.1 l.1 f.1,
    )

-- ---- the same points

contains_of : (xs : Strategy) (p : Part) → Has xs p → Contains xs p
contains_of [] p h = absurd h
contains_of (q ∷ xs) p (inl e) = (0, omega arith, e)
contains_of (q ∷ xs) p (inr h) =
    let r = contains_of xs p h in let b = r.1 in (suc r.0, omega (arith, b), r.2)

points_lowered : (raw : Strategy) → Each (Lowered (IsPointOf raw)) raw
points_lowered raw =
    each_of (Lowered (IsPointOf raw)) raw
    (λ p h x same lowest. (p, contains_of raw p h, same))

lengths_lowered : (n : ℕ) (raw : Strategy) → EachPoint (HasLength n) raw
    → Each (Lowered (HasLength n)) raw
lengths_lowered n raw h =
    each_weaker (λ (p : Part). HasLength n p.point) (Lowered (HasLength n)) raw
    (λ p e x same lowest. same.len ∙ e) h

-- the points of what is merged have as many numbers
pub lengths_merged : (n : ℕ) (raw merged : Strategy) → EachPoint (HasLength n) raw
    → AreMerged [] raw merged → EachPoint (HasLength n) merged
lengths_merged n raw merged h m =
    points_merged (HasLength n) [] raw merged m tt (lengths_lowered n raw h)

-- ---- no more parts

few_put : (p : Part) (old new : Strategy) → HasPut p old new → length new ≤ length old + 1
few_put p old new alone = omega arith
few_put p old new (before q rest b) = omega arith
few_put p old new (met q rest same) = omega arith
few_put p old new (after q rest next b put) =
    let r = few_put p rest next put in omega (arith, r)

few_merged : (old raw new : Strategy) → AreMerged old raw new
    → length new ≤ length old + length raw
few_merged old [] new m = let e = ap (λ (s : Strategy). length s) m in omega (arith, e)
few_merged old (p ∷ ps) new m =
    let a = few_put (record { weight = p.weight; point = m.1.point }) old m.0 m.1.put in
    let b = few_merged m.0 ps new m.2 in
    omega (arith, a, b)

same_count : (by : ℤ) (old new : Strategy) → AreDivided by old new → length new ≡ length old
same_count by old new done = refl
same_count by old new (more p q ps qs e w rest) =
    let r = same_count by ps qs rest in omega (arith, r)

-- ---- one part

one_put : (p : Part) (old new : Strategy) → HasPut p old new → length old ≡ 0 → length new ≡ 1
one_put p old new alone h = refl
one_put p old new (before q rest b) h = absurd (omega (arith, h))
one_put p old new (met q rest same) h = absurd (omega (arith, h))
one_put p old new (after q rest next b put) h = absurd (omega (arith, h))

one_merged : (raw merged : Strategy) → AreMerged [] raw merged → length raw ≡ 1
    → length merged ≡ 1
one_merged [] merged m h = absurd (omega (arith, h))
one_merged (p ∷ []) merged m h =
    subst (λ (z : Strategy). length z ≡ 1) m.2
    (one_put (record { weight = p.weight; point = m.1.point }) [] m.0 m.1.put refl)
one_merged (p ∷ q ∷ ps) merged m h = absurd (omega (arith, h))

none_divided : (by : ℤ) (old new : Strategy) → AreDivided by old new → length old ≡ 0 → new ≡ []
none_divided by old new done h = refl
none_divided by old new (more p q ps qs e w rest) h = absurd (omega (arith, h))

one_divided : (by : ℤ) (old new : Strategy) → AreDivided by old new → length old ≡ 1
    → (q : Part) × (new ≡ q ∷ [])
one_divided by old new done h = absurd (omega (arith, h))
one_divided by old new (more p q ps qs e w rest) h =
    (q, ap (λ (r : Strategy). q ∷ r) (none_divided by ps qs rest (omega (arith, h))))

weight_one : (w : ℤ) → (pos 1) ≤ℤ w → unsigned_abs w ≡ 1 → w ≡ pos 1
weight_one w h e = omega (arith, ints, h, e)

one_tidy : (q : Part) → IsTidy (q ∷ []) → q.weight ≡ pos 1
one_tidy q t =
    let d = unsigned_abs q.weight in
    weight_one q.weight (each_of_all HasWeight (q ∷ []) t.weights).0
    (t.coprime d (all_of_each (Divides d) (q ∷ []) (dvd_refl d, tt)))

one_sure : (parts : Strategy) (q : Part) → parts ≡ q ∷ [] → IsTidy parts → parts ≡ surely q.point
one_sure parts q e t =
    let w = one_tidy q (subst IsTidy e t) in
    e ∙ ap (λ (z : ℤ). record { weight = z; point = q.point } ∷ []) w

-- ---- all together

module _ (raw merged : Strategy) (given : AreParts raw) (m : AreMerged [] raw merged) where
  weights : Each HasWeight raw
  weights = each_of_all HasWeight raw given.weights

  some : (pos 0) <ℤ total raw
  some = positive_total raw given.some weights

  pub merged_weights : Each HasWeight merged
  merged_weights = weight_merged [] raw merged m tt weights

  zero_plus : (a : ℤ) → pos 0 +ℤ a ≡ a
  zero_plus a = omega (arith, ints)

  merged_total : total merged ≡ total raw
  merged_total = total_merged [] raw merged m ∙ zero_plus (total raw)

  pub merged_some : 0 < length merged
  merged_some = some_length merged (rw merged_total some)

module _ (raw merged parts : Strategy) (z : ℤ) (given : AreParts raw) (m : AreMerged [] raw merged)
    (g : IsGreatestWeight z merged) (div : AreDivided z merged parts)
    (forms : EachPoint HasForm merged) where
  pub tidied_weights : Each HasWeight parts
  tidied_weights = weight_divided z g.positive merged parts div (merged_weights raw merged given m)

  tidied_tidy : IsTidy parts
  tidied_tidy = is_tidy raw merged parts z g.positive given.weights m div g.greatest

  totals : total parts *ℤ z ≡ total raw
  totals = total_divided z merged parts div ∙ merged_total raw merged given m

  tidied_total : (pos 0) <ℤ total parts
  tidied_total =
      some_total raw merged parts z g.positive (some raw merged given m)
      (dens_merged [] raw merged m) m div

  pub tidied_narrow : IsNarrow (total parts)
  tidied_narrow = narrow_factor (total parts) z (total raw) totals g.positive given.narrow

  tidied_lengths : EachPoint (HasLength (width raw)) parts
  tidied_lengths =
      points_divided (HasLength (width raw)) z merged parts div
      (lengths_merged (width raw) raw merged
      (each_of_all (λ part. HasLength (width raw) part.point) raw given.lengths) m)

  tidied_forms : Each IsPartForm parts
  tidied_forms =
      form_each (total parts) (width raw) tidied_narrow given.numbers parts (omega (arith, ints))
      tidied_weights tidied_lengths (points_divided HasForm z merged parts div forms)

  tidied_points : EachPoint (IsPointOf raw) parts
  tidied_points =
      points_divided (IsPointOf raw) z merged parts div
      (points_merged (IsPointOf raw) [] raw merged m tt (points_lowered raw))

  tidied_few : length parts ≤ length raw
  tidied_few =
      let a = few_merged [] raw merged m in
      let b = same_count z merged parts div in
      omega (arith, a, b)

  tidied_one : length raw ≡ 1 → (x : PointOf) × (parts ≡ surely x)
  tidied_one h =
      let r = one_divided z merged parts div (one_merged raw merged m h) in
      (r.0.point, one_sure parts r.0 r.1 tidied_tidy)

  pub tidied : IsTidied raw (record { total = total parts; parts = parts })
  tidied =
      let positive = tidied_total in
      record {
        form = record {
          total = (omega (arith, ints, positive), tidied_narrow);
          some = some_length parts tidied_total;
          parts = all_of_each IsPartForm parts tidied_forms;
        };
        total_is = refl;
        tidy = tidied_tidy;
        alike = are_alike raw merged parts z g.positive (some raw merged given m)
            (dens_merged [] raw merged m) m div;
        few = tidied_few;
        points = all_of_each (λ part. IsPointOf raw part.point) parts tidied_points;
        lengths = all_of_each (λ part. HasLength (width raw) part.point) parts tidied_lengths;
        pure = tidied_one;
      }
