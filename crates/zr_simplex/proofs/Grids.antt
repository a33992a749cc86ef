-- Rows that stand one after the other in a list.
use Rattle.std.proofs.Common.{◌≡◌, ◌≢◌, ℕ, suc, ◌+◌, ◌*◌, ◌-◌, ◌<◌, ◌≤◌, arith, refl, sym, ap, ◌∙◌, ⊎_elim, ℤ, List, ◌++◌, length, take, drop, mul-le-mul_right}
use Rattle.std.specs.List.{All}
use Rattle.std.proofs.lemmas.List.{drop-drop, length-take-le, length-append, length-drop, take-append-le, drop-append-le, take_at, drop_at}
use Rattle.std.proofs.lemmas.List.Elements.{All-append, All-take, All-drop}
use Rattle.std.proofs.lemmas.Slice.{between_is, between-put_mid, take-put_mid_below, drop-put_mid}
use Rattle.std.proofs.lemmas.Bool.{cases_lt}
use borrow.Rule.Slice.PartMut.{put_mid}
use Rattle.zr_base.specs.Steps.{IsNarrow}
use Rattle.zr_simplex.specs.Tableaus.{row_in}

-- row k ends where row i begins, or before
pub row_end : (k i w : ℕ) → k < i → k * w + w ≤ i * w
row_end k i w h =
    let q : suc k ≤ i = omega arith in
    omega (arith, mul-le-mul_right w q)

window : (a w : ℕ) (xs : List ℤ) → take w (drop a xs) ≡ drop a (take (a + w) xs)
window a w xs =
    let d : a + w - a ≡ w = omega arith in
    rw d at (between_is xs a (a + w))

pub row_in-append_left : (w : ℕ) (xs ys : List ℤ) (k : ℕ) → k * w + w ≤ length xs → row_in w (xs ++ ys) k ≡ row_in w xs k
row_in-append_left w xs ys k h =
    rw (drop-append-le (k * w) xs ys (omega (arith, h))) (take-append-le w (drop (k * w) xs) ys (omega (arith, h, length-drop (k * w) xs)))

pub row_in-append_right : (w : ℕ) (xs ys : List ℤ) (n k : ℕ) → length xs ≡ n * w → row_in w (xs ++ ys) (n + k) ≡ row_in w ys k
row_in-append_right w xs ys n k len =
    let e : (n + k) * w ≡ n * w + k * w = omega arith in
    rw (e, ← drop-drop (k * w) (n * w) (xs ++ ys), drop_at xs ys (n * w) len) refl

pub row_in-first : (w : ℕ) (xs ys : List ℤ) → length xs ≡ w → row_in w (xs ++ ys) 0 ≡ xs
row_in-first w xs ys len =
    let e : 0 * w ≡ 0 = omega arith in
    rw e (take_at xs ys w len)

-- a list of rows as those above one, this one, and those below it
module _ (w row : ℕ) (above pivot below : List ℤ) (long : length above ≡ row * w) (one : length pivot ≡ w) where
  pub row_in-above : (k : ℕ) → k < row → row_in w (above ++ (pivot ++ below)) k ≡ row_in w above k
  row_in-above k h =
      row_in-append_left w above (pivot ++ below) k (omega (arith, long, row_end k row w h))

  pub row_in-pivot : row_in w (above ++ (pivot ++ below)) row ≡ pivot
  row_in-pivot =
      let e : row + 0 ≡ row = omega arith in
      ap (λ n. row_in w (above ++ (pivot ++ below)) n) (sym e) ∙ row_in-append_right w above (pivot ++ below) row 0 long ∙ row_in-first w pivot below one

  pub row_in-below : (k : ℕ) → row_in w (above ++ (pivot ++ below)) (row + (1 + k)) ≡ row_in w below k
  row_in-below k =
      row_in-append_right w above (pivot ++ below) row (1 + k) long ∙ row_in-append_right w pivot below 1 k (one ∙ omega arith)

-- row i is replaced
module _ (w : ℕ) (xs ys : List ℤ) (i : ℕ) (len : length ys ≡ w) (inside : i * w + w ≤ length xs) where
  pub row_in-here : row_in w (put_mid (i * w) w xs ys) i ≡ ys
  row_in-here =
      let d : i * w + w - i * w ≡ w = omega arith in
      rw d at (between-put_mid (i * w) w xs ys (i * w + w) (omega (arith, inside)) (omega (arith, len)))

  pub row_in-other : (k : ℕ) → k ≢ i → row_in w (put_mid (i * w) w xs ys) k ≡ row_in w xs k
  row_in-other k apart = ⊎_elim (λ (h : k < i). window (k * w) w (put_mid (i * w) w xs ys) ∙ ap (drop (k * w)) (take-put_mid_below (i * w) w xs ys (k * w + w) (row_end k i w h) (omega (arith, inside))) ∙ sym (window (k * w) w xs)) (λ (h : i ≤ k). ap (take w) (drop-put_mid (i * w) w xs ys (k * w) (row_end i k w (omega (arith, apart))) (omega (arith, inside)) len)) (cases_lt k i)

  pub put_length : length (put_mid (i * w) w xs ys) ≡ length xs
  put_length =
      omega (arith, length-append (take (i * w) xs) (ys ++ drop w (drop (i * w) xs)), length-append ys (drop w (drop (i * w) xs)), length-take-le (i * w) xs (omega (arith, inside)), length-drop w (drop (i * w) xs), length-drop (i * w) xs, len, inside)

  pub narrow_put : All IsNarrow xs → All IsNarrow ys → All IsNarrow (put_mid (i * w) w xs ys)
  narrow_put all new =
      All-append IsNarrow (take (i * w) xs) (ys ++ drop w (drop (i * w) xs)) (All-take IsNarrow (i * w) xs all) (All-append IsNarrow ys (drop w (drop (i * w) xs)) new (All-drop IsNarrow w (drop (i * w) xs) (All-drop IsNarrow (i * w) xs all)))

pub row_in-length : (n w : ℕ) (xs : List ℤ) (i : ℕ) → i < n → length xs ≡ n * w → length (row_in w xs i) ≡ w
row_in-length n w xs i h len =
    length-take-le w (drop (i * w) xs) (omega (arith, len, row_end i n w h, length-drop (i * w) xs))
