-- Lists that are made item by item.
use Rattle.std.proofs.Common.{◌≡◌, ℕ, zero, suc, ◌+◌, ◌<◌, arith, refl, sym, ap, ◌∙◌, Result, Ok, Err, List, [], ◌∷◌, ◌++◌, length, get_or, set, take, get_or-set_same, get_or-set_other, ⊎_elim, ◌≢◌, subst}
use Rattle.std.proofs.lemmas.Bool.{cases_eq}
use Rattle.std.proofs.lemmas.List.{take_all, take_more_set}
use Rattle.zr_base.specs.declared.step.Wide.{Wide}
use Rattle.zr_base.specs.Steps.{◌>>=◌}
use Rattle.zr_base.proofs.CrossLaws.{then_ok}
use Rattle.zr_base.specs.Made.{made_from, Writes}

module _ {A : Type 0} (make : ℕ → Result A Wide) where
  cons_made : (k n : ℕ) (a : A) (rest : List A) → make k ≡ Ok a → made_from make (k + 1) (suc n) ≡ Ok rest → made_from make k (suc (suc n)) ≡ Ok (a ∷ rest)
  cons_made k n a rest e f = rw (e, f) refl

  one_more : (k n : ℕ) (xs : List A) (a : A) → made_from make k n ≡ Ok xs → make (k + n) ≡ Ok a → made_from make k (suc n) ≡ Ok (xs ++ a ∷ [])
  one_more k zero xs a e f =
      let m : make k ≡ Ok a = ap make (omega arith) ∙ f in
      let n : [] ≡ xs = cc in
      rw (m, ← n) refl
  one_more k (suc n) xs a e f =
      let s = then_ok (make k) (λ x. made_from make (k + 1) n >>= λ rest. Ok (x ∷ rest)) xs e in
      let t = then_ok (made_from make (k + 1) n) (λ rest. Ok (s.0 ∷ rest)) xs s.2 in
      let r = one_more (k + 1) n t.0 a t.1 (ap make (omega arith) ∙ f) in
      let l : s.0 ∷ t.0 ≡ xs = cc in
      cons_made k n s.0 (t.0 ++ a ∷ []) s.1 r ∙ ap (λ (ys : List A). Ok (ys ++ a ∷ [])) l

  stops : (k i n : ℕ) (xs : List A) (w : Wide) → i < n → made_from make k i ≡ Ok xs → make (k + i) ≡ Err w → made_from make k n ≡ Err w
  stops k i zero xs w h e f = absurd (omega arith)
  stops k zero (suc n) xs w h e f =
      let m : make k ≡ Err w = ap make (omega arith) ∙ f in
      rw m refl
  stops k (suc i) (suc n) xs w h e f =
      let s = then_ok (make k) (λ x. made_from make (k + 1) i >>= λ rest. Ok (x ∷ rest)) xs e in
      let t = then_ok (made_from make (k + 1) i) (λ rest. Ok (s.0 ∷ rest)) xs s.2 in
      let r = stops (k + 1) i n t.0 w (omega arith) t.1 (ap make (omega arith) ∙ f) in
      rw (s.1, r) refl

-- the first i places hold what was made
pub record Made {A : Type 0} (d : A) (make : ℕ → Result A Wide) (P : ℕ → A → Type 0) (i : ℕ) (out : List A) : Type 0 where
  pub steps : made_from make 0 i ≡ Ok (take i out)
  pub each : (v : ℕ) → v < i → P v (get_or out v d)

module _ {A : Type 0} (d : A) (make : ℕ → Result A Wide) (P : ℕ → A → Type 0) (out : List A) where
  pub none_made : Made d make P 0 out
  none_made = record { steps = refl; each = λ v h. absurd (omega arith) }

  pub more_made : (i : ℕ) (a : A) → i < length out → Made d make P i out → make i ≡ Ok a → P i a → Made d make P (i + 1) (set out i a)
  more_made i a below before made holds = record {
    steps = (let n : i + 1 ≡ suc i = omega arith in ap (made_from make 0) n) ∙ one_more make 0 i (take i out) a before.steps (ap make (omega arith) ∙ made) ∙ ap Ok (sym (take_more_set out i a below));
    each = λ v h. ⊎_elim (λ (e : v ≡ i). rw (e, get_or-set_same out i a d below) holds) (λ (n : v ≢ i). rw (get_or-set_other out i v a d n) (before.each v (omega arith))) (cases_eq v i);
  }

  -- a step that is too wide ends the list
  pub wide_made : (i n : ℕ) (w : Wide) → i < n → Made d make P i out → make i ≡ Err w → made_from make 0 n ≡ Err w
  wide_made i n w below before made = stops make 0 i n (take i out) w below before.steps (ap make (omega arith) ∙ made)

  pub all_made : (n : ℕ) → n ≡ length out → Made d make P n out → made_from make 0 n ≡ Ok out
  all_made n e made = made.steps ∙ ap Ok (take_all n out (omega arith))

pub writes_ok : {A : Type 0} (r : Result (List A) Wide) (out : List A) → r ≡ Ok out → Writes r (Ok tt) out
writes_ok r out e = rw e (refl, refl)

pub writes_err : {A : Type 0} (r : Result (List A) Wide) (w : Wide) (out : List A) → r ≡ Err w → Writes r (Err w) out
writes_err r w out e = rw e refl

pub were_ok : {A : Type 0} (r : Result (List A) Wide) (out : List A) → Writes r (Ok tt) out → r ≡ Ok out
were_ok (Ok list) out h = ap Ok (sym h.1)
were_ok (Err w) out h = absurd cc

pub were_wide : {A : Type 0} (r : Result (List A) Wide) (w : Wide) (out : List A) → Writes r (Err w) out → r ≡ Err w
were_wide (Ok list) w out h = let e = h.0 in absurd cc
were_wide (Err u) w out h = let e : u ≡ w = cc in ap Err e

-- each item of a list that was made
pub made_items : {A : Type 0} (make : ℕ → Result A Wide) (k n : ℕ) (list : List A) → made_from make k n ≡ Ok list → (length list ≡ n) × ((v : ℕ) (d : A) → v < n → make (k + v) ≡ Ok (get_or list v d))
made_items {A} make k zero list e =
    let none : [] ≡ list = cc in
    (subst (λ (xs : List A). length xs ≡ 0) none refl, λ v d h. absurd (omega (arith, h)))
made_items {A} make k (suc n) list e =
    let s = then_ok (make k) (λ a. made_from make (k + 1) n >>= λ rest. Ok (a ∷ rest)) list e in
    let t = then_ok (made_from make (k + 1) n) (λ rest. Ok (s.0 ∷ rest)) list s.2 in
    let more = made_items make (k + 1) n t.0 t.1 in
    let is : s.0 ∷ t.0 ≡ list = cc in
    let len = more.0 in
    subst (λ (xs : List A). (length xs ≡ suc n) × ((v : ℕ) (d : A) → v < suc n → make (k + v) ≡ Ok (get_or xs v d))) is (omega (arith, len), item s.0 t.0 s.1 more.1)
  where
    item : (a : A) (rest : List A) → make k ≡ Ok a → ((v : ℕ) (d : A) → v < n → make (k + 1 + v) ≡ Ok (get_or rest v d)) → (v : ℕ) (d : A) → v < suc n → make (k + v) ≡ Ok (get_or (a ∷ rest) v d)
    item a rest first each zero d h = ap make (let z : k + 0 ≡ k = omega arith in z) ∙ first
    item a rest first each (suc v) d h =
        ap make (let z : k + suc v ≡ k + 1 + v = omega arith in z) ∙ each v d (omega (arith, h))
