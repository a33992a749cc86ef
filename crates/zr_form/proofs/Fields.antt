-- Words and numbers are fields, and lists of fields that reach to the end of a line.
use Rattle.std.proofs.Common.{◌≡◌, ℕ, suc, ◌<◌, ◌≤◌, Bool, true, false, cond, List, [], ◌∷◌, ◌++◌, map, Option, Some, None, Result, Ok, Err, sym, refl, ap, ◌∙◌, subst, arith, ℤ, pos, negsuc}
use Rattle.std.specs.Prelude.{option_map, bytes_eq}
use Rattle.std.specs.List.{AllByRecursion}
use Rattle.std.proofs.lemmas.Bool.{cond-true, cond-false}
use Rattle.std.proofs.lemmas.Slice.Eq.{bytes_eq-Decides}
use Rattle.std.proofs.lemmas.List.{append-nil}
use Rattle.zr_form.specs.Reading.{Bytes, Read}
use Rattle.zr_form.specs.Numbers.{natural, integer, decimal, signed}
use Rattle.zr_form.specs.Fields.{only_if, word_read, natural_read, integer_read, integers, and_more, alone, ended, and_whole, join_whole}
use Rattle.zr_form.proofs.Forms.{IsOne, IsExact, one_exact, clean_append}
use Rattle.zr_form.proofs.Numbers.{natural_spelled, natural_again, integer_spelled, integer_again, digits_all}
use Rattle.zr_form.proofs.Lines.{IsField, IsWhole, Lacks, IsNot, map_some}

no_some : {X : Type 0} (x : X) → None ≡ Some x → ⊥
no_some x e = cc

pub only_again : {X : Type 0} (test : X → Bool) (o : Option X) (x : X) → o ≡ Some x → test x ≡ true → only_if test o ≡ Some x
only_again test o x e t = ap (only_if test) e ∙ cond-true _ _ _ t

only_step : {X : Type 0} (test : X → Bool) (y x : X) (t : Bool) → test y ≡ t → cond (test y) (Some y) None ≡ Some x → (Some y ≡ Some x) × (test x ≡ true)
only_step test y x true t e =
    let k : Some y ≡ Some x = sym (cond-true _ _ _ t) ∙ e in
    let m : y ≡ x = cc in
    (k, ap test (sym m) ∙ t)
only_step {X = X} test y x false t e = absurd (no_some x (sym (cond-false _ _ _ t) ∙ e))

pub only_some : {X : Type 0} (test : X → Bool) (o : Option X) (x : X) → only_if test o ≡ Some x → (o ≡ Some x) × (test x ≡ true)
only_some test None x e = absurd cc
only_some test (Some y) x e = only_step test y x (test y) refl e

-- ---- numbers

abbrev Passes : {X : Type 0} → (X → Bool) → X → Type 0
Passes test x = test x ≡ true

digit_field : (d : ℕ) → 48 ≤ d → (d < 58) → IsNot 32 d × IsNot 10 d
digit_field d low high = (λ h. omega arith, λ h. omega arith)

digits_lack : (s : ℕ) (ds : List ℕ) → ((d : ℕ) → 48 ≤ d → d < 58 → IsNot s d) → AllByRecursion (λ d. (48 ≤ d) × (d < 58)) ds → Lacks s ds
digits_lack s [] h p = tt
digits_lack s (d ∷ ds) h p = (h d p.0.0 p.0.1, digits_lack s ds h p.1)

digits_fields : (ds : List ℕ) → AllByRecursion (λ d. (48 ≤ d) × (d < 58)) ds → IsField ds
digits_fields ds p = record { one_field = digits_lack 32 ds (λ d low high. (digit_field d low high).0) p; one_line = digits_lack 10 ds (λ d low high. (digit_field d low high).1) p }

minus : (n : ℕ) → n ≡ 45 → IsNot 32 n × IsNot 10 n
minus n e = (λ h. omega arith, λ h. omega arith)

pub signed_field : (z : ℤ) → IsField (signed z)
unfolding signed
signed_field (pos n) = digits_fields (decimal n) (digits_all n)
signed_field (negsuc n) =
    let c = digits_fields (decimal (suc n)) (digits_all (suc n)) in
    record { one_field = ((minus 45 refl).0, c.one_field); one_line = ((minus 45 refl).1, c.one_line) }

natural_one : (test : ℕ → Bool) → IsOne IsField (Passes test) decimal (λ f. only_if test (natural f))
natural_one test = record {
  sound = λ f n e. let h = only_some test (natural f) n e in (h.1, natural_spelled f n h.0);
  again = λ n t. only_again test (natural (decimal n)) n (natural_again n) t;
  clean = λ n t. digits_fields (decimal n) (digits_all n);
}

integer_one : (test : ℤ → Bool) → IsOne IsField (Passes test) signed (λ f. only_if test (integer f))
integer_one test = record {
  sound = λ f n e. let h = only_some test (integer f) n e in (h.1, integer_spelled f n h.0);
  again = λ n t. only_again test (integer (signed n)) n (integer_again n) t;
  clean = λ n t. signed_field n;
}

pub natural_exact : (test : ℕ → Bool) → IsExact IsField (Passes test) (λ n. decimal n ∷ []) (natural_read test)
unfolding natural_read
natural_exact test = one_exact IsField (Passes test) decimal (λ f. only_if test (natural f)) (natural_one test)

pub integer_exact : (test : ℤ → Bool) → IsExact IsField (Passes test) (λ n. signed n ∷ []) (integer_read test)
unfolding integer_read
integer_exact test = one_exact IsField (Passes test) signed (λ f. only_if test (integer f)) (integer_one test)

-- ---- words

word_step : (f g word : Bytes) (t : Bool) → bytes_eq f word ≡ t → cond (bytes_eq f word) (Some f) None ≡ Some g → (g ≡ word) × (f ≡ g)
word_step f g word true t e =
    let k : Some f ≡ Some g = sym (cond-true _ _ _ t) ∙ e in
    let m : f ≡ g = cc in
    (sym m ∙ (bytes_eq-Decides f word).0 t, m)
word_step f g word false t e = absurd (no_some g (sym (cond-false _ _ _ t) ∙ e))

word_one : (word : Bytes) → IsField word → IsOne IsField (λ f. f ≡ word) (λ f. f) (λ f. cond (bytes_eq f word) (Some f) None)
word_one word c = record {
  sound = λ f g e. word_step f g word (bytes_eq f word) refl e;
  again = λ f e. cond-true _ _ _ ((bytes_eq-Decides f word).1 e);
  clean = λ f e. subst IsField (sym e) c;
}

pub word_exact : (word : Bytes) → IsField word → IsExact IsField (λ f. f ≡ word) (λ f. f ∷ []) (word_read word)
unfolding word_read
word_exact word c = one_exact IsField (λ f. f ≡ word) (λ f. f) (λ f. cond (bytes_eq f word) (Some f) None) (word_one word c)

-- ---- to the end

abbrev done : {A : Type 0} → A → Result A (List Bytes)
done x = Ok x

alone_some : {X : Type 0} (x y : X) (fs : List Bytes) → alone x fs ≡ Some y → (x ≡ y) × (fs ≡ [])
alone_some x y [] e = (cc, refl)
alone_some x y (f ∷ fs) e = absurd cc

ended_some : {X : Type 0} (r : Result (X × List Bytes) (List Bytes)) (x : X) → ended r ≡ Some x → r ≡ Ok (x, [])
ended_some {X = X} (Ok y) x e = let h = alone_some y.0 x y.1 e in ap (λ (z : X). done (z, y.1)) h.0 ∙ ap (λ (z : List Bytes). done (x, z)) h.1
ended_some (Err fs) x e = absurd cc

pub ended_whole : {X : Type 0} (Fits : X → Type 0) (spell : X → List Bytes) (read : Read X) → IsExact IsField Fits spell read → IsWhole Fits spell (λ fs. ended (read fs))
ended_whole Fits spell read r = record {
  sound = λ fs x e. let h = r.sound fs [] x (ended_some (read fs) x e) in (h.0, h.1 ∙ append-nil (spell x));
  again = λ x f. ap ended (ap read (sym (append-nil (spell x))) ∙ r.again x [] f);
  clean = r.clean;
}

and_whole_some : {X Y Z : Type 0} (make : X → Y → Z) (r : Result (X × List Bytes) (List Bytes)) (second : X → List Bytes → Option Y) (z : Z) → and_whole make r second ≡ Some z
    → (x : X) × (fs : List Bytes) × (y : Y) × (r ≡ Ok (x, fs)) × (second x fs ≡ Some y) × (make x y ≡ z)
and_whole_some make (Ok x) second z e = let h = map_some (make x.0) (second x.0 x.1) z e in (x.0, x.1, h.0, refl, h.1, h.2)
and_whole_some make (Err fs) second z e = absurd cc

pub join_whole_form : {X Y Z : Type 0} (make : X → Y → Z) (FX : X → Type 0) (sx : X → List Bytes) (rx : Read X) (FY : X → Y → Type 0) (sy : X → Y → List Bytes) (ry : X → List Bytes → Option Y) (FZ : Z → Type 0) (sz : Z → List Bytes)
    → IsExact IsField FX sx rx → ((x : X) → FX x → IsWhole (FY x) (sy x) (ry x))
    → ((x : X) (y : Y) → FX x → FY x y → FZ (make x y) × (sz (make x y) ≡ sx x ++ sy x y)) → ((z : Z) → FZ z → (x : X) × (y : Y) × FX x × FY x y × (make x y ≡ z) × (sz z ≡ sx x ++ sy x y))
    → IsWhole FZ sz (join_whole make rx ry)
join_whole_form {X = X} {Y = Y} {Z = Z} make FX sx rx FY sy ry FZ sz first second to from = record {
  sound = λ fs z e.
      let h = and_whole_some make (rx fs) ry z e in
      let s = first.sound fs h.1 h.0 h.3 in
      let t = (second h.0 s.0).sound h.1 h.2 h.4 in
      let u = to h.0 h.2 s.0 t.0 in
      (subst FZ h.5 u.0, s.1 ∙ ap (λ w. sx h.0 ++ w) t.1 ∙ sym u.1 ∙ ap sz h.5);
  again = λ z f.
      let p = from z f in
      let k : rx (sz z) ≡ Ok (p.0, sy p.0 p.1) = ap rx p.5 ∙ first.again p.0 (sy p.0 p.1) p.2 in
      let l : ry p.0 (sy p.0 p.1) ≡ Some p.1 = (second p.0 p.2).again p.1 p.3 in
      rw (k, l) (ap (λ (w : Z). Some w) p.4);
  clean = λ z f.
      let p = from z f in
      subst (AllByRecursion IsField) (sym p.5) (clean_append IsField (sx p.0) (sy p.0 p.1) (first.clean p.0 p.2) ((second p.0 p.2).clean p.1 p.3));
}

-- numbers to the end
and_more_some : {X : Type 0} (o : Option X) (p : Option (List X)) (xs : List X) → and_more o p ≡ Some xs → (x : X) × (ys : List X) × (o ≡ Some x) × (p ≡ Some ys) × (x ∷ ys ≡ xs)
and_more_some None p xs e = absurd cc
and_more_some (Some x) p xs e = let h = map_some (λ ys. x ∷ ys) p xs e in (x, h.0, refl, h.1, h.2)

integers_sound : (test : ℤ → Bool) (fs : List Bytes) (ns : List ℤ) → integers test fs ≡ Some ns → AllByRecursion (Passes test) ns × (fs ≡ map signed ns)
unfolding integers
integers_sound test [] ns e = let k : [] ≡ ns = cc in subst (λ (z : List ℤ). AllByRecursion (Passes test) z × ([] ≡ map signed z)) k (tt, refl)
integers_sound test (f ∷ fs) ns e =
    let h = and_more_some (only_if test (integer f)) (integers test fs) ns e in
    let s = (integer_one test).sound f h.0 h.2 in
    let t = integers_sound test fs h.1 h.3 in
    subst (λ (z : List ℤ). AllByRecursion (Passes test) z × (f ∷ fs ≡ map signed z)) h.4 ((s.0, t.0), ap (λ (z : Bytes). z ∷ fs) s.1 ∙ ap (λ (z : List Bytes). signed h.0 ∷ z) t.1)

integers_again : (test : ℤ → Bool) (ns : List ℤ) → AllByRecursion (Passes test) ns → integers test (map signed ns) ≡ Some ns
unfolding integers
integers_again test [] f = refl
integers_again test (n ∷ ns) f = rw ((integer_one test).again n f.0, integers_again test ns f.1) refl

integers_clean : (test : ℤ → Bool) (ns : List ℤ) → AllByRecursion (Passes test) ns → AllByRecursion IsField (map signed ns)
integers_clean test [] f = tt
integers_clean test (n ∷ ns) f = (signed_field n, integers_clean test ns f.1)

pub integers_whole : (test : ℤ → Bool) → IsWhole (AllByRecursion (Passes test)) (map signed) (integers test)
integers_whole test = record { sound = integers_sound test; again = integers_again test; clean = integers_clean test }

pub map_whole : {X Y : Type 0} (make : X → Y) (F : X → Type 0) (s : X → List Bytes) (parse : List Bytes → Option X) (G : Y → Type 0) (t : Y → List Bytes) → IsWhole F s parse
    → ((x : X) → F x → G (make x) × (t (make x) ≡ s x)) → ((y : Y) → G y → (x : X) × F x × (make x ≡ y) × (t y ≡ s x)) → IsWhole G t (λ fs. option_map make (parse fs))
map_whole {X = X} {Y = Y} make F s parse G t w to from = record {
  sound = λ fs y e.
      let h = map_some make (parse fs) y e in
      let k = w.sound fs h.0 h.1 in
      let u = to h.0 k.0 in
      (subst G h.2 u.0, k.1 ∙ sym u.1 ∙ ap t h.2);
  again = λ y f.
      let p = from y f in
      let k : parse (t y) ≡ Some p.0 = ap parse p.3 ∙ w.again p.0 p.1 in
      rw k (ap (λ (z : Y). Some z) p.2);
  clean = λ y f. let p = from y f in subst (AllByRecursion IsField) (sym p.3) (w.clean p.0 p.1);
}

pub only_whole : {X : Type 0} (test : X → Bool) (F : X → Type 0) (s : X → List Bytes) (parse : List Bytes → Option X) → IsWhole F s parse → IsWhole (λ x. F x × (test x ≡ true)) s (λ fs. only_if test (parse fs))
only_whole test F s parse w = record {
  sound = λ fs x e. let h = only_some test (parse fs) x e in let k = w.sound fs x h.0 in ((k.0, h.1), k.1);
  again = λ x f. only_again test (parse (s x)) x (w.again x f.0) f.1;
  clean = λ x f. w.clean x f.0;
}
