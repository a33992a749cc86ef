-- Lines and fields are cut and joined back.
use Rattle.std.proofs.Common.{◌≡◌, ◌≢◌, ℕ, ◌+◌, ◌<◌, ◌≤◌, Bool, true, false, ◌==◌, List, [], ◌∷◌, ◌++◌, length, get_or, take, drop, Option, Some, None, All, sym, refl, ap, ◌∙◌, subst, arith, take-append-drop, append_assoc}
use Rattle.std.specs.Prelude.{option_map, option_and_then}
use Rattle.std.specs.List.{AllByRecursion}
use Rattle.std.proofs.lemmas.Bool.{cond-true, cond-false, eq-eqb, ne_eqb, eqb-true}
use Rattle.std.proofs.lemmas.List.{drop_more, get_or-take, length-take-le, append-nil}
use Rattle.std.proofs.lemmas.List.Elements.{All-head, All-tail, All-from_get_or}
use Rattle.zr_form.specs.Reading.{Bytes}
use Rattle.zr_form.specs.Lines.{split_once, onto, lines_of, fields_of, spaced, line_with, at_end, whole_line, by_fields, concat}
use Rattle.zr_form.specs.Code.{left_of}
use Rattle.zr_form.proofs.Forms.{IsOne}

-- a byte is another
abbrev pub IsNot : ℕ → ℕ → Type 0
IsNot separator b = b ≢ separator

abbrev pub Lacks : ℕ → List ℕ → Type 0
Lacks separator bytes = AllByRecursion (IsNot separator) bytes

pub lacks_append : (s : ℕ) (xs ys : List ℕ) → Lacks s xs → Lacks s ys → Lacks s (xs ++ ys)
lacks_append s [] ys p q = q
lacks_append s (x ∷ xs) ys p q = (p.0, lacks_append s xs ys p.1 q)

-- ---- fields

fields_end : (f : Bytes) → Lacks 32 f → fields_of f ≡ f ∷ []
unfolding fields_of
fields_end [] p = refl
fields_end (b ∷ bytes) p = cond-false _ _ _ (ne_eqb b 32 p.0) ∙ ap (onto b) (fields_end bytes p.1)

fields_more : (f bytes : Bytes) → Lacks 32 f → fields_of (f ++ 32 ∷ bytes) ≡ f ∷ fields_of bytes
unfolding fields_of
fields_more [] bytes p = refl
fields_more (b ∷ f) bytes p = cond-false _ _ _ (ne_eqb b 32 p.0) ∙ ap (onto b) (fields_more f bytes p.1)

pub fields_again : (f : Bytes) (fs : List Bytes) → Lacks 32 f → AllByRecursion (Lacks 32) fs → fields_of (f ++ spaced fs) ≡ f ∷ fs
fields_again f [] p q = ap fields_of (append-nil f) ∙ fields_end f p
fields_again f (g ∷ fs) p q = fields_more f (g ++ spaced fs) p ∙ ap (λ z. f ∷ z) (fields_again g fs q.0 q.1)

fields_step : (b : ℕ) (bytes f : Bytes) (fs : List Bytes) → fields_of bytes ≡ f ∷ fs → f ++ spaced fs ≡ bytes → (t : Bool) → (b == 32) ≡ t
    → (g : Bytes) × (gs : List Bytes) × (fields_of (b ∷ bytes) ≡ g ∷ gs) × (g ++ spaced gs ≡ b ∷ bytes)
unfolding fields_of
fields_step b bytes f fs e w true t =
    let k : b ≡ 32 = eqb-true b 32 t in
    ([], f ∷ fs, cond-true _ _ _ t ∙ ap (λ (z : List Bytes). [] ∷ z) e, ap (λ (z : ℕ). z ∷ (f ++ spaced fs)) (sym k) ∙ ap (λ (z : List ℕ). b ∷ z) w)
fields_step b bytes f fs e w false t = (b ∷ f, fs, cond-false _ _ _ t ∙ ap (onto b) e, ap (λ (z : List ℕ). b ∷ z) w)

-- the line that the fields of a text make
pub fields_whole : (bytes : Bytes) → (f : Bytes) × (fs : List Bytes) × (fields_of bytes ≡ f ∷ fs) × (f ++ spaced fs ≡ bytes)
unfolding fields_of
fields_whole [] = ([], [], refl, refl)
fields_whole (b ∷ bytes) =
    let t = fields_whole bytes in
    fields_step b bytes t.0 t.1 t.2 t.3 (b == 32) refl

-- ---- lines

-- a whole line and nothing else
abbrev pub IsLine : Bytes → Type 0
IsLine piece = (l : Bytes) × Lacks 10 l × (piece ≡ l ++ 10 ∷ [])

pub line_read : (l : Bytes) → Lacks 10 l → whole_line (l ++ 10 ∷ []) ≡ Some l
unfolding whole_line
line_read [] p = refl
line_read (b ∷ l) p = cond-false _ _ _ (ne_eqb b 10 p.0) ∙ ap (option_map (λ (z : Bytes). b ∷ z)) (line_read l p.1)

at_end_is : (bytes l : Bytes) → at_end bytes ≡ Some l → (bytes ≡ []) × (l ≡ [])
at_end_is [] l e = (refl, cc)
at_end_is (b ∷ bytes) l e = absurd cc

pub map_some : {A B : Type 0} (f : A → B) (o : Option A) (y : B) → option_map f o ≡ Some y → (x : A) × (o ≡ Some x) × (f x ≡ y)
map_some f None y e = absurd cc
map_some f (Some x) y e = (x, refl, cc)

line_step : (b : ℕ) (bytes l : Bytes) → ((m : Bytes) → whole_line bytes ≡ Some m → bytes ≡ m ++ 10 ∷ []) → (t : Bool) → (b == 10) ≡ t → whole_line (b ∷ bytes) ≡ Some l → b ∷ bytes ≡ l ++ 10 ∷ []
unfolding whole_line
line_step b bytes l more true t e =
    let h = at_end_is bytes l (sym (cond-true _ _ _ t) ∙ e) in
    let k : b ≡ 10 = eqb-true b 10 t in
    ap (λ (z : ℕ). z ∷ bytes) k ∙ ap (λ (z : Bytes). 10 ∷ z) h.0 ∙ ap (λ (z : Bytes). z ++ 10 ∷ []) (sym h.1)
line_step b bytes l more false t e =
    let h = map_some (λ (z : Bytes). b ∷ z) (whole_line bytes) l (sym (cond-false _ _ _ t) ∙ e) in
    ap (λ (z : Bytes). b ∷ z) (more h.0 h.1) ∙ ap (λ (z : Bytes). z ++ 10 ∷ []) h.2

line_is : (piece l : Bytes) → whole_line piece ≡ Some l → piece ≡ l ++ 10 ∷ []
unfolding whole_line
line_is [] l e = absurd cc
line_is (b ∷ bytes) l e = line_step b bytes l (line_is bytes) (b == 10) refl e

and_then_some : {A B : Type 0} (f : A → Option B) (o : Option A) (y : B) → option_and_then f o ≡ Some y → (x : A) × (o ≡ Some x) × (f x ≡ Some y)
and_then_some f None y e = absurd cc
and_then_some f (Some x) y e = (x, refl, e)

-- ---- a line read by its fields

-- what can stand between spaces
pub record IsField (f : Bytes) : Type 0 where
  pub one_field : Lacks 32 f
  pub one_line : Lacks 10 f

-- a list of fields is read where it is spelled so, to its end
pub record IsWhole {X : Type 0} (Fits : X → Type 0) (spell : X → List Bytes) (parse : List Bytes → Option X) : Type 0 where
  pub sound : (fs : List Bytes) (x : X) → parse fs ≡ Some x → Fits x × (fs ≡ spell x)
  pub again : (x : X) → Fits x → parse (spell x) ≡ Some x
  pub clean : (x : X) → Fits x → AllByRecursion IsField (spell x)

abbrev AreFields : List Bytes → Type 0
AreFields fs = AllByRecursion IsField fs

no_spaces : (fs : List Bytes) → AreFields fs → AllByRecursion (Lacks 32) fs
no_spaces [] c = tt
no_spaces (f ∷ fs) c = (c.0.one_field, no_spaces fs c.1)

space_is_not : (n : ℕ) → n ≡ 32 → IsNot 10 n
space_is_not n e = λ h. omega arith

no_feeds : (fs : List Bytes) → AreFields fs → Lacks 10 (spaced fs)
no_feeds [] c = tt
no_feeds (f ∷ fs) c = (space_is_not 32 refl, lacks_append 10 f (spaced fs) c.0.one_line (no_feeds fs c.1))

-- what has fields has a line
pub line_form : {X : Type 0} (Fits : X → Type 0) (first : X → Bytes) (others : X → List Bytes) (parse : List Bytes → Option X) → IsWhole Fits (λ x. first x ∷ others x) parse
    → IsOne IsLine Fits (λ x. line_with (first x ∷ others x)) (by_fields parse)
unfolding by_fields
line_form {X = X} Fits first others parse w = record {
  sound = λ piece x e.
      let h = and_then_some (λ l. parse (fields_of l)) (whole_line piece) x e in
      let s = w.sound (fields_of h.0) x h.2 in
      let t = fields_whole h.0 in
      let same : t.0 ∷ t.1 ≡ first x ∷ others x = sym t.2 ∙ s.1 in
      (s.0, line_is piece h.0 h.1 ∙ ap (λ (z : Bytes). z ++ 10 ∷ []) (sym t.3) ∙ ap line_with same);
  again = λ x f.
      let c = w.clean x f in
      let l : Bytes = first x ++ spaced (others x) in
      let k : whole_line ((first x ++ spaced (others x)) ++ 10 ∷ []) ≡ Some (first x ++ spaced (others x)) = line_read (first x ++ spaced (others x)) (lacks_append 10 (first x) (spaced (others x)) c.0.one_line (no_feeds (others x) c.1)) in
      let m : fields_of (first x ++ spaced (others x)) ≡ first x ∷ others x = fields_again (first x) (others x) c.0.one_field (no_spaces (others x) c.1) in
      rw (k, m) (w.again x f);
  clean = λ x f.
      let c = w.clean x f in
      (first x ++ spaced (others x), lacks_append 10 (first x) (spaced (others x)) c.0.one_line (no_feeds (others x) c.1), refl);
}

-- ---- a text cut into lines

pub lines_more : (l bytes : Bytes) → Lacks 10 l → lines_of (l ++ 10 ∷ bytes) ≡ (l ++ 10 ∷ []) ∷ lines_of bytes
unfolding lines_of
lines_more [] bytes p = refl
lines_more (b ∷ l) bytes p = cond-false _ _ _ (ne_eqb b 10 p.0) ∙ ap (onto b) (lines_more l bytes p.1)

-- a rest without a line feed
pub lines_cut : (b : ℕ) (l : Bytes) → Lacks 10 (b ∷ l) → lines_of (b ∷ l) ≡ (b ∷ l) ∷ []
unfolding lines_of
lines_cut b [] p = cond-false _ _ _ (ne_eqb b 10 p.0)
lines_cut b (c ∷ l) p = cond-false _ _ _ (ne_eqb b 10 p.0) ∙ ap (onto b) (lines_cut c l p.1)

onto_joined : (b : ℕ) (ps : List Bytes) → concat (onto b ps) ≡ b ∷ concat ps
onto_joined b [] = refl
onto_joined b (p ∷ ps) = refl

lines_joined_step : (b : ℕ) (bytes : Bytes) → concat (lines_of bytes) ≡ bytes → (t : Bool) → (b == 10) ≡ t → concat (lines_of (b ∷ bytes)) ≡ b ∷ bytes
unfolding lines_of
lines_joined_step b bytes h true t = ap concat (cond-true _ _ _ t) ∙ ap (λ (z : Bytes). b ∷ z) h
lines_joined_step b bytes h false t = ap concat (cond-false _ _ _ t) ∙ onto_joined b (lines_of bytes) ∙ ap (λ (z : Bytes). b ∷ z) h

-- what was cut is joined back
pub lines_joined : (bytes : Bytes) → concat (lines_of bytes) ≡ bytes
unfolding lines_of
lines_joined [] = refl
lines_joined (b ∷ bytes) = lines_joined_step b bytes (lines_joined bytes) (b == 10) refl

-- what is joined of whole lines is cut so
pub lines_again : (ls : List Bytes) → AllByRecursion IsLine ls → lines_of (concat ls) ≡ ls
lines_again [] c = unfold lines_of in refl
lines_again (l ∷ ls) c =
    let t = c.0 in
    let e : l ++ concat ls ≡ t.0 ++ 10 ∷ concat ls = ap (λ (z : Bytes). z ++ concat ls) t.2 ∙ append_assoc t.0 (10 ∷ []) (concat ls) in
    ap lines_of e ∙ lines_more t.0 (concat ls) t.1 ∙ ap (λ (z : Bytes). z ∷ lines_of (concat ls)) (sym t.2) ∙ ap (λ (z : List Bytes). l ∷ z) (lines_again ls c.1)

-- ---- the first separator

split_at : (s : ℕ) (xs ys : List ℕ) → All (IsNot s) xs → split_once s (xs ++ s ∷ ys) ≡ (xs, Some ys)
unfolding split_once
split_at s [] ys none = cond-true _ _ _ (eq-eqb s s refl)
split_at s (x ∷ xs) ys none = cond-false _ _ _ (ne_eqb x s (All-head (IsNot s) x xs none)) ∙ ap (λ (r : List ℕ × Option (List ℕ)). (x ∷ r.0, r.1)) (split_at s xs ys (All-tail (IsNot s) x xs none))

pub split_none : (s : ℕ) (xs : List ℕ) → All (IsNot s) xs → split_once s xs ≡ (xs, None)
unfolding split_once
split_none s [] none = refl
split_none s (x ∷ xs) none = cond-false _ _ _ (ne_eqb x s (All-head (IsNot s) x xs none)) ∙ ap (λ (r : List ℕ × Option (List ℕ)). (x ∷ r.0, r.1)) (split_none s xs (All-tail (IsNot s) x xs none))

split_around : (xs : List ℕ) (i s : ℕ) → i < length xs → get_or xs i 0 ≡ s → xs ≡ take i xs ++ s ∷ drop (i + 1) xs
split_around xs i s inside here = sym (take-append-drop i xs) ∙ ap (λ (l : List ℕ). take i xs ++ l) (drop_more xs i 0 inside ∙ ap (λ (b : ℕ). b ∷ drop (i + 1) xs) here)

all_taken : (P : ℕ → Type 0) (xs : List ℕ) (i : ℕ) → i ≤ length xs → ((k : ℕ) → k < i → P (get_or xs k 0)) → All P (take i xs)
all_taken P xs i within reads = All-from_get_or P (take i xs) 0 (λ k inside. let below : k < i = omega (arith, length-take-le i xs within) in subst P (sym (get_or-take i xs k 0 below)) (reads k below))

pub split_first : (s : ℕ) (xs : List ℕ) (i : ℕ) → i < length xs → get_or xs i 0 ≡ s → ((k : ℕ) → k < i → get_or xs k 0 ≢ s) → split_once s xs ≡ (take i xs, Some (drop (i + 1) xs))
split_first s xs i inside here before = ap (split_once s) (split_around xs i s inside here) ∙ split_at s _ _ (all_taken (IsNot s) xs i (omega arith) before)

-- ---- the first field

first_field_step : (b : ℕ) (bytes : List ℕ) → fields_of bytes ≡ (split_once 32 bytes).0 ∷ left_of (split_once 32 bytes).1 → (t : Bool) → (b == 32) ≡ t
    → fields_of (b ∷ bytes) ≡ (split_once 32 (b ∷ bytes)).0 ∷ left_of (split_once 32 (b ∷ bytes)).1
unfolding fields_of split_once
first_field_step b bytes h true t = rw t refl
first_field_step b bytes h false t = rw t (ap (onto b) h)

pub first_field : (bytes : List ℕ) → fields_of bytes ≡ (split_once 32 bytes).0 ∷ left_of (split_once 32 bytes).1
unfolding fields_of split_once
first_field [] = refl
first_field (b ∷ bytes) = first_field_step b bytes (first_field bytes) (b == 32) refl
