-- Steps of the code that reads lines.
use Rattle.std.proofs.Common.{◌≡◌, ◌≢◌, ℕ, suc, ◌+◌, ◌-◌, ◌<◌, ◌≤◌, Bool, true, false, cond, ◌==◌, List, [], ◌∷◌, ◌++◌, length, Option, Some, None, Result, Ok, Err, sym, refl, ap, ◌∙◌, subst, arith}
use Rattle.std.specs.Prelude.{option_map}
use Rattle.std.proofs.lemmas.Bool.{cond-true, cond-false, eqb-true, eqb-false, ne_eqb}
use Rattle.std.proofs.lemmas.List.{append-nil, length-append}
use Rattle.zr_form.specs.Reading.{Bytes, ◌>>=◌, items_read}
use Rattle.zr_form.specs.Lines.{split_once, lines_of, fields_of, whole_line, by_fields, concat}
use Rattle.zr_form.specs.Code.{line_cut, feed}
use Rattle.zr_form.proofs.Lines.{Lacks, lines_more, lines_cut, line_read, lines_joined}
use Rattle.zr_form.proofs.Forms.{none_due}
use Rattle.zr_form.proofs.Parsing.{with_front, regroup}

abbrev joined_by : ℕ → Bytes → Option Bytes → Bytes
joined_by s l None = l
joined_by s l (Some r) = l ++ s ∷ r

abbrev refused : {A : Type 0} → List Bytes → Result (A × List Bytes) (List Bytes)
refused fs = Err fs

abbrev took : {A : Type 0} → A → List Bytes → Result (A × List Bytes) (List Bytes)
took x fs = Ok (x, fs)

no_feed : (b : ℕ) → b ≢ 10 → (b == 10) ≡ false
no_feed b h = ne_eqb b 10 h

-- what the cut at a separator says
pub record Cut (s : ℕ) (bytes l : Bytes) (r : Option Bytes) : Type 0 where
  pub lacks : Lacks s l
  pub joined : joined_by s l r ≡ bytes

cut_step : (s b : ℕ) (bytes l : Bytes) (r : Option Bytes) → Cut s bytes l r → (t : Bool) → (b == s) ≡ t → Cut s (b ∷ bytes) (cond t [] (b ∷ l)) (cond t (Some bytes) r)
cut_step s b bytes l r h true t = record { lacks = tt; joined = ap (λ (z : ℕ). z ∷ bytes) (sym (eqb-true b s t)) }
cut_step s b bytes l None h false t = record { lacks = (eqb-false b s t, h.lacks); joined = ap (λ (z : Bytes). b ∷ z) h.joined }
cut_step s b bytes l (Some r) h false t = record { lacks = (eqb-false b s t, h.lacks); joined = ap (λ (z : Bytes). b ∷ z) h.joined }

cut_pair : (s b : ℕ) (bytes : Bytes) (t : Bool) → (b == s) ≡ t → split_once s (b ∷ bytes) ≡ (cond t [] (b ∷ (split_once s bytes).0), cond t (Some bytes) (split_once s bytes).1)
unfolding split_once
cut_pair s b bytes true t = cond-true _ _ _ t
cut_pair s b bytes false t = cond-false _ _ _ t

pub cut_is : (s : ℕ) (bytes : Bytes) → Cut s bytes (split_once s bytes).0 (split_once s bytes).1
cut_is s [] = unfold split_once in record { lacks = tt; joined = refl }
cut_is s (b ∷ bytes) =
    subst (λ (p : Bytes × Option Bytes). Cut s (b ∷ bytes) p.0 p.1) (sym (cut_pair s b bytes (b == s) refl)) (cut_step s b bytes (split_once s bytes).0 (split_once s bytes).1 (cut_is s bytes) (b == s) refl)

-- ---- one line

feed_some : (p : Bytes × Option Bytes) (l r : Bytes) → feed p ≡ Some (l, r) → (p.0 ≡ l) × (p.1 ≡ Some r)
feed_some (m, None) l r e = absurd cc
feed_some (m, Some q) l r e = let k : (m, q) ≡ (l, r) = cc in (ap (λ (z : Bytes × Bytes). z.0) k, ap (λ (z : Bytes × Bytes). Some z.1) k)

feed_none : (p : Bytes × Option Bytes) → None ≡ feed p → p.1 ≡ None
feed_none (m, None) e = refl
feed_none (m, Some q) e = absurd cc

pub record Line (bytes l r : Bytes) : Type 0 where
  pub lacks : Lacks 10 l
  pub whole : bytes ≡ l ++ 10 ∷ r

pub line_is : (bytes l r : Bytes) → Some (l, r) ≡ line_cut bytes → Line bytes l r
line_is bytes l r e =
    let h = feed_some (split_once 10 bytes) l r (sym e) in
    let c = cut_is 10 bytes in
    record {
      lacks = subst (Lacks 10) h.0 c.lacks;
      whole = sym c.joined ∙ ap (λ (z : Bytes). joined_by 10 z (split_once 10 bytes).1) h.0 ∙ ap (λ (z : Option Bytes). joined_by 10 l z) h.1;
    }

pub line_missing : (bytes : Bytes) → None ≡ line_cut bytes → Lacks 10 bytes
line_missing bytes e =
    let h = feed_none (split_once 10 bytes) e in
    let c = cut_is 10 bytes in
    let k : (split_once 10 bytes).0 ≡ bytes = sym (ap (λ (z : Option Bytes). joined_by 10 (split_once 10 bytes).0 z) h) ∙ c.joined in
    subst (Lacks 10) k c.lacks

pub shorter : (bytes l r : Bytes) → Line bytes l r → length r < length bytes
shorter bytes l r h = omega (arith, ap length h.whole ∙ length-append l (10 ∷ r))

-- ---- items read by a loop

pub lines_first : (bytes l r : Bytes) → Line bytes l r → lines_of bytes ≡ (l ++ 10 ∷ []) ∷ lines_of r
lines_first bytes l r h = ap lines_of h.whole ∙ lines_more l r h.lacks

pub by_line : {X : Type 0} (parse : List Bytes → Option X) (l : Bytes) → Lacks 10 l → by_fields parse (l ++ 10 ∷ []) ≡ parse (fields_of l)
unfolding by_fields
by_line parse l h = rw (line_read l h) refl

unread : (b : ℕ) (l : Bytes) → Lacks 10 (b ∷ l) → whole_line (b ∷ l) ≡ None
unfolding whole_line
unread b [] h = cond-false _ _ _ (no_feed b h.0)
unread b (c ∷ l) h = cond-false _ _ _ (no_feed b h.0) ∙ ap (option_map (λ (z : Bytes). b ∷ z)) (unread c l h.1)

pub by_none : {X : Type 0} (parse : List Bytes → Option X) (b : ℕ) (l : Bytes) → Lacks 10 (b ∷ l) → by_fields parse (b ∷ l) ≡ None
unfolding by_fields
by_none parse b l h = rw (unread b l h) refl

pub item_on : {X : Type 0} (parse : List Bytes → Option X) (more : X → ℕ) (front : List X) (bytes l r : Bytes) (due next : ℕ) (x : X) (total : Result (List X × List Bytes) (List Bytes)) → Line bytes l r → 0 < due → parse (fields_of l) ≡ Some x → next ≡ (due - 1) + more x
    → with_front front (items_read (by_fields parse) more (lines_of bytes) due) ≡ total → with_front (front ++ x ∷ []) (items_read (by_fields parse) more (lines_of r) next) ≡ total
unfolding items_read
item_on {X = X} parse more front bytes l r due next x total line positive e n so_far =
    let d : due ≡ suc (due - 1) = omega arith in
    let k : more x + (due - 1) ≡ next = omega arith in
    let p : by_fields parse (l ++ 10 ∷ []) ≡ Some x = by_line parse l line.lacks ∙ e in
    let one : items_read (by_fields parse) more (lines_of bytes) due ≡ (items_read (by_fields parse) more (lines_of r) (more x + (due - 1)) >>= λ xs. Ok (x ∷ xs.0, xs.1)) =
    ap (items_read (by_fields parse) more (lines_of bytes)) d ∙ ap (λ (z : List Bytes). items_read (by_fields parse) more z (suc (due - 1))) (lines_first bytes l r line) ∙ rw p refl in
    ap (λ (z : ℕ). with_front (front ++ x ∷ []) (items_read (by_fields parse) more (lines_of r) z)) (sym k) ∙ sym (ap (with_front front) one ∙ regroup front x (items_read (by_fields parse) more (lines_of r) (more x + (due - 1)))) ∙ so_far

pub item_bad : {X : Type 0} (parse : List Bytes → Option X) (more : X → ℕ) (front : List X) (bytes l r : Bytes) (due : ℕ) (total : Result (List X × List Bytes) (List Bytes)) → Line bytes l r → 0 < due → parse (fields_of l) ≡ None
    → with_front front (items_read (by_fields parse) more (lines_of bytes) due) ≡ total → total ≡ Err (lines_of bytes)
unfolding items_read
item_bad {X = X} parse more front bytes l r due total line positive e so_far =
    let d : due ≡ suc (due - 1) = omega arith in
    let p : by_fields parse (l ++ 10 ∷ []) ≡ None = by_line parse l line.lacks ∙ e in
    let f = lines_first bytes l r line in
    let one : items_read (by_fields parse) more (lines_of bytes) due ≡ Err (lines_of bytes) =
    ap (items_read (by_fields parse) more (lines_of bytes)) d ∙ ap (λ (z : List Bytes). items_read (by_fields parse) more z (suc (due - 1))) f ∙ rw p (ap (λ (z : List Bytes). refused {A = List X} z) (sym f)) in
    sym so_far ∙ ap (with_front front) one

cut_item : {X : Type 0} (parse : List Bytes → Option X) (more : X → ℕ) (b : ℕ) (l : Bytes) (due : ℕ) → Lacks 10 (b ∷ l) → items_read (by_fields parse) more ((b ∷ l) ∷ []) (suc due) ≡ Err ((b ∷ l) ∷ [])
unfolding items_read
cut_item parse more b l due h = rw (by_none parse b l h) refl

no_item : {X : Type 0} (parse : List Bytes → Option X) (more : X → ℕ) (bytes : Bytes) (due : ℕ) → Lacks 10 bytes → items_read (by_fields parse) more (lines_of bytes) (suc due) ≡ Err (lines_of bytes)
unfolding items_read lines_of
no_item parse more [] due h = refl
no_item {X = X} parse more (b ∷ l) due h =
    let f = lines_cut b l h in
    ap (λ (z : List Bytes). items_read (by_fields parse) more z (suc due)) f ∙ cut_item parse more b l due h ∙ ap (λ (z : List Bytes). refused {A = List X} z) (sym f)

pub item_cut : {X : Type 0} (parse : List Bytes → Option X) (more : X → ℕ) (front : List X) (bytes : Bytes) (due : ℕ) (total : Result (List X × List Bytes) (List Bytes)) → Lacks 10 bytes → 0 < due
    → with_front front (items_read (by_fields parse) more (lines_of bytes) due) ≡ total → total ≡ Err (lines_of bytes)
item_cut parse more front bytes due total lacks positive so_far =
    let d : due ≡ suc (due - 1) = omega arith in
    sym so_far ∙ ap (with_front front) (ap (items_read (by_fields parse) more (lines_of bytes)) d ∙ no_item parse more bytes (due - 1) lacks)

pub items_end : {X : Type 0} (parse : List Bytes → Option X) (more : X → ℕ) (front : List X) (ls : List Bytes) (due : ℕ) (total : Result (List X × List Bytes) (List Bytes)) → due ≤ 0
    → with_front front (items_read (by_fields parse) more ls due) ≡ total → total ≡ Ok (front, ls)
items_end {X = X} parse more front ls due total le so_far =
    let d : due ≡ 0 = omega arith in
    sym so_far ∙ ap (λ (z : ℕ). with_front front (items_read (by_fields parse) more ls z)) d ∙ ap (with_front front) (none_due (by_fields parse) more ls) ∙ ap (λ (z : List X). took z ls) (append-nil front)

-- where reading stopped
pub stopped_at : {Y : Type 0} (read : Result (Y × List Bytes) (List Bytes)) (bytes : Bytes) → read ≡ Err (lines_of bytes) → (ls : List Bytes) × (read ≡ Err ls) × (length bytes ≡ length (concat ls))
stopped_at read bytes e = (lines_of bytes, e, ap length (sym (lines_joined bytes)))

pub with_nothing : {X : Type 0} (r : Result (List X × List Bytes) (List Bytes)) → with_front [] r ≡ r
with_nothing (Ok x) = refl
with_nothing (Err e) = refl
