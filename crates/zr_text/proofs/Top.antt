-- What reading all lines, with the upper bounds and without them, says of the bytes.
use Rattle.std.proofs.Common.{◌≡◌, ◌≢◌, ℕ, zero, suc, ◌+◌, ◌-◌, ◌<◌, ◌≤◌, ◌⊎◌, inl, inr, Bool, true, false, List, [], ◌∷◌, ◌++◌, length, take, Result, Ok, Err, sym, refl, ap, ◌∙◌, subst, arith}
use Rattle.std.proofs.lemmas.List.{append-nil, length-append}
use Rattle.zr_cert.specs.Certs.{CertOf}
use Rattle.zr_form.specs.Lines.{concat, lines_of}
use Rattle.zr_form.specs.Reading.{Bytes}
use Rattle.zr_form.proofs.Lines.{lines_again, lines_joined}
use Rattle.zr_text.specs.declared.fault.TextError.{TextError}
use Rattle.zr_text.specs.declared.fault.TextError.TheVariants.{NotCert, NumberTooBig, NoMemory}
use Rattle.zr_text.specs.Faults.{Agrees, FirstBad, IsText, IsTextFault}
use Rattle.zr_text.specs.Fits.{Fits}
use Rattle.zr_text.specs.Reader.{cert_read}
use Rattle.zr_text.specs.Spelling.{cert_lines, text_of}
use Rattle.zr_text.proofs.Grammar.{cert_form}
use Rattle.zr_text.proofs.Looser.{looser}
use Rattle.zr_text.proofs.TwoReadings.{both_read, goes_beyond, left_over}

-- ---- a text

pub read_is_text : (bytes : Bytes) (c : CertOf) → cert_read true (lines_of bytes) ≡ Ok (c, []) → IsText c bytes
read_is_text bytes c e =
    let h = (cert_form true).exact.sound (lines_of bytes) [] c e in
    (h.0, sym (lines_joined bytes) ∙ ap concat (h.1 ∙ append-nil (cert_lines c)))

-- the lines of a text are those of the certificate
pub text_lines : (strict : Bool) (c : CertOf) → Fits strict c → lines_of (text_of c) ≡ cert_lines c
text_lines strict c f = lines_again (cert_lines c) ((cert_form strict).exact.clean c f)

pub text_is_read : (bytes : Bytes) (c : CertOf) → IsText c bytes → cert_read true (lines_of bytes) ≡ Ok (c, [])
text_is_read bytes c t =
    let k : lines_of bytes ≡ cert_lines c ++ [] = ap lines_of t.1 ∙ text_lines true c t.0 ∙ sym (append-nil (cert_lines c)) in
    ap (cert_read true) k ∙ (cert_form true).exact.again c [] t.0

-- ---- where reading stops

one_more : (f y : Bytes) (front ys next : List Bytes) → f ≡ y → (other : List Bytes) × (ys ≡ front ++ other) × (take 1 other ≡ next) → (other : List Bytes) × (y ∷ ys ≡ f ∷ (front ++ other)) × (take 1 other ≡ next)
one_more f y front ys next h r = (r.0, ap (λ (z : Bytes). z ∷ ys) (sym h) ∙ ap (λ (z : List Bytes). f ∷ z) r.1, r.2)

-- lists that agree one piece further than the front
cut_at : (front rest ys : List Bytes) → take (suc (length front)) (front ++ rest) ≡ take (suc (length front)) ys → (other : List Bytes) × (ys ≡ front ++ other) × (take 1 other ≡ take 1 rest)
cut_at [] rest ys e = (ys, refl, sym e)
cut_at (f ∷ front) rest [] e = absurd cc
cut_at (f ∷ front) rest (y ∷ ys) e =
    let h : f ≡ y = cc in
    let t : take (suc (length front)) (front ++ rest) ≡ take (suc (length front)) ys = cc in
    one_more f y front ys (take 1 rest) h (cut_at front rest ys t)

take_front : (front rest : List Bytes) → take (length front) (front ++ rest) ≡ front
take_front [] rest = refl
take_front (f ∷ front) rest = ap (λ (z : List Bytes). f ∷ z) (take_front front rest)

-- after so many lines comes the first bad one, and so many are left from it on
abbrev pub StopsAt : Bool → Bytes → ℕ → Type 0
StopsAt strict bytes left = (before : ℕ) × (before + left ≡ length (lines_of bytes)) × FirstBad strict bytes before

pub stops_first : (strict : Bool) (bytes : Bytes) (rest : List Bytes) → cert_read strict (lines_of bytes) ≡ Err rest → StopsAt strict bytes (length rest)
stops_first strict bytes rest e =
    let s = (cert_form strict).stops (lines_of bytes) rest e in
    let n : length s.front + length rest ≡ length (lines_of bytes) = sym (ap length s.parts ∙ length-append s.front rest) in
    let good : take (length s.front) (lines_of bytes) ≡ take (length s.front) (cert_lines s.item) = ap (take (length s.front)) s.parts ∙ take_front s.front rest ∙ sym (ap (take (length s.front)) s.opens ∙ take_front s.front (s.next ∷ s.more)) in (
      length s.front,
      n,
      record {
        good = (s.item, s.fits, good);
        bad = λ a.
            let r = cut_at s.front rest (cert_lines a.0) (sym (ap (take (suc (length s.front))) s.parts) ∙ a.2) in
            s.shut a.0 [] r.0 a.1 (append-nil (cert_lines a.0) ∙ r.1) r.2;
      },
    )

no_rest : (l : Bytes) (ls : List Bytes) → [] ≡ l ∷ ls → ⊥
no_rest l ls e = cc

abbrev done : {A : Type 0} → A → Result A (List Bytes)
done x = Ok x

ok_is : {A : Type 0} (x y : A) → done x ≡ done y → x ≡ y
ok_is x y e = cc

first_of_one : (l : Bytes) (ls other : List Bytes) → take 1 other ≡ take 1 (l ∷ ls) → (tail : List Bytes) × (other ≡ l ∷ tail)
first_of_one l ls [] e = absurd cc
first_of_one l ls (o ∷ other) e = let k : o ≡ l = cc in (other, ap (λ (z : Bytes). z ∷ other) k)

-- what was read agrees up to where it ends
whole_agrees : (strict : Bool) (bytes : Bytes) (c : CertOf) (rest : List Bytes) → cert_read strict (lines_of bytes) ≡ Ok (c, rest) → Agrees strict (length (cert_lines c)) bytes × (length (cert_lines c) + length rest ≡ length (lines_of bytes))
whole_agrees strict bytes c rest e =
    let h = (cert_form strict).exact.sound (lines_of bytes) rest c e in
    let good : take (length (cert_lines c)) (lines_of bytes) ≡ take (length (cert_lines c)) (cert_lines c) = ap (take (length (cert_lines c))) h.1 ∙ take_front (cert_lines c) rest ∙ sym (ap (take (length (cert_lines c))) (sym (append-nil (cert_lines c))) ∙ take_front (cert_lines c) []) in
    ((c, h.0, good), sym (ap length h.1 ∙ length-append (cert_lines c) rest))

pub trails_first : (strict : Bool) (bytes : Bytes) (c : CertOf) (l : Bytes) (rest : List Bytes) → cert_read strict (lines_of bytes) ≡ Ok (c, l ∷ rest) → StopsAt strict bytes (length (l ∷ rest))
trails_first strict bytes c l rest e =
    let f = (cert_form strict).exact in
    let h = f.sound (lines_of bytes) (l ∷ rest) c e in
    let w = whole_agrees strict bytes c (l ∷ rest) e in (
      length (cert_lines c),
      w.1,
      record {
        good = w.0;
        bad = λ a.
            let r = cut_at (cert_lines c) (l ∷ rest) (cert_lines a.0) (sym (ap (take (suc (length (cert_lines c)))) h.1) ∙ a.2) in
            let t = first_of_one l rest r.0 r.2 in
            let one : cert_read strict (cert_lines c ++ (l ∷ t.0)) ≡ Ok (c, l ∷ t.0) = f.again c (l ∷ t.0) h.0 in
            let two : cert_read strict (cert_lines a.0 ++ []) ≡ Ok (a.0, []) = f.again a.0 [] a.1 in
            let input : cert_lines a.0 ++ [] ≡ cert_lines c ++ (l ∷ t.0) = append-nil (cert_lines a.0) ∙ r.1 ∙ ap (λ (z : List Bytes). cert_lines c ++ z) t.1 in
            let both : (a.0, []) ≡ (c, l ∷ t.0) = ok_is {A = CertOf × List Bytes} (a.0, []) (c, l ∷ t.0) (sym two ∙ ap (cert_read strict) input ∙ one) in
            no_rest l t.0 (ap (λ (q : CertOf × List Bytes). q.1) both);
      },
    )

-- ---- fewer lines

same_cons : (x y : Bytes) (xs ys : List Bytes) → x ≡ y → xs ≡ ys → x ∷ xs ≡ y ∷ ys
same_cons x y xs ys p q = cc

take_less : (k : ℕ) (xs ys : List Bytes) → take (suc k) xs ≡ take (suc k) ys → take k xs ≡ take k ys
take_less zero xs ys e = refl
take_less (suc k) [] [] e = refl
take_less (suc k) [] (y ∷ ys) e = absurd cc
take_less (suc k) (x ∷ xs) [] e = absurd cc
take_less (suc k) (x ∷ xs) (y ∷ ys) e =
    let h : x ≡ y = cc in
    let t : take (suc k) xs ≡ take (suc k) ys = cc in
    same_cons x y (take k xs) (take k ys) h (take_less k xs ys t)

agrees_less : (strict : Bool) (k : ℕ) (bytes : Bytes) → Agrees strict (suc k) bytes → Agrees strict k bytes
agrees_less strict k bytes a = (a.0, a.1, take_less k (lines_of bytes) (cert_lines a.0) a.2)

agrees_down : (strict : Bool) (k n : ℕ) (bytes : Bytes) → Agrees strict (n + k) bytes → Agrees strict k bytes
agrees_down strict k zero bytes a = subst (λ (m : ℕ). Agrees strict m bytes) (omega arith) a
agrees_down strict k (suc n) bytes a =
    let e : suc n + k ≡ suc (n + k) = omega arith in
    agrees_down strict k n bytes (agrees_less strict (n + k) bytes (subst (λ (m : ℕ). Agrees strict m bytes) e a))

pub agrees_within : (strict : Bool) (k n : ℕ) (bytes : Bytes) → k ≤ n → Agrees strict n bytes → Agrees strict k bytes
agrees_within strict k n bytes le a =
    let e : (n - k) + k ≡ n = omega arith in
    agrees_down strict k (n - k) bytes (subst (λ (m : ℕ). Agrees strict m bytes) (sym e) a)

-- ---- faults

-- without the upper bounds reading goes beyond the line: so the line would be in the form
agrees_beyond : (bytes : Bytes) (before left : ℕ) (read : Result (CertOf × List Bytes) (List Bytes)) → cert_read false (lines_of bytes) ≡ read → before + left ≡ length (lines_of bytes) → length (left_over read) < left → Agrees false (suc before) bytes
agrees_beyond bytes before left (Ok x) e n lt =
    let w = whole_agrees false bytes x.0 x.1 e in
    agrees_within false (suc before) (length (cert_lines x.0)) bytes (omega (arith, w.1)) w.0
agrees_beyond bytes before left (Err far) e n lt =
    let t = stops_first false bytes far e in
    agrees_within false (suc before) t.0 bytes (omega (arith, t.1)) t.2.good

-- Reading stops before a line, and without the upper bounds it goes beyond that line.
pub is_too_big : (bytes : Bytes) (rest : List Bytes) (n : ℕ) → cert_read true (lines_of bytes) ≡ Err rest → length (left_over (cert_read false (lines_of bytes))) < length rest → n + length rest ≡ suc (length (lines_of bytes)) → IsTextFault bytes (NumberTooBig n)
is_too_big bytes rest n e lt k =
    let s = stops_first true bytes rest e in
    (s.0, omega (arith, s.1), s.2, agrees_beyond bytes s.0 (length rest) (cert_read false (lines_of bytes)) refl s.1 lt)

-- Reading stops before a line, with the upper bounds and without them.
pub is_not_cert : (bytes : Bytes) (rest far : List Bytes) (n : ℕ) → cert_read true (lines_of bytes) ≡ Err rest → cert_read false (lines_of bytes) ≡ Err far → length far ≡ length rest → n + length rest ≡ suc (length (lines_of bytes)) → IsTextFault bytes (NotCert n)
is_not_cert bytes rest far n e f same k =
    let s = stops_first true bytes rest e in
    let t = stops_first false bytes far f in
    let m : t.0 ≡ s.0 = omega (arith, s.1, t.1) in
    (s.0, omega (arith, s.1), s.2, λ a. t.2.bad (subst (λ (z : ℕ). Agrees false (suc z) bytes) (sym m) a))

-- A line comes after the last one.
pub is_not_cert_after : (bytes : Bytes) (c : CertOf) (l : Bytes) (rest : List Bytes) (n : ℕ) → cert_read true (lines_of bytes) ≡ Ok (c, l ∷ rest) → n + length (l ∷ rest) ≡ suc (length (lines_of bytes)) → IsTextFault bytes (NotCert n)
is_not_cert_after bytes c l rest n e k =
    let f : cert_read false (lines_of bytes) ≡ Ok (c, l ∷ rest) = both_read (Fits true) (Fits false) cert_lines (cert_read true) (cert_read false) (cert_form true) (cert_form false) looser (lines_of bytes) (l ∷ rest) c e in
    let s = trails_first true bytes c l rest e in
    let t = trails_first false bytes c l rest f in
    let m : t.0 ≡ s.0 = omega (arith, s.1, t.1) in
    (s.0, omega (arith, s.1), s.2, λ a. t.2.bad (subst (λ (z : ℕ). Agrees false (suc z) bytes) (sym m) a))

-- ---- one text and one fault

same_read : (c d : CertOf) (ls : List Bytes) (read : Result (CertOf × List Bytes) (List Bytes)) → read ≡ Ok (c, ls) → read ≡ Ok (d, ls) → c ≡ d
same_read c d ls read e f = ap (λ (q : CertOf × List Bytes). q.0) (ok_is {A = CertOf × List Bytes} (c, ls) (d, ls) (sym e ∙ f))

pub one_text : (c d : CertOf) → Fits true c → Fits true d → text_of c ≡ text_of d → c ≡ d
one_text c d f g e = same_read c d [] (cert_read true (lines_of (text_of c))) (text_is_read (text_of c) c (f, refl)) (text_is_read (text_of c) d (g, e))

-- a text agrees to any length
text_agrees : (bytes : Bytes) (c : CertOf) (n : ℕ) → IsText c bytes → Agrees true n bytes
text_agrees bytes c n t = (c, t.0, ap (take n) (ap lines_of t.1 ∙ text_lines true c t.0))

text_has_no_bad : (bytes : Bytes) (c : CertOf) (before : ℕ) → IsText c bytes → FirstBad true bytes before → ⊥
text_has_no_bad bytes c before t bad = bad.bad (text_agrees bytes c (suc before) t)

one_first_step : (bytes : Bytes) (m n : ℕ) → FirstBad true bytes m → FirstBad true bytes n → m < n → ⊥
one_first_step bytes m n f g lt = f.bad (agrees_within true (suc m) n bytes (omega arith) g.good)

one_first : (bytes : Bytes) (m n : ℕ) → FirstBad true bytes m → FirstBad true bytes n → m ≡ n
one_first bytes m n f g = omega (arith, one_first_step bytes m n f g, one_first_step bytes n m g f)

-- a text has no fault but want of memory
pub text_has_no_fault : (c : CertOf) (bytes : Bytes) → IsText c bytes → (e : TextError) → IsTextFault bytes e → e ≡ NoMemory
text_has_no_fault c bytes t (NotCert n) f = absurd (text_has_no_bad bytes c f.0 t f.2)
text_has_no_fault c bytes t (NumberTooBig n) f = absurd (text_has_no_bad bytes c f.0 t f.2)
text_has_no_fault c bytes t NoMemory f = refl

pub one_fault : (bytes : Bytes) (d e : TextError) → IsTextFault bytes d → IsTextFault bytes e → d ≢ NoMemory → e ≢ NoMemory → d ≡ e
one_fault bytes (NotCert m) (NotCert n) f g p q = let k = one_first bytes f.0 g.0 f.2 g.2 in ap NotCert (f.1 ∙ ap suc k ∙ sym g.1)
one_fault bytes (NotCert m) (NumberTooBig n) f g p q = let k = one_first bytes f.0 g.0 f.2 g.2 in absurd (f.3 (subst (λ (z : ℕ). Agrees false (suc z) bytes) (sym k) g.3))
one_fault bytes (NumberTooBig m) (NotCert n) f g p q = let k = one_first bytes f.0 g.0 f.2 g.2 in absurd (g.3 (subst (λ (z : ℕ). Agrees false (suc z) bytes) k f.3))
one_fault bytes (NumberTooBig m) (NumberTooBig n) f g p q = let k = one_first bytes f.0 g.0 f.2 g.2 in ap NumberTooBig (f.1 ∙ ap suc k ∙ sym g.1)
one_fault bytes NoMemory e f g p q = absurd (p refl)
one_fault bytes d NoMemory f g p q = absurd (q refl)

-- ---- a text, or a fault

abbrev HasFault : Bytes → Type 0
HasFault bytes = (fault : TextError) × (fault ≢ NoMemory) × IsTextFault bytes fault

big_is_not : (n : ℕ) → NumberTooBig n ≢ NoMemory
big_is_not n e = cc

bad_is_not : (n : ℕ) → NotCert n ≢ NoMemory
bad_is_not n e = cc

stopped_fault : (bytes : Bytes) (rest : List Bytes) → cert_read true (lines_of bytes) ≡ Err rest → HasFault bytes
stopped_fault bytes rest e =
    let s = stops_first true bytes rest e in
    let n : suc s.0 + length rest ≡ suc (length (lines_of bytes)) = omega (arith, s.1) in
    elim (goes_beyond (Fits true) (Fits false) cert_lines (cert_read true) (cert_read false) (cert_form true) (cert_form false) looser (lines_of bytes) rest e) [
      | inl f ↦ (NotCert (suc s.0), bad_is_not (suc s.0), is_not_cert bytes rest rest (suc s.0) e f refl n)
      | inr lt ↦ (NumberTooBig (suc s.0), big_is_not (suc s.0), is_too_big bytes rest (suc s.0) e lt n)
    ]

trailing_fault : (bytes : Bytes) (c : CertOf) (l : Bytes) (rest : List Bytes) → cert_read true (lines_of bytes) ≡ Ok (c, l ∷ rest) → HasFault bytes
trailing_fault bytes c l rest e =
    let s = trails_first true bytes c l rest e in
    let n : suc s.0 + length (l ∷ rest) ≡ suc (length (lines_of bytes)) = omega (arith, s.1) in
    (NotCert (suc s.0), bad_is_not (suc s.0), is_not_cert_after bytes c l rest (suc s.0) e n)

pub text_or_fault : (bytes : Bytes) → ((c : CertOf) × IsText c bytes) ⊎ ((fault : TextError) × (fault ≢ NoMemory) × IsTextFault bytes fault)
text_or_fault bytes = which (cert_read true (lines_of bytes)) refl
  where
    which : (read : Result (CertOf × List Bytes) (List Bytes)) → cert_read true (lines_of bytes) ≡ read → ((c : CertOf) × IsText c bytes) ⊎ HasFault bytes
    which (Ok (c, [])) e = inl (c, read_is_text bytes c e)
    which (Ok (c, l ∷ rest)) e = inr (trailing_fault bytes c l rest e)
    which (Err rest) e = inr (stopped_fault bytes rest e)
