-- The number of a line, by the line feeds before it.
use Rattle.std.proofs.Common.{◌≡◌, ℕ, suc, ◌+◌, ◌-◌, ◌^◌, ◌<◌, ◌≤◌, ◌==◌, ◌⊎◌, inl, inr, true, false, List, [], ◌∷◌, ◌++◌, length, take, Result, Ok, Err, sym, refl, ap, ◌∙◌, subst, append_assoc, arith}
use Rattle.std.specs.List.{AllByRecursion, count_by}
use Rattle.std.proofs.Math.Seq.{take-append_seam}
use Rattle.std.proofs.lemmas.Bool.{ne_eqb}
use Rattle.std.proofs.lemmas.List.{append-nil, length-append}
use Rattle.std.proofs.lemmas.List.Sums.{sum_by-append}
use Rattle.zr_cert.specs.Certs.{CertOf}
use Rattle.zr_cert.specs.Forms.{IsCert}
use Rattle.zr_cert.specs.Lines.{line_count}
use Rattle.zr_form.specs.Lines.{concat, lines_of}
use Rattle.zr_form.specs.Reading.{Bytes}
use Rattle.zr_form.specs.Stops.{IsBeyond}
use Rattle.zr_form.proofs.Composing.{lines_fit}
use Rattle.zr_form.proofs.Lines.{IsLine, Lacks, lines_joined}
use Rattle.zr_text.specs.declared.fault.TextError.TheVariants.{NotCert, NumberTooBig}
use Rattle.zr_text.specs.Faults.{IsText, IsTextFault}
use Rattle.zr_text.specs.Fits.{Fits}
use Rattle.zr_text.specs.Reader.{cert_read}
use Rattle.zr_text.specs.Spelling.{cert_lines, form_line}
use Rattle.zr_text.proofs.Counts.{as_many_lines}
use Rattle.zr_text.proofs.Grammar.{cert_form}
use Rattle.zr_text.proofs.Kept.{cert_told}
use Rattle.zr_text.proofs.Top.{is_not_cert, is_not_cert_after, is_too_big, read_is_text}
use Rattle.zr_text.proofs.TwoReadings.{left_over}

-- how many line feeds there are
abbrev pub feeds : Bytes → ℕ
feeds bytes = count_by (λ b. b == 10) bytes

no_feeds : (l : Bytes) → Lacks 10 l → feeds l ≡ 0
no_feeds [] h = refl
no_feeds (b ∷ l) h = let k : (b == 10) ≡ false = ne_eqb b 10 h.0 in rw k (no_feeds l h.1)

feeds_append : (xs ys : Bytes) → feeds (xs ++ ys) ≡ feeds xs + feeds ys
feeds_append xs ys = sum_by-append _ xs ys

one_feed : (piece : Bytes) → IsLine piece → feeds piece ≡ 1
one_feed piece h = omega (arith, ap feeds h.2, feeds_append h.0 (10 ∷ []), no_feeds h.0 h.1)

-- each line has one feed, and so at least one byte
feeds_of_lines : (ls : List Bytes) → AllByRecursion IsLine ls → feeds (concat ls) ≡ length ls
feeds_of_lines [] h = refl
feeds_of_lines (l ∷ ls) h = omega (arith, feeds_append l (concat ls), one_feed l h.0, feeds_of_lines ls h.1)

bytes_of_lines : (ls : List Bytes) → AllByRecursion IsLine ls → length ls ≤ length (concat ls)
bytes_of_lines [] h = omega arith
bytes_of_lines (l ∷ ls) h = omega (arith, ap length h.0.2, length-append h.0.0 (10 ∷ []), length-append l (concat ls), bytes_of_lines ls h.1)

front_clean : (xs ys : List Bytes) → AllByRecursion IsLine (xs ++ ys) → AllByRecursion IsLine xs
front_clean [] ys h = tt
front_clean (x ∷ xs) ys h = (h.0, front_clean xs ys h.1)

same_first : (x y : Bytes) (xs ys : List Bytes) → x ∷ xs ≡ y ∷ ys → x ≡ y
same_first x y xs ys e = cc

-- the first line has more than a byte
more_bytes : (c : CertOf) (front other : List Bytes) → AllByRecursion IsLine front → cert_lines c ≡ front ++ other → (front ≡ []) ⊎ (length front < length (concat front))
more_bytes c [] other h e = inl refl
more_bytes c (l ∷ ls) other h e =
    let k : form_line ≡ l = same_first form_line l _ (ls ++ other) e in
    let n : length form_line ≡ 12 = refl in
    inr (omega (arith, ap length k, n, length-append l (concat ls), bytes_of_lines ls h.1))

-- where so many bytes are left, these lines are left
pub record Place (bytes : Bytes) (left : ℕ) (rest : List Bytes) : Type 0 where
  pub within : left ≤ length bytes
  pub few : feeds (take (length bytes - left) bytes) < 2 ^ 32 - 1
  pub line : suc (feeds (take (length bytes - left) bytes)) + length rest ≡ suc (length (lines_of bytes))

few_lines : (front : List Bytes) (total : ℕ) → (front ≡ []) ⊎ (length front < length (concat front)) → length (concat front) ≤ total → total < 2 ^ 32 → length front < 2 ^ 32 - 1
few_lines front total (inl e) le lt = omega (arith, ap length e)
few_lines front total (inr more) le lt = omega arith

pub place : (bytes : Bytes) (c : CertOf) (front other rest : List Bytes) (left : ℕ) → length bytes < 2 ^ 32 → Fits true c → lines_of bytes ≡ front ++ rest → cert_lines c ≡ front ++ other → left ≡ length (concat rest) → Place bytes left rest
place bytes c front other rest left small fits parts opens n =
    let clean = front_clean front other (subst (AllByRecursion IsLine) opens ((cert_form true).exact.clean c fits)) in
    let whole : bytes ≡ concat front ++ concat rest = sym (lines_joined bytes) ∙ ap concat parts ∙ concat_append front rest in
    let size : length bytes ≡ length (concat front) + length (concat rest) = ap length whole ∙ length-append (concat front) (concat rest) in
    let start : take (length bytes - left) bytes ≡ concat front = ap (λ (z : ℕ). take z bytes) (let k : length bytes - left ≡ length (concat front) = omega arith in k) ∙ ap (take (length (concat front))) whole ∙ take-append_seam (concat front) (concat rest) in
    let count : feeds (take (length bytes - left) bytes) ≡ length front = ap feeds start ∙ feeds_of_lines front clean in
    let most : length front < 2 ^ 32 - 1 = few_lines front (length bytes) (more_bytes c front other clean opens) (omega arith) small in
    record {
      within = omega arith;
      few = omega arith;
      line = omega (arith, ap length parts, length-append front rest);
    }
  where
    concat_append : (ps qs : List Bytes) → concat (ps ++ qs) ≡ concat ps ++ concat qs
    concat_append [] qs = refl
    concat_append (p ∷ ps) qs = ap (λ (z : Bytes). p ++ z) (concat_append ps qs) ∙ sym (append_assoc p (concat ps) (concat qs))

-- where reading stopped
pub stopped_place : (bytes : Bytes) (rest : List Bytes) (left : ℕ) → length bytes < 2 ^ 32 → cert_read true (lines_of bytes) ≡ Err rest → left ≡ length (concat rest) → Place bytes left rest
stopped_place bytes rest left small e n =
    let s = (cert_form true).stops (lines_of bytes) rest e in
    place bytes s.item s.front (s.next ∷ s.more) rest left small s.fits s.parts s.opens n

-- what follows a whole certificate
pub trailing_place : (bytes rest : Bytes) (c : CertOf) → length bytes < 2 ^ 32 → cert_read true (lines_of bytes) ≡ Ok (c, lines_of rest) → Place bytes (length rest) (lines_of rest)
trailing_place bytes rest c small e =
    let h = (cert_form true).exact.sound (lines_of bytes) (lines_of rest) c e in
    place bytes c (cert_lines c) [] (lines_of rest) (length rest) small h.0 h.1 (sym (append-nil (cert_lines c))) (ap length (sym (lines_joined rest)))

-- ---- faults

pub stopped_fault : (bytes : Bytes) (rest : List Bytes) (n : ℕ) → cert_read true (lines_of bytes) ≡ Err rest → cert_read false (lines_of bytes) ≡ Err rest → n + length rest ≡ suc (length (lines_of bytes)) → IsTextFault bytes (NotCert n)
stopped_fault bytes rest n e f k = is_not_cert bytes rest rest n e f refl k

beyond : (ls : List Bytes) (r : Result (CertOf × List Bytes) (List Bytes)) → IsBeyond ls r → length (left_over r) < length ls
beyond ls (Ok x) h = h
beyond ls (Err far) h = h

pub number_fault : (bytes : Bytes) (rest : List Bytes) (n : ℕ) → cert_read true (lines_of bytes) ≡ Err rest → IsBeyond rest (cert_read false (lines_of bytes)) → n + length rest ≡ suc (length (lines_of bytes)) → IsTextFault bytes (NumberTooBig n)
number_fault bytes rest n e f k = is_too_big bytes rest n e (beyond rest (cert_read false (lines_of bytes)) f) k

-- nothing follows the certificate
pub text_ended : (bytes rest : Bytes) (c : CertOf) → length rest ≡ 0 → cert_read true (lines_of bytes) ≡ Ok (c, lines_of rest) → IsText c bytes
text_ended bytes [] c none e = unfold lines_of in read_is_text bytes c e
text_ended bytes (b ∷ rest) c none e = absurd (omega (arith, none))

-- a line that is left
line_left : (bytes : Bytes) → 0 < length bytes → (l : Bytes) × (more : List Bytes) × (lines_of bytes ≡ l ∷ more)
line_left bytes some = first (lines_of bytes) (lines_joined bytes)
  where
    first : (ls : List Bytes) → concat ls ≡ bytes → (l : Bytes) × (more : List Bytes) × (ls ≡ l ∷ more)
    first [] e = absurd (omega (arith, ap length e))
    first (l ∷ more) e = (l, more, refl)

pub trailing_fault : (bytes rest : Bytes) (c : CertOf) (n : ℕ) → cert_read true (lines_of bytes) ≡ Ok (c, lines_of rest) → 0 < length rest → n + length (lines_of rest) ≡ suc (length (lines_of bytes)) → IsTextFault bytes (NotCert n)
trailing_fault bytes rest c n e some k =
    let l = line_left rest some in
    is_not_cert_after bytes c l.0 l.1 n (e ∙ ap (λ (z : List Bytes). whole c z) l.2) (ap (λ (z : List Bytes). n + length z) (sym l.2) ∙ k)
  where
    whole : CertOf → List Bytes → Result (CertOf × List Bytes) (List Bytes)
    whole c z = Ok (c, z)

-- a certificate of few lines keeps the rules
pub cert_made : (bytes : Bytes) (ls : List Bytes) (c : CertOf) → length bytes < 2 ^ 32 → cert_read true (lines_of bytes) ≡ Ok (c, ls) → IsCert c
cert_made bytes ls c small e =
    let h = (cert_form true).exact.sound (lines_of bytes) ls c e in
    let few : line_count c < 2 ^ 32 = omega (arith, as_many_lines c h.0, ap length h.1, length-append (cert_lines c) ls, lines_fit bytes) in
    cert_told c h.0 few
