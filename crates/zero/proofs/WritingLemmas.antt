-- What was written by one call after another, each of which may have failed.
use Rattle.std.proofs.Common.{◌≡◌, ℕ, ◌++◌, length, Option, Result, Ok, Err, OnOk, OnErr, ◌∷◌, [], codes, refl, sym, ap, ◌∙◌, subst, append_assoc, arith}
use Rattle.std.proofs.lemmas.List.{take_all, take-append-le, length-append}
use Rattle.zr_form.specs.Numbers.{decimal}
use Rattle.zr_io.specs.Contents.{Bytes}
use Rattle.zero.specs.declared.refusal.CertFlaw.{CertFlaw}
use Rattle.zero.specs.declared.text.Text.{Text}
use Rattle.zr_io.specs.Written.{Appends, AppendsPrefix}
use Rattle.zr_value.specs.Faults.{fault_name}
use Rattle.zr_value.specs.declared.fault.GameFault.{GameFault}
use Rattle.zr_value.specs.declared.fault.GameFault.TheVariants.{NotJson, Format, Missing, Kind, NotWhole, TooBig, BadName, Twice, UnknownName, PairLow, OwnCross, Count}
use Rattle.zr_report.specs.declared.end.End.TheVariants as ends
use Rattle.zero.specs.Messages.{end_line, excess, message, fault_line, fault_text, flaw_line, flaw_name, long_line, open_line}
use Rattle.zr_io.proofs.AppendsLemmas.{appends_append, appends_prefix_append}

-- a prefix of a piece is one of the piece and another
pub longer_prefix : (a c : Option Bytes) (p q : Bytes) → AppendsPrefix a p c → AppendsPrefix a (p ++ q) c
longer_prefix a c p q h = (h.0, omega (arith, h.1, length-append p q), rw (take-append-le h.0 p q h.1) h.2)

-- a prefix of the first piece is one of the line
pub first_prefix : (a c : Option Bytes) (p q w : Bytes) → p ++ q ≡ w → AppendsPrefix a p c → AppendsPrefix a w c
first_prefix a c p q w join h = subst (λ v. AppendsPrefix a v c) join (longer_prefix a c p q h)

module _ {T E : Type 0} (a b c : Option Bytes) (p q w : Bytes) (join : p ++ q ≡ w) (r : Result T E) where
  -- a piece was written, and then another
  pub ok_then : Appends a p b → OnOk r (Appends b q c) → OnOk r (Appends a w c)
  ok_then = then r
    where
      then : (r : Result T E) → Appends a p b → OnOk r (Appends b q c) → OnOk r (Appends a w c)
      then (Ok x) front next = subst (λ v. Appends a v c) join (appends_append a b c p q front next)
      then (Err e) front next = tt

  pub err_then : Appends a p b → OnErr r (AppendsPrefix b q c) → OnErr r (AppendsPrefix a w c)
  err_then = then r
    where
      then : (r : Result T E) → Appends a p b → OnErr r (AppendsPrefix b q c) → OnErr r (AppendsPrefix a w c)
      then (Ok x) front next = tt
      then (Err e) front next = subst (λ v. AppendsPrefix a v c) join (appends_prefix_append a b c p q front next)

-- the same piece in other words
pub ok_same : {T E : Type 0} (a c : Option Bytes) (p w : Bytes) (r : Result T E) → p ≡ w → OnOk r (Appends a p c) → OnOk r (Appends a w c)
ok_same a c p w r e h = subst (λ v. OnOk r (Appends a v c)) e h

pub err_same : {T E : Type 0} (a c : Option Bytes) (p w : Bytes) (r : Result T E) → p ≡ w → OnErr r (AppendsPrefix a p c) → OnErr r (AppendsPrefix a w c)
err_same a c p w r e h = subst (λ v. OnErr r (AppendsPrefix a v c)) e h

-- as far as it was written, with an error or without one
pub line_written : {T E : Type 0} (a c : Option Bytes) (p : Bytes) (r : Result T E) → OnOk r (Appends a p c) → OnErr r (AppendsPrefix a p c) → AppendsPrefix a p c
line_written a c p (Ok x) ok err = (length p, omega arith, rw (take_all (length p) p (omega arith)) ok)
line_written a c p (Err e) ok err = err

-- what stands after any error
pub on_err : {T E : Type 0} (r : Result T E) (P : Type 0) → P → OnErr r P
on_err (Ok x) P h = tt
on_err (Err e) P h = h

-- ---- the line of a fault

pub fault_text_else : (fault : GameFault) (path : Bytes) → (fault ≡ NotJson → ⊥) → fault_text fault path ≡ fault_name fault ++ 32 ∷ path
fault_text_else NotJson path h = absurd (h refl)
fault_text_else Format path h = refl
fault_text_else Missing path h = refl
fault_text_else Kind path h = refl
fault_text_else NotWhole path h = refl
fault_text_else TooBig path h = refl
fault_text_else BadName path h = refl
fault_text_else Twice path h = refl
fault_text_else UnknownName path h = refl
fault_text_else PairLow path h = refl
fault_text_else OwnCross path h = refl
fault_text_else Count path h = refl

rejoin : (a n s p e : Bytes) → ((a ++ n) ++ s) ++ (p ++ e) ≡ (a ++ (n ++ (s ++ p))) ++ e
rejoin a n s p e = simp append_assoc

-- the line in the two pieces that are written
pub fault_pieces : (fault : GameFault) (path name : Bytes) → (fault ≡ NotJson → ⊥) → name ≡ fault_name fault
    → ((codes "zero: game: " ++ name) ++ 32 ∷ []) ++ (path ++ 10 ∷ []) ≡ fault_line fault path
fault_pieces fault path name other e =
    ap (λ n. ((codes "zero: game: " ++ n) ++ 32 ∷ []) ++ (path ++ 10 ∷ [])) e
    ∙ rejoin (codes "zero: game: ") (fault_name fault) (32 ∷ []) path (10 ∷ [])
    ∙ ap message (ap (λ t. codes "game: " ++ t) (sym (fault_text_else fault path other)))

-- ---- the line of a text that is too long

joined : (a n b e : Bytes) → (a ++ n) ++ (b ++ e) ≡ (a ++ (n ++ b)) ++ e
joined a n b e = simp append_assoc

pub long_pieces : (text : Text) (name : Bytes) → (codes "zero: " ++ name) ++ (excess text ++ 10 ∷ []) ≡ long_line text name
long_pieces text name = joined (codes "zero: ") name (excess text) (10 ∷ [])

-- ---- the line of a refused certificate

in_two : (a d c n e : Bytes) → (a ++ d) ++ ((c ++ n) ++ e) ≡ a ++ (((d ++ c) ++ n) ++ e)
in_two a d c n e = simp append_assoc

in_one : (a d c n e : Bytes) → a ++ (d ++ ((c ++ n) ++ e)) ≡ a ++ (((d ++ c) ++ n) ++ e)
in_one a d c n e = simp append_assoc

-- the line as what is written first and second, and then the last piece
pub flaw_pieces : (number : ℕ) (flaw : CertFlaw) (name : Bytes) → name ≡ flaw_name flaw → (codes "zero: certificate: line " ++ decimal number) ++ ((codes ": " ++ name) ++ 10 ∷ []) ≡ flaw_line number flaw
flaw_pieces number flaw name e =
    ap (λ n. (codes "zero: certificate: line " ++ decimal number) ++ ((codes ": " ++ n) ++ 10 ∷ [])) e
    ∙ in_two (codes "zero: certificate: line ") (decimal number) (codes ": ") (flaw_name flaw) (10 ∷ [])

-- the line as what is written first, and all the rest
pub flaw_start : (number : ℕ) (flaw : CertFlaw) → codes "zero: certificate: line " ++ (decimal number ++ ((codes ": " ++ flaw_name flaw) ++ 10 ∷ [])) ≡ flaw_line number flaw
flaw_start number flaw = in_one (codes "zero: certificate: line ") (decimal number) (codes ": ") (flaw_name flaw) (10 ∷ [])

-- ---- the line of an end

number_in_two : (a d s e : Bytes) → (a ++ d) ++ (s ++ e) ≡ a ++ ((d ++ s) ++ e)
number_in_two a d s e = simp append_assoc

pub budget_pieces : (limit : ℕ)
    → (codes "zero: budget of " ++ decimal limit) ++ codes " spent\n" ≡ end_line (ends.Budget limit)
budget_pieces limit =
    number_in_two (codes "zero: budget of ") (decimal limit) (codes " spent") (10 ∷ [])

pub large_pieces : (n : ℕ)
    → (codes "zero: too large: " ++ decimal n) ++ codes "\n" ≡ message (codes "too large: " ++ decimal n)
large_pieces n = append_assoc (codes "zero: too large: ") (decimal n) (10 ∷ [])

open_in_two : (a d v w e : Bytes) → ((a ++ d) ++ v) ++ (w ++ e) ≡ a ++ (((d ++ v) ++ w) ++ e)
open_in_two a d v w e = simp append_assoc

pub open_pieces : (player var : ℕ)
    → ((codes "zero: open: player " ++ decimal player) ++ codes " variable ")
    ++ ((codes "" ++ decimal var) ++ codes "\n") ≡ open_line player var
open_pieces player var =
    open_in_two (codes "zero: open: player ") (decimal player) (codes " variable ") (decimal var) (10 ∷ [])
