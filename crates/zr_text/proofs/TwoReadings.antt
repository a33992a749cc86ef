-- One list is read by two readers. What the first one reads, the second one reads, and it may read more.
use Rattle.std.proofs.Common.{◌≡◌, ◌<◌, ◌≤◌, ◌⊎◌, inl, inr, List, [], ◌∷◌, ◌++◌, length, take, Result, Ok, Err, sym, refl, ap, ◌∙◌, arith, append_assoc}
use Rattle.std.proofs.lemmas.Bool.{cases_lt}
use Rattle.std.proofs.lemmas.List.{append-nil, length-append}
use Rattle.zr_form.specs.Reading.{Bytes, Read}
use Rattle.zr_form.proofs.Forms.{IsForm, Stops, ok_is}
use Rattle.zr_form.proofs.Lines.{IsLine}

-- what is left where reading ends
abbrev pub left_over : {X : Type 0} → Result (X × List Bytes) (List Bytes) → List Bytes
left_over (Ok x) = x.1
left_over (Err rest) = rest

-- the longer of two fronts begins with the other
longer_front : (a b x y : List Bytes) → a ++ x ≡ b ++ y → length b ≤ length a → (mid : List Bytes) × (a ≡ b ++ mid) × (mid ++ x ≡ y)
longer_front a [] x y e le = (a, refl, e)
longer_front [] (m ∷ b) x y e le = absurd (omega (arith, le))
longer_front (l ∷ a) (m ∷ b) x y e le = both l m a b x y (cc) (longer_front a b x y (cc) (omega (arith, le)))
  where
    both : (l m : Bytes) (a b x y : List Bytes) → l ≡ m → (mid : List Bytes) × (a ≡ b ++ mid) × (mid ++ x ≡ y) → (mid : List Bytes) × (l ∷ a ≡ m ∷ (b ++ mid)) × (mid ++ x ≡ y)
    both l m a b x y p r = (r.0, ap (λ (z : Bytes). z ∷ a) p ∙ ap (λ (z : List Bytes). m ∷ z) r.1, r.2)

no_rest : (mid : List Bytes) (l : Bytes) (ls : List Bytes) → [] ≡ mid ++ l ∷ ls → ⊥
no_rest [] l ls e = cc
no_rest (m ∷ mid) l ls e = cc

no_mid : (mid rest far : List Bytes) → mid ++ rest ≡ far → length far ≡ length rest → far ≡ rest
no_mid [] rest far e n = sym e
no_mid (m ∷ mid) rest far e n = absurd (omega (arith, ap length e, length-append mid rest, n))

module _ {X : Type 0} (F G : X → Type 0) (spell : X → List Bytes) (first second : Read X) (f : IsForm IsLine F spell first) (g : IsForm IsLine G spell second) (to : (x : X) → F x → G x) where
  abbrev refused : List Bytes → Result (X × List Bytes) (List Bytes)
  refused z = Err z

  -- what the first one reads the second one reads
  pub both_read : (ls rest : List Bytes) (x : X) → first ls ≡ Ok (x, rest) → second ls ≡ Ok (x, rest)
  both_read ls rest x e =
      let h = f.exact.sound ls rest x e in
      ap second h.1 ∙ g.exact.again x rest (to x h.0)

  -- nothing is spelled as the beginning of another thing
  no_beginning : (x y : X) (mid : List Bytes) (l : Bytes) (ls : List Bytes) → G x → G y → spell y ≡ spell x ++ (mid ++ l ∷ ls) → ⊥
  no_beginning x y mid l ls gx gy e =
      let one : second (spell y ++ []) ≡ Ok (y, []) = g.exact.again y [] gy in
      let two : second (spell x ++ (mid ++ l ∷ ls)) ≡ Ok (x, mid ++ l ∷ ls) = g.exact.again x (mid ++ l ∷ ls) gx in
      let same : spell y ++ [] ≡ spell x ++ (mid ++ l ∷ ls) = append-nil (spell y) ∙ e in
      let both : (y, []) ≡ (x, mid ++ l ∷ ls) = ok_is {A = X × List Bytes} (y, []) (x, mid ++ l ∷ ls) (sym one ∙ ap second same ∙ two) in
      no_rest mid l ls (ap (λ (q : X × List Bytes). q.1) both)

  opened : (s : List Bytes) (front mid more : List Bytes) → s ≡ front ++ mid → s ++ more ≡ front ++ (mid ++ more)
  opened s front mid more e = ap (λ (z : List Bytes). z ++ more) e ∙ append_assoc front mid more

  ends_beyond : (ls rest over : List Bytes) (x : X) → Stops F spell ls rest → second ls ≡ Ok (x, over) → length rest ≤ length over → ⊥
  ends_beyond ls rest over x s e le =
      let h = g.exact.sound ls over x e in
      let same : s.front ++ rest ≡ spell x ++ over = sym s.parts ∙ h.1 in
      let n : length (spell x) ≤ length s.front = omega (arith, ap length same, length-append s.front rest, length-append (spell x) over) in
      let m = longer_front s.front (spell x) rest over same n in
      no_beginning x s.item m.0 s.next s.more h.0 (to s.item s.fits) (s.opens ∙ opened s.front (spell x) m.0 (s.next ∷ s.more) m.1)

  stops_before : (ls rest far : List Bytes) → Stops F spell ls rest → Stops G spell ls far → length rest < length far → ⊥
  stops_before ls rest far s t lt =
      let same : s.front ++ rest ≡ t.front ++ far = sym s.parts ∙ t.parts in
      let n : length t.front ≤ length s.front = omega (arith, ap length same, length-append s.front rest, length-append t.front far) in
      let m = longer_front s.front t.front rest far same n in
      let spelled : spell s.item ++ [] ≡ t.front ++ (m.0 ++ s.next ∷ s.more) = append-nil (spell s.item) ∙ s.opens ∙ opened s.front t.front m.0 (s.next ∷ s.more) m.1 in
      t.shut s.item [] (m.0 ++ s.next ∷ s.more) (to s.item s.fits) spelled (first_same m.0 rest far s.next s.more m.2 lt)
    where
      first_same : (mid rest far : List Bytes) (l : Bytes) (ls : List Bytes) → mid ++ rest ≡ far → length rest < length far → take 1 (mid ++ l ∷ ls) ≡ take 1 far
      first_same [] rest far l ls e lt = absurd (omega (arith, ap length e))
      first_same (m ∷ mid) rest far l ls e lt = ap (take 1) e

  -- Where the first reader stops the second one stops too, or it goes beyond that place.
  pub goes_beyond : (ls rest : List Bytes) → first ls ≡ Err rest → (second ls ≡ Err rest) ⊎ (length (left_over (second ls)) < length rest)
  goes_beyond ls rest e = which (second ls) refl (f.stops ls rest e)
    where
      stays : (far : List Bytes) → second ls ≡ Err far → Stops F spell ls rest → Stops G spell ls far → length far ≡ length rest → second ls ≡ Err rest
      stays far d s t n =
          let same : s.front ++ rest ≡ t.front ++ far = sym s.parts ∙ t.parts in
          let le : length t.front ≤ length s.front = omega (arith, ap length same, length-append s.front rest, length-append t.front far) in
          let m = longer_front s.front t.front rest far same le in
          d ∙ ap refused (no_mid m.0 rest far m.2 n)

      which : (r : Result (X × List Bytes) (List Bytes)) → second ls ≡ r → Stops F spell ls rest → (second ls ≡ Err rest) ⊎ (length (left_over r) < length rest)
      which (Ok x) d s = elim (cases_lt (length x.1) (length rest)) [
        | inl lt ↦ inr lt
        | inr ge ↦ absurd (ends_beyond ls rest x.1 x.0 s d ge)
      ]
      which (Err far) d s = elim (cases_lt (length far) (length rest)) [
        | inl lt ↦ inr lt
        | inr ge ↦ elim (cases_lt (length rest) (length far)) [
          | inl lt ↦ absurd (stops_before ls rest far s (g.stops ls far d) lt)
          | inr le ↦ inl (stays far d s (g.stops ls far d) (omega arith))
        ]
      ]
