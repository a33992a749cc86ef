-- The lines of a certificate by their numbers.
use Rattle.std.proofs.Common.{◌≡◌, ℕ, zero, suc, ◌+◌, ◌++◌, List, [], ◌∷◌, length, map, take, slice_get, Some, true, refl, sym, ap, ap₂, ◌∙◌, subst, append_assoc, arith}
use Rattle.std.specs.List.{zip}
use Rattle.std.proofs.lemmas.List.{append-nil, length-append, length-map}
use Rattle.std.proofs.lemmas.Option.{none-some, same_Some, slice_get_past}
use Rattle.zr_game.specs.Named.{NamedOf}
use Rattle.zr_tree.specs.Nodes.{NodeOf}
use Rattle.zr_cases.specs.Cases.{BNodeOf, RNodeOf}
use Rattle.zr_cert.specs.Certs.{BoundOf, BoxVerdict, CertOf, CoverVerdict, EmptyVerdict, MixtureOf, ProfileVerdict, VerdictOf}
use Rattle.zr_cert.specs.Lines.{bound_lines as bound_count, line_count, mixture_lines as mixture_count, named_lines as named_count, sum_lines, tree_lines}
use Rattle.zr_cert.specs.Places.{case_line_number, cost_line_number, cover_line_number, player_line_number}
use Rattle.zr_form.specs.Reading.{Bytes, spell_from}
use Rattle.zr_lines.specs.Spelling.{box_line, case_line, named_line, named_lines, node_line}
use Rattle.zr_text.specs.Fits.{Fits, FitsVerdict}
use Rattle.zr_text.specs.Numbered.{StandFrom, line_at}
use Rattle.zr_text.specs.Spelling.{body_lines, bound_lines, cert_lines, cover_lines, end_line, form_line, kind_line, strategy_lines, text_of, verdict_line}
use Rattle.zr_text.proofs.Counts.{as_many_lines, lines_of_all, lines_of_bound, lines_of_covers, lines_of_strategy}
use Rattle.zr_text.proofs.Top.{text_lines}

-- an empty list has no item
no_line : {X : Type 0} (k : ℕ) (x : X) → (λ (xs : List X). slice_get xs k ≡ Some x) [] → ⊥
no_line k x e = none-some x (sym (slice_get_past [] k (omega arith)) ∙ e)

-- so many lines come before these
pub record Within (whole : List Bytes) (before : ℕ) (lines : List Bytes) : Type 0 where
  pub front : List Bytes
  pub back : List Bytes
  pub cut : whole ≡ front ++ (lines ++ back)
  pub size : length front ≡ before

read_front : (lines back : List Bytes) (k : ℕ) (line : Bytes) → slice_get lines k ≡ Some line
    → slice_get (lines ++ back) k ≡ Some line
read_front [] back k line e = absurd (no_line {X = Bytes} k line e)
read_front (l ∷ lines) back zero line e = e
read_front (l ∷ lines) back (suc k) line e = read_front lines back k line e

read_past : (front lines : List Bytes) (k : ℕ)
    → slice_get (front ++ lines) (length front + k) ≡ slice_get lines k
read_past [] lines k =
    let e : length {A = Bytes} [] + k ≡ k = omega arith in
    ap (λ (n : ℕ). slice_get lines n) e
read_past (l ∷ front) lines k =
    let e : length (l ∷ front) + k ≡ suc (length front + k) = omega arith in
    ap (λ (n : ℕ). slice_get (l ∷ (front ++ lines)) n) e ∙ read_past front lines k

-- they are read by their numbers
within_reads : (whole : List Bytes) (before : ℕ) (lines : List Bytes) → Within whole before lines
    → (k : ℕ) (line : Bytes) → slice_get lines k ≡ Some line
    → slice_get whole (before + k) ≡ Some line
within_reads whole before lines w k line e =
    ap (λ (ls : List Bytes). slice_get ls (before + k)) w.cut
    ∙ ap (λ (n : ℕ). slice_get (w.front ++ (lines ++ w.back)) (n + k)) (sym w.size)
    ∙ read_past w.front (lines ++ w.back) k
    ∙ read_front lines w.back k line e

-- part of a part is a part
within_part : (whole : List Bytes) (before inner : ℕ) (part lines : List Bytes)
    → Within whole before part → Within part inner lines → Within whole (before + inner) lines
within_part whole before inner part lines w p = record {
  front = w.front ++ p.front;
  back = p.back ++ w.back;
  cut = w.cut ∙ ap (λ (ls : List Bytes). w.front ++ (ls ++ w.back)) p.cut ∙ regroup;
  size = length-append w.front p.front ∙ ap (λ (n : ℕ). n + length p.front) w.size
      ∙ ap (λ (n : ℕ). before + n) p.size;
}
  where
    regroup : w.front ++ ((p.front ++ (lines ++ p.back)) ++ w.back)
        ≡ (w.front ++ p.front) ++ (lines ++ (p.back ++ w.back))
    regroup =
        ap (λ (ls : List Bytes). w.front ++ ls)
        (append_assoc p.front (lines ++ p.back) w.back
        ∙ ap (λ (ls : List Bytes). p.front ++ ls) (append_assoc lines p.back w.back))
        ∙ sym (append_assoc w.front p.front (lines ++ (p.back ++ w.back)))

within_front : (lines back : List Bytes) → Within (lines ++ back) 0 lines
within_front lines back = record { front = []; back = back; cut = refl; size = refl }

within_back : (front lines : List Bytes) → Within (front ++ lines) (length front) lines
within_back front lines = record {
  front = front;
  back = [];
  cut = ap (λ (ls : List Bytes). front ++ ls) (sym (append-nil lines));
  size = refl;
}

within_same : (whole : List Bytes) (m n : ℕ) (lines others : List Bytes) → Within whole m lines
    → m ≡ n → lines ≡ others → Within whole n others
within_same whole m n lines others w e same = record {
  front = w.front;
  back = w.back;
  cut = w.cut ∙ ap (λ (ls : List Bytes). w.front ++ (ls ++ w.back)) same;
  size = w.size ∙ e;
}

-- what an item is spelled as, among the items
within_all : {X : Type 0} (spell : ℕ → X → List Bytes) (count : X → ℕ)
    → ((i : ℕ) (x : X) → length (spell i x) ≡ count x)
    → (from : ℕ) (xs : List X) (i : ℕ) (x : X) → slice_get xs i ≡ Some x
    → Within (spell_from spell from xs) (sum_lines count (take i xs)) (spell (from + i) x)
within_all spell count each from [] i x e = absurd (no_line i x e)
within_all spell count each from (y ∷ ys) zero x e =
    let n : from ≡ from + 0 = omega arith in
    within_same (spell_from spell from (y ∷ ys)) 0 0 (spell from y) (spell (from + 0) x)
    (within_front (spell from y) (spell_from spell (suc from) ys)) refl
    (ap₂ spell n (same_Some y x e))
within_all spell count each from (y ∷ ys) (suc i) x e =
    let n : suc from + i ≡ from + suc i = omega arith in
    let later = within_all spell count each (suc from) ys i x e in
    within_same (spell_from spell from (y ∷ ys))
    (length (spell from y) + sum_lines count (take i ys)) (count y + sum_lines count (take i ys))
    (spell (suc from + i) x) (spell (from + suc i) x)
    (within_part (spell_from spell from (y ∷ ys)) (length (spell from y))
    (sum_lines count (take i ys)) (spell_from spell (suc from) ys) (spell (suc from + i) x)
    (within_back (spell from y) (spell_from spell (suc from) ys)) later)
    (ap (λ (z : ℕ). z + sum_lines count (take i ys)) (each from y))
    (ap (λ (z : ℕ). spell z x) n)

-- ---- covers, each with its points and rays

abbrev cover_count : List NodeOf × List NamedOf → ℕ
cover_count c = tree_lines c.0 + named_count c.1

lines_of_cover : (i : ℕ) (c : List NodeOf × List NamedOf) → length (cover_lines i c) ≡ cover_count c
lines_of_cover i c =
    omega (
      arith,
      length-append (map node_line c.0) (named_lines c.1),
      length-map c.0 node_line,
      length-map c.1 named_line,
    )

-- the same, numbered from 0
within_item : {X : Type 0} (spell : ℕ → X → List Bytes) (count : X → ℕ)
    → ((i : ℕ) (x : X) → length (spell i x) ≡ count x)
    → (xs : List X) (i : ℕ) (x : X) → slice_get xs i ≡ Some x
    → Within (spell_from spell 0 xs) (sum_lines count (take i xs)) (spell i x)
within_item spell count each xs i x e =
    let z : 0 + i ≡ i = omega arith in
    subst (λ (n : ℕ). Within (spell_from spell 0 xs) (sum_lines count (take i xs)) (spell n x)) z
    (within_all spell count each 0 xs i x e)

zip_reads : (covers : List (List NodeOf)) (named : List (List NamedOf)) (i : ℕ)
    → (cover : List NodeOf) (items : List NamedOf)
    → slice_get covers i ≡ Some cover → slice_get named i ≡ Some items
    → slice_get (zip covers named) i ≡ Some (cover, items)
zip_reads [] named i cover items c n = absurd (no_line i cover c)
zip_reads (x ∷ covers) [] i cover items c n = absurd (no_line i items n)
zip_reads (x ∷ covers) (y ∷ named) zero cover items c n =
    ap₂ (λ (a : List NodeOf) (b : List NamedOf). Some (a, b)) (same_Some x cover c) (same_Some y items n)
zip_reads (x ∷ covers) (y ∷ named) (suc i) cover items c n = zip_reads covers named i cover items c n

zip_sums : (covers : List (List NodeOf)) (named : List (List NamedOf)) (i : ℕ)
    → (cover : List NodeOf) (items : List NamedOf)
    → slice_get covers i ≡ Some cover → slice_get named i ≡ Some items
    → sum_lines cover_count (take i (zip covers named))
    ≡ sum_lines tree_lines (take i covers) + sum_lines named_count (take i named)
zip_sums [] named i cover items c n = absurd (no_line i cover c)
zip_sums (x ∷ covers) [] i cover items c n = absurd (no_line i items n)
zip_sums (x ∷ covers) (y ∷ named) zero cover items c n = refl
zip_sums (x ∷ covers) (y ∷ named) (suc i) cover items c n =
    let h = zip_sums covers named i cover items c n in omega (arith, h)

-- ---- the lines of a certificate

within_body : (c : CertOf) → Within (cert_lines c) 3 (body_lines c.verdict)
within_body c = record {
  front = form_line ∷ kind_line c.kind c.players ∷ verdict_line c.verdict ∷ [];
  back = end_line ∷ [];
  cut = refl;
  size = refl;
}

stands : (c : CertOf) → Fits true c → (before n : ℕ) → n ≡ suc before → (lines : List Bytes)
    → Within (cert_lines c) before lines → StandFrom (text_of c) n lines
stands c fits before n e lines w k line at =
    let z : n + k ≡ suc (before + k) = omega (arith, e) in
    ap (line_at (text_of c)) z
    ∙ ap (λ (ls : List Bytes). slice_get ls (before + k)) (text_lines true c fits)
    ∙ within_reads (cert_lines c) before lines w k line at

-- lines of what shows the verdict
body_stands : (c : CertOf) → Fits true c → (v : VerdictOf) → c.verdict ≡ v
    → (inner n : ℕ) → n ≡ 4 + inner → (lines : List Bytes) → Within (body_lines v) inner lines
    → StandFrom (text_of c) n lines
body_stands c fits v is inner n e lines w =
    let own : Within (body_lines c.verdict) inner lines =
    subst (λ (u : VerdictOf). Within (body_lines u) inner lines) (sym is) w in
    let z : n ≡ suc (3 + inner) = omega (arith, e) in
    stands c fits (3 + inner) n z lines
    (within_part (cert_lines c) 3 inner (body_lines c.verdict) lines (within_body c) own)

pub heading_stands : (c : CertOf) → Fits true c
    → StandFrom (text_of c) 1 (form_line ∷ kind_line c.kind c.players ∷ verdict_line c.verdict ∷ [])
heading_stands c fits =
    stands c fits 0 1 refl (form_line ∷ kind_line c.kind c.players ∷ verdict_line c.verdict ∷ [])
    (record { front = []; back = body_lines c.verdict ++ end_line ∷ []; cut = refl; size = refl })

pub end_stands : (c : CertOf) → Fits true c → StandFrom (text_of c) (line_count c) (end_line ∷ [])
end_stands c fits =
    let body = length-append (body_lines c.verdict) (end_line ∷ []) in
    let n = as_many_lines c fits in
    let z : line_count c ≡ suc (3 + length (body_lines c.verdict)) = omega (arith, n, body) in
    stands c fits (3 + length (body_lines c.verdict)) (line_count c) z (end_line ∷ [])
    (within_part (cert_lines c) 3 (length (body_lines c.verdict))
    (body_lines c.verdict ++ end_line ∷ []) (end_line ∷ [])
    (within_back (form_line ∷ kind_line c.kind c.players ∷ verdict_line c.verdict ∷ [])
    (body_lines c.verdict ++ end_line ∷ []))
    (within_back (body_lines c.verdict) (end_line ∷ [])))

module _ (c : CertOf) (fits : Fits true c) where
  pub player_stands : (mixtures : List MixtureOf) (bounds : List BoundOf)
      → c.verdict ≡ ProfileVerdict mixtures bounds
      → (i : ℕ) (m : MixtureOf) → slice_get mixtures i ≡ Some m
      → StandFrom (text_of c) (player_line_number mixtures i) (strategy_lines i m)
  player_stands mixtures bounds is i m at =
      let inner = sum_lines mixture_count (take i mixtures) in
      body_stands c fits (ProfileVerdict mixtures bounds) is (0 + inner)
      (player_line_number mixtures i) (omega arith) (strategy_lines i m)
      (within_part (body_lines (ProfileVerdict mixtures bounds)) 0 inner
      (spell_from strategy_lines 0 mixtures) (strategy_lines i m)
      (within_front (spell_from strategy_lines 0 mixtures) (spell_from bound_lines 0 bounds))
      (within_item strategy_lines mixture_count lines_of_strategy mixtures i m at))

  pub cost_stands : (mixtures : List MixtureOf) (bounds : List BoundOf)
      → c.verdict ≡ ProfileVerdict mixtures bounds
      → (i : ℕ) (b : BoundOf) → slice_get bounds i ≡ Some b
      → StandFrom (text_of c) (cost_line_number mixtures bounds i) (bound_lines i b)
  cost_stands mixtures bounds is i b at =
      let inner = sum_lines bound_count (take i bounds) in
      let first = spell_from strategy_lines 0 mixtures in
      let count = lines_of_all strategy_lines mixture_count lines_of_strategy 0 mixtures in
      body_stands c fits (ProfileVerdict mixtures bounds) is (length first + inner)
      (cost_line_number mixtures bounds i) (omega (arith, count)) (bound_lines i b)
      (within_part (body_lines (ProfileVerdict mixtures bounds)) (length first) inner
      (spell_from bound_lines 0 bounds) (bound_lines i b)
      (within_back first (spell_from bound_lines 0 bounds))
      (within_item bound_lines bound_count lines_of_bound bounds i b at))

  pub cover_stands : (covers : List (List NodeOf)) (named : List (List NamedOf))
      → (proof : List RNodeOf) → c.verdict ≡ CoverVerdict covers named proof
      → (i : ℕ) (cover : List NodeOf) (items : List NamedOf)
      → slice_get covers i ≡ Some cover → slice_get named i ≡ Some items
      → StandFrom (text_of c) (cover_line_number covers named i) (cover_lines i (cover, items))
  cover_stands covers named proof is i cover items at named_at =
      let pairs = zip covers named in
      let inner = sum_lines cover_count (take i pairs) in
      let sum = zip_sums covers named i cover items at named_at in
      body_stands c fits (CoverVerdict covers named proof) is (0 + inner)
      (cover_line_number covers named i) (omega (arith, sum)) (cover_lines i (cover, items))
      (within_part (body_lines (CoverVerdict covers named proof)) 0 inner
      (spell_from cover_lines 0 pairs) (cover_lines i (cover, items))
      (within_front (spell_from cover_lines 0 pairs) (map case_line proof))
      (within_item cover_lines cover_count lines_of_cover pairs i (cover, items)
      (zip_reads covers named i cover items at named_at)))

  pub cases_stand : (covers : List (List NodeOf)) (named : List (List NamedOf))
      → (proof : List RNodeOf) → c.verdict ≡ CoverVerdict covers named proof
      → StandFrom (text_of c) (case_line_number covers named) (map case_line proof)
  cases_stand covers named proof is =
      let first = spell_from cover_lines 0 (zip covers named) in
      let f : FitsVerdict true c.players (CoverVerdict covers named proof) =
      subst (FitsVerdict true c.players) is fits.verdict in
      let a = f.cover_count in
      let b = f.named_count in
      let count = lines_of_covers 0 covers named (omega (arith, a, b)) in
      body_stands c fits (CoverVerdict covers named proof) is (length first)
      (case_line_number covers named) (omega (arith, count)) (map case_line proof)
      (within_back first (map case_line proof))

  pub tree_stands : (i : ℕ) (tree : List NodeOf) → c.verdict ≡ EmptyVerdict i tree
      → StandFrom (text_of c) 4 (map node_line tree)
  tree_stands i tree is =
      body_stands c fits (EmptyVerdict i tree) is 0 4 refl (map node_line tree)
      (record { front = []; back = []; cut = sym (append-nil (map node_line tree)); size = refl })

  pub boxes_stand : (nodes : List BNodeOf) → c.verdict ≡ BoxVerdict nodes
      → StandFrom (text_of c) 4 (map box_line nodes)
  boxes_stand nodes is =
      body_stands c fits (BoxVerdict nodes) is 0 4 refl (map box_line nodes)
      (record { front = []; back = []; cut = sym (append-nil (map box_line nodes)); size = refl })
