-- Texts of lists that are written item by item.
use Rattle.std.proofs.Common.{◌≡◌, ℕ, suc, ◌+◌, ◌-◌, ℤ, pos, negsuc, List, [], ◌∷◌, ◌++◌, map, length, replicate, codes, refl, ap, ◌∙◌, sym, append_assoc, arith}
use Rattle.std.specs.Global.{Vec}
use Rattle.std.proofs.lemmas.List.{append-nil, map_push}
use Rattle.zr_game.specs.declared.choice.Choice.{Choice}
use Rattle.zr_game.specs.declared.named.Named.{Named}
use Rattle.zr_game.specs.Named.{NamedOf}
use Rattle.zr_asked.specs.declared.question.Move.{Move}
use Rattle.zr_cert.specs.Certs.{named_list}
use Rattle.zr_form.specs.Lines.{concat, spaced}
use Rattle.zr_form.specs.Numbers.{decimal, signed}
use Rattle.zr_form.specs.Reading.{Bytes, spell_from}
use Rattle.zr_base.specs.Points.{PointOf}
use Rattle.zr_lines.specs.Spelling.{named_lines, point_fields}
use Rattle.zr_text.proofs.Putting.{Grows, blocks_grow, lines_grow, numbers_grow, two_lists_written}
use Rattle.zr_report.specs.declared.answer.Answer.{Answer}
use Rattle.zr_report.specs.declared.answer.Answer.TheVariants.{Below}
use Rattle.zr_report.specs.Spelling.{aim_line, answer_lines, choice_line, choices_aim, move_line}

same_list : {A : Type 0} (xs : List A) → map (λ x. x) xs ≡ xs
same_list [] = refl
same_list (x ∷ xs) = ap (λ ys. x ∷ ys) (same_list xs)

pub answers_grow : Grows (λ (xs : List Answer). concat (spell_from answer_lines 0 xs)) (λ i x. concat (answer_lines i x))
answers_grow = record {
  none = refl;
  more = λ xs x.
      let g = blocks_grow {B = Answer} answer_lines (λ (a : Answer). a) in
      ap (λ (ys : List Answer). concat (spell_from answer_lines 0 ys)) (sym (same_list (xs ++ x ∷ []))) ∙ g.more xs x
      ∙ ap (λ (ys : List Answer). concat (spell_from answer_lines 0 ys) ++ concat (answer_lines (length xs) x)) (same_list xs);
}

line_list : {A : Type 0} (line : A → Bytes) → Grows (λ (xs : List A). concat (map line xs)) (λ i x. line x)
line_list {A} line = record {
  none = refl;
  more = λ xs x.
      let g = lines_grow {B = A} line (λ (a : A). a) in
      ap (λ (ys : List A). concat (map line ys)) (sym (same_list (xs ++ x ∷ []))) ∙ g.more xs x
      ∙ ap (λ (ys : List A). concat (map line ys) ++ line x) (same_list xs);
}

pub moves_grow : Grows (λ (xs : List Move). concat (map move_line xs)) (λ i x. move_line x)
moves_grow = line_list move_line

pub choices_grow : Grows (λ (xs : List Choice). concat (map choice_line xs)) (λ i x. choice_line x)
choices_grow = line_list choice_line

pub named_grow : Grows (λ (xs : List (Vec Named)). concat (spell_from (λ i (items : List NamedOf). named_lines items) 0 (map named_list xs))) (λ i x. concat (named_lines (named_list x)))
named_grow = blocks_grow (λ i items. named_lines items) named_list

spaced_more : (xs : List ℕ) (x : ℕ) → spaced (map decimal (xs ++ x ∷ [])) ≡ spaced (map decimal xs) ++ 32 ∷ decimal x
spaced_more [] x = ap (λ (z : Bytes). 32 ∷ z) (append-nil (decimal x))
spaced_more (y ∷ xs) x =
    ap (λ (z : Bytes). 32 ∷ (decimal y ++ z)) (spaced_more xs x)
    ∙ ap (λ (z : Bytes). 32 ∷ z) (sym (append_assoc (decimal y) (spaced (map decimal xs)) (32 ∷ decimal x)))

pub columns_grow : Grows (λ (xs : List ℕ). spaced (map decimal xs)) (λ i x. 32 ∷ decimal x)
columns_grow = record { none = refl; more = spaced_more }

-- the aim of a question of choices, piece by piece
pub aim_pieces : (n : ℕ) (start a b c d : Bytes) → a ≡ start ++ codes "aim"
    → b ≡ a ++ spaced (map signed (replicate (n - 1) (pos 0))) → c ≡ b ++ 32 ∷ signed (negsuc 0)
    → d ≡ c ++ 10 ∷ [] → d ≡ start ++ aim_line (choices_aim n)
aim_pieces n start a b c d e f g h =
    let zeros = replicate (n - 1) (pos 0) in
    let all = numbers_grow.more zeros (negsuc 0) in
    h ∙ ap (λ (z : Bytes). z ++ 10 ∷ []) (g ∙ ap (λ (z : Bytes). z ++ 32 ∷ signed (negsuc 0)) (f ∙ ap (λ (z : Bytes). z ++ spaced (map signed zeros)) e))
    ∙ regroup start (codes "aim") (spaced (map signed zeros)) (32 ∷ signed (negsuc 0)) (10 ∷ [])
    ∙ ap (λ (z : Bytes). start ++ ((codes "aim" ++ z) ++ 10 ∷ [])) (sym all)
  where
    regroup : (s w x y z : Bytes) → (((s ++ w) ++ x) ++ y) ++ z ≡ s ++ ((w ++ (x ++ y)) ++ z)
    regroup s w x y z = simp append_assoc

-- the line of a ray, piece by piece
pub below_written : (start : Bytes) (i : ℕ) (base : PointOf) (dir : Vec ℤ) (a b x y end : Bytes)
    → a ≡ start ++ codes "below" → b ≡ a ++ 32 ∷ decimal i → x ≡ b ++ spaced (point_fields base)
    → y ≡ x ++ spaced (map signed dir.items) → end ≡ y ++ 10 ∷ []
    → end ≡ start ++ concat (answer_lines i (Below base dir))
below_written start i base dir a b x y end e f g h k =
    let word : b ≡ start ++ (codes "below" ++ 32 ∷ decimal i) =
    f ∙ ap (λ (z : Bytes). z ++ 32 ∷ decimal i) e ∙ append_assoc start (codes "below") (32 ∷ decimal i) in
    let line = two_lists_written start (codes "below" ++ 32 ∷ decimal i) (point_fields base) (map signed dir.items) b x y end word g h k in
    line ∙ ap (λ (z : Bytes). start ++ z) (sym (append-nil _))

-- ---- fields two by two

pub two_pairs : (start f g h k x y : Bytes) → x ≡ start ++ spaced (f ∷ g ∷ []) → y ≡ x ++ spaced (h ∷ k ∷ [])
    → y ≡ start ++ spaced (f ∷ g ∷ h ∷ k ∷ [])
two_pairs start f g h k x y e d =
    d ∙ ap (λ (z : Bytes). z ++ spaced (h ∷ k ∷ [])) e ∙ append_assoc start (spaced (f ∷ g ∷ [])) (spaced (h ∷ k ∷ []))
    ∙ ap (λ (z : Bytes). start ++ z) (spaced_pairs f g h k)
  where
    spaced_pairs : (f g h k : Bytes) → spaced (f ∷ g ∷ []) ++ spaced (h ∷ k ∷ []) ≡ spaced (f ∷ g ∷ h ∷ k ∷ [])
    spaced_pairs f g h k = simp (append_assoc, append-nil)

pub four_fields : (start word f g h k a b c d : Bytes) → a ≡ start ++ word → b ≡ a ++ spaced (f ∷ g ∷ [])
    → c ≡ b ++ spaced (h ∷ k ∷ []) → d ≡ c ++ 10 ∷ [] → d ≡ start ++ ((word ++ spaced (f ∷ g ∷ h ∷ k ∷ [])) ++ 10 ∷ [])
four_fields start word f g h k a b c d e p q r =
    let pair = two_pairs a f g h k b c p q in
    r ∙ ap (λ (z : Bytes). z ++ 10 ∷ []) (pair ∙ ap (λ (z : Bytes). z ++ spaced (f ∷ g ∷ h ∷ k ∷ [])) e
    ∙ append_assoc start word (spaced (f ∷ g ∷ h ∷ k ∷ []))) ∙ append_assoc start (word ++ spaced (f ∷ g ∷ h ∷ k ∷ [])) (10 ∷ [])

-- a line, and a text after it
pub piece_after : (start line text a piece b : Bytes) → a ≡ start ++ line → piece ≡ text → b ≡ a ++ piece
    → b ≡ start ++ (line ++ text)
piece_after start line text a piece b e f g =
    g ∙ ap (λ (z : Bytes). a ++ z) f ∙ ap (λ (z : Bytes). z ++ text) e ∙ append_assoc start line text
