-- What was read of a text, and how much of it is left.
use Rattle.std.proofs.Common.{◌≡◌, ℕ, ◌+◌, ◌^◌, ◌<◌, ◌≤◌, Bool, true, false, List, [], ◌∷◌, ◌++◌, map, length, Option, Ok, ap, arith}
use Rattle.std.proofs.lemmas.List.{length-append, length-map}
use Rattle.zr_game.specs.Named.{NamedOf}
use Rattle.zr_tree.specs.Form.{IsTree}
use Rattle.zr_tree.specs.Nodes.{NodeOf}
use Rattle.zr_cases.specs.Cases.{BNodeOf, RNodeOf}
use Rattle.zr_cases.specs.Forms.{AreCases, IsBoxTree}
use Rattle.zr_form.specs.declared.fault.ReadError.{ReadError}
use Rattle.zr_form.specs.Lines.{by_fields, concat, lines_of}
use Rattle.zr_form.specs.Reading.{Bytes, Read, items_read, one_read}
use Rattle.zr_form.specs.Stops.{Stopped}
use Rattle.zr_form.proofs.Composing.{Both, Shrinks, form_shrinks, items_shrinks, join_first, join_ok, join_second, lines_fit}
use Rattle.zr_form.proofs.Forms.{IsForm}
use Rattle.zr_form.proofs.Lines.{IsLine, lines_joined}
use Rattle.zr_lines.specs.declared.ends.Ends.{Ends}
use Rattle.zr_lines.specs.Fits.{FitsBoxes, FitsCases, FitsNamedList, FitsTree}
use Rattle.zr_lines.specs.Reader.{boxes_read, cases_read, named_at, named_count_at, named_read, tree_read}
use Rattle.zr_lines.specs.Spelling.{box_line, case_line, named_lines, node_line}
use Rattle.zr_lines.proofs.Boxes.{boxes_form}
use Rattle.zr_lines.proofs.Cases.{cases_form}
use Rattle.zr_lines.proofs.Kept.{boxes_told, cases_told, tree_told}
use Rattle.zr_lines.proofs.Named.{named_form}
use Rattle.zr_lines.proofs.Nodes.{tree_form}
use Rattle.zr_lines.proofs.OtherTests.{one_front}

pub concat_length : (ps qs : List Bytes) → length (concat (ps ++ qs)) ≡ length (concat ps) + length (concat qs)
concat_length [] qs = omega arith
concat_length (p ∷ ps) qs = omega (arith, concat_length ps qs, length-append p (concat (ps ++ qs)), length-append p (concat ps))

-- no more bytes are left than there were
pub left_within : {X : Type 0} (F : X → Type 0) (spell : X → List Bytes) (read : Read X) → IsForm IsLine F spell read → (bytes rest : Bytes) (x : X) → read (lines_of bytes) ≡ Ok (x, lines_of rest) → length rest ≤ length bytes
left_within F spell read form bytes rest x e =
    let h = form.exact.sound (lines_of bytes) (lines_of rest) x e in
    let k : length (concat (lines_of bytes)) ≡ length (concat (spell x ++ lines_of rest)) = ap (λ (z : List Bytes). length (concat z)) h.1 in
    omega (arith, k, concat_length (spell x) (lines_of rest), ap length (lines_joined bytes), ap length (lines_joined rest))

-- one line less is left
pub one_left : {X : Type 0} (one : Bytes → Option X) (bytes rest : Bytes) (x : X) → one_read one (lines_of bytes) ≡ Ok (x, lines_of rest) → length rest ≤ length bytes
one_left one bytes rest x e =
    let h = one_front one (lines_of bytes) (lines_of rest) x e in
    let k : length (concat (lines_of bytes)) ≡ length (concat (h.0 ∷ lines_of rest)) = ap (λ (z : List Bytes). length (concat z)) h.1 in
    omega (arith, k, length-append h.0 (concat (lines_of rest)), ap length (lines_joined bytes), ap length (lines_joined rest))

-- items with a line each are fewer than the bytes
few_lines : {X : Type 0} (line : X → Bytes) (bytes : Bytes) (ls : List Bytes) (items : List X) → length bytes < 2 ^ 32 → lines_of bytes ≡ map line items ++ ls → length items < 2 ^ 32
few_lines line bytes ls items few e = omega (arith, ap length e, length-append (map line items) ls, length-map items line, lines_fit bytes)

-- the nodes that were read are one tree
pub tree_made : (ends : Ends) (bytes : Bytes) (ls : List Bytes) (nodes : List NodeOf) → length bytes < 2 ^ 32 → tree_read true ends (lines_of bytes) ≡ Ok (nodes, ls) → IsTree nodes
tree_made ends bytes ls nodes few e =
    let h = (tree_form true ends).exact.sound (lines_of bytes) ls nodes e in
    (tree_told ends (λ node. Unit {0}) (λ node f. tt) nodes h.0 (few_lines node_line bytes ls nodes few h.1)).whole

-- the nodes that were read are a refutation's
pub cases_made : (leaves : List ℕ) (bytes : Bytes) (ls : List Bytes) (nodes : List RNodeOf) → length bytes < 2 ^ 32 → length leaves < 2 ^ 32 → cases_read true leaves (lines_of bytes) ≡ Ok (nodes, ls) → AreCases nodes
cases_made leaves bytes ls nodes few players e =
    let h = (cases_form true leaves).exact.sound (lines_of bytes) ls nodes e in
    (cases_told leaves nodes players h.0 (few_lines case_line bytes ls nodes few h.1)).0

-- the nodes that were read are a box tree
pub boxes_made : (bytes : Bytes) (ls : List Bytes) (nodes : List BNodeOf) → length bytes < 2 ^ 32 → boxes_read true (lines_of bytes) ≡ Ok (nodes, ls) → IsBoxTree nodes
boxes_made bytes ls nodes few e =
    let h = (boxes_form true).exact.sound (lines_of bytes) ls nodes e in
    boxes_told nodes h.0 (few_lines box_line bytes ls nodes few h.1)

-- ---- how much a reader leaves

pub tree_shrinks : (strict : Bool) (ends : Ends) → Shrinks (tree_read strict ends)
tree_shrinks strict ends = form_shrinks IsLine (FitsTree strict ends) (map node_line) (tree_read strict ends) (tree_form strict ends)

pub named_shrinks : (strict : Bool) → Shrinks (named_read strict)
named_shrinks strict = form_shrinks IsLine (FitsNamedList strict) named_lines (named_read strict) (named_form strict)

pub cases_shrinks : (strict : Bool) (leaves : List ℕ) → Shrinks (cases_read strict leaves)
cases_shrinks strict leaves = form_shrinks IsLine (FitsCases strict leaves) (map case_line) (cases_read strict leaves) (cases_form strict leaves)

pub boxes_shrinks : (strict : Bool) → Shrinks (boxes_read strict)
boxes_shrinks strict = form_shrinks IsLine (FitsBoxes strict) (map box_line) (boxes_read strict) (boxes_form strict)

-- ---- a count, and so many points and rays

abbrev pub count_read : Bool → Read ℕ
count_read strict = one_read (by_fields (named_count_at strict))

abbrev pub listed_read : Bool → ℕ → Read (List NamedOf)
listed_read strict count ls = items_read (by_fields (named_at strict)) (λ item. 0) ls count

abbrev the_items : ℕ → List NamedOf → List NamedOf
the_items count items = items

pub named_no_count : (ls : List Bytes) (e : ReadError) → Stopped e (count_read true ls) (count_read false ls) → Stopped e (named_read true ls) (named_read false ls)
unfolding named_read
named_no_count ls e h = join_first the_items (count_read true) (count_read false) (listed_read true) (listed_read false) ls e (λ count. items_shrinks (by_fields (named_at false)) (λ item. 0) count) h

pub named_no_items : (ls mid : List Bytes) (count : ℕ) (e : ReadError) → Both count mid (count_read true ls) (count_read false ls) → Stopped e (listed_read true count mid) (listed_read false count mid) → Stopped e (named_read true ls) (named_read false ls)
unfolding named_read
named_no_items ls mid count e h p = join_second the_items (count_read true) (count_read false) (listed_read true) (listed_read false) ls mid count e h p

pub named_taken : (ls mid rest : List Bytes) (count : ℕ) (items : List NamedOf) → Both count mid (count_read true ls) (count_read false ls) → Both items rest (listed_read true count mid) (listed_read false count mid) → Both items rest (named_read true ls) (named_read false ls)
unfolding named_read
named_taken ls mid rest count items h p = join_ok the_items (count_read true) (count_read false) (listed_read true) (listed_read false) ls mid rest count items h p
