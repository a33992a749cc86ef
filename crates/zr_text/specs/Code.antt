-- What the functions of the code give, in the words of the reading.
use Rattle.std.specs.Prelude.{◌≡◌, ℕ, ℤ, IfOk, length, map, option_copied, List, Bool, true, false, Option, Some, None, Result, Ok, Err, ◌==◌, codes}
use Rattle.std.proofs.Common.{Bor}
use Rattle.std.specs.Global.{Vec}
use Rattle.std.specs.List.{zip}
use Rattle.zr_game.specs.declared.named.Named.{Named}
use Rattle.zr_game.specs.Named.{NamedOf}
use Rattle.zr_tree.specs.declared.tree.Tree.{Tree}
use Rattle.zr_tree.specs.Nodes.{NodeOf}
use Rattle.zr_cert.specs.Certs.{named_list, nodes_of}
use Rattle.zr_form.specs.Bounds.{is_narrow, is_positive}
use Rattle.zr_form.specs.Code.{left_of}
use Rattle.zr_form.specs.Fields.{ended, integer_read, natural_read, pair, skip}
use Rattle.zr_form.specs.declared.fault.ReadError.{ReadError}
use Rattle.zr_form.specs.Lines.{lines_of}
use Rattle.zr_form.specs.Reading.{Bytes}
use Rattle.zr_form.specs.Stops.{Gives, Stopped}
use Rattle.zr_text.specs.declared.heading.VerdictLine.{VerdictLine}
use Rattle.zr_text.specs.declared.heading.VerdictLine.TheVariants.{Profile, Cover, Empty, Boxes}
use Rattle.zr_text.specs.Reader.{VerdictLine as VerdictLineOf, OfProfile, OfCover, OfEmpty, OfBoxes}

-- what the verdict's line says
abbrev pub verdict_line_of : VerdictLine → VerdictLineOf
verdict_line_of Profile = OfProfile
verdict_line_of Cover = OfCover
verdict_line_of (Empty player) = OfEmpty player
verdict_line_of Boxes = OfBoxes

-- whether it is this
abbrev pub IsThis : {X : Type 0} → X → Bool → Option X → Type 0
IsThis x true read = read ≡ Some x
IsThis x false read = read ≡ None

-- this was read, with the lines that are left of the text; no number was at fault
abbrev pub GivesThis : {X : Type 0} → X → Result (Bor (List ℕ)) ReadError → Result (X × List Bytes) (List Bytes) → Type 0
GivesThis x (Ok rest) read = read ≡ Ok (x, lines_of rest.now)
GivesThis x (Err e) read = Stopped e read read

-- player i's cost, in any terms
abbrev pub cost_numbers : Bool → ℕ → List Bytes → Option (ℕ × (ℤ × ℤ))
cost_numbers strict i fs = ended (skip (codes "cost") (pair (natural_read (λ n. n == i)) (pair (integer_read (is_narrow strict)) (integer_read (is_positive strict)))) fs)

-- covers and as many lists of points and rays were read, with the lines that are left of the text
abbrev pub GivesCovers : Result ((Vec Tree × Vec (Vec Named)) × Bor (List ℕ)) ReadError → Result (List (List NodeOf × List NamedOf) × List Bytes) (List Bytes) → Result (List (List NodeOf × List NamedOf) × List Bytes) (List Bytes) → Type 0
GivesCovers result strict loose =
    Gives (λ all. zip (map nodes_of all.0.items) (map named_list all.1.items)) result strict loose × IfOk result (λ x. length x.0.1.items ≡ length x.0.0.items)

-- a line begins with this, or doesn't
abbrev pub Begins : {X : Type 0} → Option (X × Option (Bor (List ℕ))) → Result (X × List Bytes) (List Bytes) → Type 0
Begins (Some x) read = read ≡ Ok (x.0, left_of (option_copied x.1))
Begins None read = (fs : List Bytes) × (read ≡ Err fs)
