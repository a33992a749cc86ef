-- The texts of best answers, and of reports on why there is no answer.
use Rattle.std.specs.Prelude.{ℕ, ◌-◌, ℤ, pos, negsuc, List, [], ◌∷◌, ◌++◌, length, map, codes, replicate, slice_index_or}
use Rattle.zr_base.specs.declared.step.Wide.{Wide}
use Rattle.zr_base.specs.Fractions.{Fraction}
use Rattle.zr_game.specs.declared.choice.Choice.{Choice}
use Rattle.zr_game.specs.declared.choice.Choice.TheVariants as AChoice
use Rattle.zr_lin.specs.declared.stuck.Step.{Step}
use Rattle.zr_lin.specs.declared.stuck.Step.TheVariants as AStep
use Rattle.zr_lin.specs.declared.stuck.Stuck.{Stuck}
use Rattle.zr_asked.specs.declared.question.Move.{Move}
use Rattle.zr_asked.specs.declared.question.Move.TheVariants as AMove
use Rattle.zr_asked.specs.declared.question.Asked.{Asked}
use Rattle.zr_asked.specs.declared.question.Asked.TheVariants.{Branch, Choices}
use Rattle.zr_asked.specs.declared.question.AskedLp.{AskedLp}
use Rattle.zr_cert.specs.Certs.{named_list, nodes_of}
use Rattle.zr_cert.specs.Listed.{cert_of}
use Rattle.zr_form.specs.Lines.{concat, line_with}
use Rattle.zr_form.specs.Numbers.{decimal, signed}
use Rattle.zr_form.specs.Reading.{Bytes, spell_from}
use Rattle.zr_lines.specs.Spelling.{named_lines, node_line, point_fields}
use Rattle.zr_text.specs.Spelling.{cert_lines, end_line}
use Rattle.zr_report.specs.declared.answer.Answer.{Answer}
use Rattle.zr_report.specs.declared.answer.Answer.TheVariants.{Least, Below}
use Rattle.zr_report.specs.declared.end.End.{End}
use Rattle.zr_report.specs.declared.end.End.TheVariants as AnEnd

-- ---- best answers

-- player i's least cost
abbrev pub least_line : ℕ → Fraction → Bytes
least_line i cost =
    line_with (codes "least" ∷ decimal i ∷ signed cost.num ∷ signed cost.den ∷ [])

-- player i's least cost, and a tree that proves it; or a point and a direction
abbrev pub answer_lines : ℕ → Answer → List Bytes
answer_lines i (Least cost tree) =
    least_line i cost ∷ map node_line (nodes_of tree)
answer_lines i (Below base dir) =
    line_with (codes "below" ∷ decimal i ∷ (point_fields base ++ map signed dir.items)) ∷ []

-- the lines of all players' answers
abbrev pub best_lines : List Answer → List Bytes
best_lines answers =
    line_with (codes "zero-best/1" ∷ []) ∷ (spell_from answer_lines 0 answers ++ end_line ∷ [])

abbrev pub best_text : List Answer → Bytes
best_text answers = concat (best_lines answers)

-- ---- reports

-- a step's numbers, its left pair first
abbrev pub wide_fields : Wide → List Bytes
wide_fields w =
    signed w.left.0 ∷ signed w.left.1 ∷ signed w.right.0 ∷ signed w.right.1 ∷ []

-- the line of a move to a child of a leaf
abbrev pub move_line : Move → Bytes
move_line (AMove.Low v at) =
    line_with (codes "path" ∷ codes "split" ∷ decimal v ∷ signed at ∷ codes "low" ∷ [])
move_line (AMove.High v at) =
    line_with (codes "path" ∷ codes "split" ∷ decimal v ∷ signed at ∷ codes "high" ∷ [])
move_line (AMove.VarZero p) =
    line_with (codes "path" ∷ codes "choose" ∷ decimal p ∷ codes "var" ∷ [])
move_line (AMove.RowZero p) =
    line_with (codes "path" ∷ codes "choose" ∷ decimal p ∷ codes "row" ∷ [])

-- the line of a choice about leaves
abbrev pub choice_line : Choice → Bytes
choice_line (AChoice.On i k) =
    line_with (codes "path" ∷ codes "on" ∷ decimal i ∷ decimal k ∷ [])
choice_line (AChoice.Off i k) =
    line_with (codes "path" ∷ codes "off" ∷ decimal i ∷ decimal k ∷ [])
choice_line (AChoice.Zero i k slot) =
    line_with (codes "path" ∷ codes "zero" ∷ decimal i ∷ decimal k ∷ decimal slot ∷ [])
choice_line (AChoice.Tight i k slot) =
    line_with (codes "path" ∷ codes "tight" ∷ decimal i ∷ decimal k ∷ decimal slot ∷ [])
choice_line (AChoice.Which i k) =
    line_with (codes "path" ∷ codes "which" ∷ decimal i ∷ decimal k ∷ [])

-- the columns of a program before its slacks: the value's column, the last of a basis, comes after
-- them and the slacks, of which there is one less than the basis has columns
abbrev pub column_count : List ℕ → ℕ
column_count basis =
    slice_index_or basis (length basis - 1) 0 - (length basis - 1)

-- the aim of a question of choices: minus the last column
abbrev pub choices_aim : ℕ → List ℤ
choices_aim columns = replicate (columns - 1) (pos 0) ++ negsuc 0 ∷ []

abbrev pub aim_line : List ℤ → Bytes
aim_line aim = line_with (codes "aim" ∷ map signed aim)

-- the lines of a question: whose points it is about, or that it is about choices, its path and its
-- aim
abbrev pub question_lines : Asked → List ℕ → List Bytes
question_lines (Branch player path aim) basis =
    line_with (codes "question" ∷ codes "branch" ∷ decimal player ∷ [])
    ∷ (map move_line path.items ++ aim_line aim.items ∷ [])
question_lines (Choices path) basis =
    line_with (codes "question" ∷ codes "choices" ∷ [])
    ∷ (map choice_line path.items ++ aim_line (choices_aim (column_count basis)) ∷ [])

-- the line of a step of the simplex method
abbrev pub step_line : Step → Bytes
step_line (AStep.Pivot row col at_row at_col) =
    line_with (codes "step" ∷ codes "pivot" ∷ decimal row ∷ decimal col ∷ decimal at_row
    ∷ decimal at_col ∷ [])
step_line (AStep.Point row) = line_with (codes "step" ∷ codes "point" ∷ decimal row ∷ [])
step_line (AStep.Ray row col) =
    line_with (codes "step" ∷ codes "ray" ∷ decimal row ∷ decimal col ∷ [])

-- the line of a basis, and that of a step's numbers
abbrev pub basis_line : List ℕ → Bytes
basis_line basis = line_with (codes "basis" ∷ map decimal basis)

abbrev pub numbers_line : Wide → Bytes
numbers_line w = line_with (codes "numbers" ∷ wide_fields w)

-- the lines of the basis, of the step that is too wide, and of its numbers
abbrev pub stuck_lines : Stuck → List Bytes
stuck_lines stuck =
    basis_line stuck.basis.items ∷ step_line stuck.step ∷ numbers_line stuck.wide ∷ []

-- why there is no answer
abbrev pub stop_lines : End → List Bytes
stop_lines (AnEnd.Budget limit) =
    line_with (codes "stop" ∷ codes "budget" ∷ decimal limit ∷ []) ∷ []
stop_lines (AnEnd.Stuck asked) =
    line_with (codes "stop" ∷ codes "wide" ∷ [])
    ∷ (question_lines asked.question asked.stuck.basis.items ++ stuck_lines asked.stuck)
stop_lines (AnEnd.Step wide) =
    line_with (codes "stop" ∷ codes "step" ∷ wide_fields wide) ∷ []
stop_lines (AnEnd.Certificate number cert) =
    line_with (codes "stop" ∷ codes "certificate" ∷ decimal number ∷ []) ∷ cert_lines (cert_of cert)
stop_lines (AnEnd.Open player var dir named) =
    line_with (codes "stop" ∷ codes "open" ∷ decimal player ∷ decimal var ∷ map signed dir.items)
    ∷ spell_from (λ i items. named_lines items) 0 (map named_list named.items)
stop_lines (AnEnd.Large cells) =
    line_with (codes "stop" ∷ codes "large" ∷ decimal cells ∷ []) ∷ []
stop_lines (AnEnd.Long bytes) =
    line_with (codes "stop" ∷ codes "long" ∷ decimal bytes ∷ []) ∷ []

abbrev pub report_lines : End → List Bytes
report_lines end =
    line_with (codes "zero-report/1" ∷ []) ∷ (stop_lines end ++ end_line ∷ [])

abbrev pub report_text : End → Bytes
report_text end = concat (report_lines end)
