-- The ends of slopes, cross term by cross term.
use Rattle.std.specs.Prelude.{ℕ, ◌==◌, ℤ, ◌*ℤ◌, int_lt, if◌then◌else◌, List, map}
use Rattle.std.specs.List.{filter}
use Rattle.zr_game.specs.declared.player.CrossTerm.{CrossTerm}
use Rattle.zr_boxes.specs.Boxes.{BoxOf}
use Rattle.zr_boxes.specs.Ranges.{range_of}

-- of the two ends of a range the one at which a times it is least, or greatest
abbrev pub low_end : ℤ → ℤ → ℤ → ℤ
low_end a low high = if int_lt (a *ℤ high) (a *ℤ low) then high else low

abbrev pub high_end : ℤ → ℤ → ℤ → ℤ
high_end a low high = if int_lt (a *ℤ low) (a *ℤ high) then high else low

-- an end of a cross term's other variable, by the term's number
abbrev pub end_of : (ℤ → ℤ → ℤ → ℤ) → BoxOf → CrossTerm → ℤ
end_of end box t =
    end t.coef (range_of box t.player t.var).low (range_of box t.player t.var).high

-- of the cross terms of variable v the number and that end
abbrev pub end_pairs : (ℤ → ℤ → ℤ → ℤ) → BoxOf → ℕ → List CrossTerm → List (ℤ × ℤ)
end_pairs end box v cross = map (λ t. (t.coef, end_of end box t)) (filter (λ t. t.own == v) cross)
