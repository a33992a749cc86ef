-- The numbers of the forms, unknown by unknown, as the code reads them.
use Rattle.std.specs.Prelude.{ℕ, ◌==◌, ◌&&◌, ℤ, pos, negsuc, neg_ℤ, ◌*ℤ◌, List, if◌then◌else◌}
use Rattle.zr_game.specs.Players.{GameOf}
use Rattle.zr_system.specs.declared.unknown.Unknown.{Unknown}
use Rattle.zr_system.specs.declared.unknown.Unknown.TheVariants.{One, Worth, Share, Weight, Dual}
use Rattle.zr_system.specs.Forms.{only}
use Rattle.zr_system.specs.Asked.{direction, firsts}
use Rattle.zr_game.specs.Named.{NamedOf, NamedPoint, NamedRay}
use Rattle.zr_system.specs.Regions.{LeavesOf, slot_number, slot_right, own_number, cross_number}

-- of the sum of player i's weights, less 1
abbrev pub weights_value : ℕ → Unknown → ℤ
weights_value i One = negsuc 0
weights_value i (Worth j) = pos 0
weights_value i (Share j l v) = pos 0
weights_value i (Weight j l) = if j == i then pos 1 else pos 0
weights_value i (Dual j l s) = pos 0

abbrev pub slot_value : GameOf → LeavesOf → ℕ → ℕ → ℕ → Unknown → ℤ
slot_value game leaves i k s One = pos 0
slot_value game leaves i k s (Worth j) = pos 0
slot_value game leaves i k s (Share j l v) = if (j == i) && (l == k) then slot_number game leaves i
    k s v else pos 0
slot_value game leaves i k s (Weight j l) = if (j == i) && (l == k) then neg_ℤ
    (slot_right game leaves i k s) else pos 0
slot_value game leaves i k s (Dual j l t) = pos 0

abbrev pub slope_value : GameOf → ℕ → ℕ → Unknown → ℤ
slope_value game i v One = own_number game i v
slope_value game i v (Worth j) = pos 0
slope_value game i v (Share j l w) = cross_number game i v j w
slope_value game i v (Weight j l) = pos 0
slope_value game i v (Dual j l s) = pos 0

abbrev pub pull_value : GameOf → LeavesOf → ℕ → ℕ → ℕ → Unknown → ℤ
pull_value game leaves i k v One = pos 0
pull_value game leaves i k v (Worth j) = pos 0
pull_value game leaves i k v (Share j l w) = pos 0
pull_value game leaves i k v (Weight j l) = pos 0
pull_value game leaves i k v (Dual j l s) = if (j == i) && (l == k) then slot_number game leaves i
    k s v else pos 0

abbrev pub gain_value : GameOf → LeavesOf → ℕ → ℕ → Unknown → ℤ
gain_value game leaves i k One = pos 0
gain_value game leaves i k (Worth j) = if j == i then pos 1 else pos 0
gain_value game leaves i k (Share j l v) = pos 0
gain_value game leaves i k (Weight j l) = pos 0
gain_value game leaves i k (Dual j l s) = if (j == i) && (l == k) then slot_right game leaves i k s
    else pos 0

-- the products of the slope's numbers with the item's, of the first variables
abbrev pub along_products : GameOf → ℕ → NamedOf → Unknown → ℕ → List (ℤ × ℤ)
along_products game i item u n = firsts n (λ v. (slope_value game i v u, direction item v))

-- the number of player i's value in a named item's row
abbrev pub own_value : ℕ → NamedOf → Unknown → ℤ
own_value i (NamedPoint p) u = p.den *ℤ only u (Worth i)
own_value i (NamedRay base dir) u = pos 0
