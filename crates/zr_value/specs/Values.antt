-- What stands in single JSON values, and in the members and parts of a value.
use Rattle.std.specs.Prelude.{ℕ, ◌+◌, ◌&&◌, ◌==◌, nat_le, ℤ, pos, neg_ℤ, int_le, Bool, List, [], ◌∷◌, length, decimal, Option, Some, None, Ok, if◌then◌else◌, ⊤}
use Rattle.serde_json.specs.Data.{Num, unsigned, negative, float, Data, null, boolean, number, string, array, object, Items, no_items, item}
use Rattle.serde_json.specs.Find.{get, at}
use Rattle.zr_game.specs.Players.{Name}
use Rattle.zr_game.specs.Forms.{number_limit}
use Rattle.zr_source.specs.Names.{is_name}
use Rattle.zr_value.specs.declared.fault.GameFault.TheVariants.{Missing, Kind, NotWhole, TooBig, BadName, Count}
use Rattle.zr_value.specs.Faults.{Read, fault, under, ◌>>=◌}

-- ---- single values

-- a whole number from `low` to the limit of a game's numbers
abbrev pub within : ℤ → ℤ → Read ℤ
within low z = if int_le low z && int_le z number_limit then Ok z else fault TooBig

-- a JSON number is whole where it is written without a point and exponent and isn't past 64 bits
abbrev pub whole_num : ℤ → Num → Read ℤ
whole_num low (unsigned n) = within low (pos n)
whole_num low (negative z) = within low z
whole_num low (float x) = fault NotWhole

abbrev pub whole_in : ℤ → Data → Read ℤ
whole_in low (number n) = whole_num low n
whole_in low null = fault Kind
whole_in low (boolean b) = fault Kind
whole_in low (string s) = fault Kind
whole_in low (array ds) = fault Kind
whole_in low (object ms) = fault Kind

-- any number of a game
abbrev pub number_in : Data → Read ℤ
number_in = whole_in (neg_ℤ number_limit)

abbrev pub truth_in : Data → Read Bool
truth_in (boolean b) = Ok b
truth_in null = fault Kind
truth_in (number n) = fault Kind
truth_in (string s) = fault Kind
truth_in (array ds) = fault Kind
truth_in (object ms) = fault Kind

abbrev pub text_in : Data → Read (List ℕ)
text_in (string s) = Ok s
text_in null = fault Kind
text_in (boolean b) = fault Kind
text_in (number n) = fault Kind
text_in (array ds) = fault Kind
text_in (object ms) = fault Kind

-- the value is an object
abbrev pub object_in : Data → Read ⊤
object_in (object ms) = Ok tt
object_in null = fault Kind
object_in (boolean b) = fault Kind
object_in (number n) = fault Kind
object_in (string s) = fault Kind
object_in (array ds) = fault Kind

abbrev pub listed_items : Items → List Data
listed_items no_items = []
listed_items (item d ds) = d ∷ listed_items ds

-- the items of a list
abbrev pub items_in : Data → Read (List Data)
items_in (array ds) = Ok (listed_items ds)
items_in null = fault Kind
items_in (boolean b) = fault Kind
items_in (number n) = fault Kind
items_in (string s) = fault Kind
items_in (object ms) = fault Kind

abbrev pub name_in : Data → Read Name
name_in d = do
  s ← text_in d
  if is_name s then Ok s else fault BadName

-- ---- members and parts

abbrev pub there : {A : Type 0} → (Data → Read A) → Option Data → Read A
there read None = fault Missing
there read (Some d) = read d

abbrev pub there_or : {A : Type 0} → A → (Data → Read A) → Option Data → Read A
there_or missing read None = Ok missing
there_or missing read (Some d) = read d

-- the member of a name, which is needed
abbrev pub needed : {A : Type 0} → List ℕ → (Data → Read A) → Data → Read A
needed name read d = under name (there read (get name d))

-- the member of a name, or what stands for it where it is missing
abbrev pub optional : {A : Type 0} → List ℕ → A → (Data → Read A) → Data → Read A
optional name missing read d = under name (there_or missing read (get name d))

-- part k of a list
abbrev pub part : {A : Type 0} → ℕ → (Data → Read A) → Data → Read A
part k read d = under (decimal k) (there read (at k d))

-- ---- lists

-- a list of `least` to `most` items
abbrev pub listed : ℕ → ℕ → Data → Read (List Data)
listed least most d = do
  ds ← items_in d
  if nat_le least (length ds) && nat_le (length ds) most then Ok ds else fault Count

-- a list of n items, of which each has a meaning of its own
abbrev pub tuple : ℕ → Data → Read ⊤
tuple n d = do
  ds ← items_in d
  if length ds == n then Ok tt else fault Kind

-- each item from the front adds to what stands so far
abbrev pub each : {S A : Type 0} → (S → A → Read S) → ℕ → S → List A → Read S
each add i so_far [] = Ok so_far
each add i so_far (x ∷ xs) = do
  more ← under (decimal i) (add so_far x)
  each add (i + 1) more xs
