-- The words that `clap` takes are those that have the form of a command line.
use Rattle.std.proofs.Common.{◌≡◌, ◌⊎◌, inl, inr, ℕ, ◌≤◌, ℤ, pos, negsuc, ◌≤ℤ◌, Bool, true, false, not, ◌||◌, List, [], ◌∷◌, length, take, drop, Option, Some, None, fold, refl, sym, ap, ap₂, ◌∙◌, subst, codes, bytes_eq, arith, slice_get, rules as search_rules, IsUtf8, FitsSigned}
use Rattle.std.specs.Prelude.{if◌then◌else◌, is_some, option_and_then, unwrap_or}
use Rattle.std.specs.List.{All, list_any}
use Rattle.std.specs.Option.{option_map_or}
use Rattle.std.specs.Str.Parse.{signed_digits_value}
use Rattle.std.proofs.lemmas.Int.{ints}
use Rattle.std.proofs.lemmas.Slice.Eq.{bytes_eq-Decides}
use mir.Syntax.{w64}
use Rattle.clap.specs.Words.{Row, Rule, Text, Kinds, first_of}
use Rattle.clap.specs.ValueTests.{accepts}
use Rattle.clap.specs.Values.{IsSignedIn, read_as, reading_of}
use Rattle.clap.specs.Kinds.{or_else}
use Rattle.clap.specs.Walk.{Held, Walk, has_row, more_values, with_default, settled, walked, walk, walk_from, nothing_held, finished}
use Rattle.clap.specs.Walk.{arg_by_id, row_text}
use Rattle.clap.specs.Takes.{is_given}
use Rattle.clap.specs.Facts.{explicit_source, parser_of_value}
use Rattle.clap.specs.Simple.{filled, help_rule}
use Rattle.clap.specs.Faults.{level_fault, walk_fault, settle_fault, defaults_fault, default_fault, check_fault, turn_fault}
use Rattle.clap.proofs.ValueTestLemmas.{accepts-Accepts, Accepts-accepts}
use Rattle.clap.proofs.WalkLemmas.{list_any-map}
use Rattle.clap.specs.declared.error.kind.ErrorKind.TheVariants.{MissingRequiredArgument}
use Rattle.clap.specs.declared.parser.matches.ValueSource.{ValueSource}
use Rattle.clap.specs.declared.parser.matches.ValueSource.TheVariants.{CommandLine, DefaultValue}
use Rattle.clap.specs.declared.builder.value_parser.ValueParser.{ValueParser}
use Rattle.clap.specs.declared.builder.value_parser.ValueParser.TheVariants as parser
use Rattle.zr_game.specs.declared.kind.Kind.{Kind}
use Rattle.zr_game.specs.declared.kind.Kind.TheVariants.{Pure, Mixed}
use Rattle.zr_words.specs.declared.command.Options.{Options}
use Rattle.zr_words.specs.Words.{OptionName, Said, Says, Words, kind_option, budget_option, rounds_option, order_option, option_name, default_text, texts_of}
use Rattle.zr_words.specs.Commands.{AreOptions, HasNumber, HaveForm, HaveSomeForm, IsNumber, IsValue, kind_name}
use Rattle.zr_words.specs.Arguments.{TakesKinds, up_to, zero_fault, zero_rows}
use Rattle.zr_words.specs.Matches.{AreRead, AreRowsOf, IsKindRow, IsNumberRow}
use Rattle.zr_words.proofs.Rules.{Place, first, second, third, beyond, place_id, Key, text_key, option_key, key_id, key_rule, option_parser, by_id, rules, top, fault_is, rows_are}
use Rattle.zr_words.proofs.Steps.{Use, free, free_or, end_of, at, option_own}
use Rattle.zr_words.proofs.Walks.{run_said, said_run, readings}
use Rattle.zr_words.proofs.Uses.{found, or_found, found_append, absent, none_found, vals, vals_option, vals_place, pick, IsGiven, outcome, few_texts, runs, Ready}

-- ---- faults one after another

pub both_free : (a b : Kinds) → or_else a b ≡ [] → (a ≡ []) × (b ≡ [])
both_free [] b e = (refl, e)
both_free (k ∷ ks) b e = absurd cc

pub free_both : (a b : Kinds) → a ≡ [] → b ≡ [] → or_else a b ≡ []
free_both a b e f = rw (e, f) refl

free_some : (a : Kinds) (o : Option (List Row)) (rows : List Row) → free a o ≡ Some rows → (a ≡ []) × (o ≡ Some rows)
free_some [] o rows e = (refl, e)
free_some (k ∷ ks) o rows e = absurd cc

module _ (kinds : ValueParser) where
  walked_over : Walk → Words → Walk
  walked_over w words = fold (walked (rules kinds) []) w words

  -- the rows at the end of the walk, by the faults on the way
  end_is : (words : Words) (w : Walk) → end_of kinds w words
      ≡ free (walk_fault (top kinds) [] w words)
      (free (settle_fault (rules kinds) false (fold (walked (rules kinds) []) w words).held)
      (Some (settled (rules kinds) (fold (walked (rules kinds) []) w words).held).rows))
  unfolding end_of walk_fault
  end_is [] w = refl
  end_is (word ∷ words) w =
      ap (free (turn_fault (top kinds) [] w word)) (end_is words (walked (rules kinds) [] w word))
      ∙ sym (free_or (turn_fault (top kinds) [] w word) (walk_fault (top kinds) [] (walked (rules kinds) [] w word) words) _)

  -- ---- defaults

  abbrev default_row : OptionName → Row
  default_row o = record {
    id = option_name o;
    values = default_text o ∷ [];
    count = None;
    source = Some DefaultValue;
    reading = reading_of (option_parser kinds o);
  }

  default_found : (o : OptionName) (id : Text) (rows : List Row) → found id (with_default rows (key_rule kinds (option_key o)))
      ≡ or_found (found id rows) (if bytes_eq (option_name o) id then Some (default_row o) else None)
  default_found o id rows = go (has_row (option_name o) rows) refl
    where
      kept : (x y : Option Row) (t : Bool) → bytes_eq (option_name o) id ≡ t → found id rows ≡ x → has_row (option_name o) rows ≡ true
          → found id rows ≡ or_found (found id rows) (if bytes_eq (option_name o) id then y else None)
      kept (Some r) y t e f h = rw f refl
      kept None y false e f h = rw (f, e) refl
      kept None y true e f h =
          let same = (bytes_eq-Decides (option_name o) id).0 e in
          let missing : has_row (option_name o) rows ≡ false = none_found (option_name o) rows (ap (λ (i : Text). found i rows) same ∙ f) in
          let bad : true ≡ false = sym h ∙ missing in absurd cc

      go : (t : Bool) → has_row (option_name o) rows ≡ t → found id (with_default rows (key_rule kinds (option_key o)))
          ≡ or_found (found id rows) (if bytes_eq (option_name o) id then Some (default_row o) else None)
      go true h = rw h (kept (found id rows) (Some (default_row o)) (bytes_eq (option_name o) id) refl refl h)
      go false h =
          let put = absent (option_name o) (more_values DefaultValue (default_text o ∷ [])) (default_row o ∷ []) rows h in
          rw (h, put) (found_append id rows (default_row o))

  plain_default : (p : Place) (rows : List Row) → with_default rows (key_rule kinds (text_key p)) ≡ rows
  plain_default p rows = go (has_row (place_id p) rows) refl
    where
      go : (t : Bool) → has_row (place_id p) rows ≡ t → with_default rows (key_rule kinds (text_key p)) ≡ rows
      go true e = rw e refl
      go false e = rw e refl

  help_default : (rows : List Row) → with_default rows (filled help_rule) ≡ rows
  help_default rows = go (has_row (codes "help") rows) refl
    where
      go : (t : Bool) → has_row (codes "help") rows ≡ t → with_default rows (filled help_rule) ≡ rows
      go true e = rw e refl
      go false e = rw e refl

  abbrev defaulted : OptionName → List Row → List Row
  defaulted o rows = with_default rows (key_rule kinds (option_key o))

  -- the rows with the defaults of what wasn't given
  unfoldable pub final : List Row → List Row
  final rows = defaulted order_option (defaulted rounds_option (defaulted budget_option (defaulted kind_option rows)))

  ended_rows : (rows : List Row) → fold with_default rows (rules kinds) ≡ final rows
  unfolding top final
  ended_rows rows =
      let one = with_default rows (key_rule kinds (text_key first)) in
      let two = with_default one (key_rule kinds (text_key second)) in
      help_default _ ∙ ap (λ (r : List Row). defaulted order_option (defaulted rounds_option (defaulted budget_option (defaulted kind_option r))))
      (plain_default third two ∙ plain_default second one ∙ plain_default first rows)

  abbrev default_at : OptionName → Text → Option Row
  default_at o id = if bytes_eq (option_name o) id then Some (default_row o) else None

  final_found : (id : Text) (rows : List Row) → found id (final rows)
      ≡ or_found (or_found (or_found (or_found (found id rows) (default_at kind_option id)) (default_at budget_option id)) (default_at rounds_option id)) (default_at order_option id)
  unfolding final
  final_found id rows =
      let one = defaulted kind_option rows in
      let two = defaulted budget_option one in
      let three = defaulted rounds_option two in
      default_found order_option id three ∙ ap (λ x. or_found x (default_at order_option id))
      (default_found rounds_option id two ∙ ap (λ x. or_found x (default_at rounds_option id))
      (default_found budget_option id one ∙ ap (λ x. or_found x (default_at budget_option id)) (default_found kind_option id rows)))

  own_default : (o : OptionName) (x : Option Row)
      → or_found (or_found (or_found (or_found x (default_at kind_option (option_name o))) (default_at budget_option (option_name o))) (default_at rounds_option (option_name o))) (default_at order_option (option_name o))
      ≡ or_found x (Some (default_row o))
  own_default kind_option None = refl
  own_default kind_option (Some r) = refl
  own_default budget_option None = refl
  own_default budget_option (Some r) = refl
  own_default rounds_option None = refl
  own_default rounds_option (Some r) = refl
  own_default order_option None = refl
  own_default order_option (Some r) = refl

  no_default : (p : Place) (x : Option Row)
      → or_found (or_found (or_found (or_found x (default_at kind_option (place_id p))) (default_at budget_option (place_id p))) (default_at rounds_option (place_id p))) (default_at order_option (place_id p)) ≡ x
  no_default first None = refl
  no_default first (Some r) = refl
  no_default second None = refl
  no_default second (Some r) = refl
  no_default third None = refl
  no_default third (Some r) = refl
  no_default beyond None = refl
  no_default beyond (Some r) = refl

  final_option : (o : OptionName) (rows : List Row) → found (option_name o) (final rows) ≡ or_found (found (option_name o) rows) (Some (default_row o))
  final_option o rows = final_found (option_name o) rows ∙ own_default o (found (option_name o) rows)

  final_text : (p : Place) (rows : List Row) → found (place_id p) (final rows) ≡ found (place_id p) rows
  final_text p rows = final_found (place_id p) rows ∙ no_default p (found (place_id p) rows)

  -- ---- which values pass

  pub kinds_pass : TakesKinds kinds → (v : Text) → accepts false kinds v ≡ (bytes_eq (codes "pure") v || (bytes_eq (codes "mixed") v || false))
  kinds_pass = kinds_of kinds
    where
      kinds_of : (k : ValueParser) → TakesKinds k → (v : Text) → accepts false k v ≡ (bytes_eq (codes "pure") v || (bytes_eq (codes "mixed") v || false))
      kinds_of (parser.Names names) t v =
          list_any-map (λ (x : Text). bytes_eq x v) (λ n. n.now) names.now ∙ ap (λ (l : List Text). list_any (λ (x : Text). bytes_eq x v) l) t
      kinds_of _ t v = absurd t

  default_passes : TakesKinds kinds → (o : OptionName) → accepts false (option_parser kinds o) (default_text o) ≡ true
  default_passes t kind_option = kinds_pass t (codes "mixed")
  default_passes t budget_option = refl
  default_passes t rounds_option = refl
  default_passes t order_option = refl

  one_kind : (v : Text) → (bytes_eq (codes "pure") v || (bytes_eq (codes "mixed") v || false)) ≡ true → (v ≡ codes "pure") ⊎ (v ≡ codes "mixed")
  one_kind v e = go (bytes_eq (codes "pure") v) refl (bytes_eq (codes "mixed") v) refl e
    where
      go : (a : Bool) → bytes_eq (codes "pure") v ≡ a → (b : Bool) → bytes_eq (codes "mixed") v ≡ b → (a || (b || false)) ≡ true → (v ≡ codes "pure") ⊎ (v ≡ codes "mixed")
      go true p b q h = inl (sym ((bytes_eq-Decides (codes "pure") v).0 p))
      go false p true q h = inr (sym ((bytes_eq-Decides (codes "mixed") v).0 q))
      go false p false q h = absurd cc

  -- ---- the rows of options and texts

  abbrev row_by : Rule → Text → ValueSource → Row
  row_by r v s = record { id = r.id; values = v ∷ []; count = None; source = Some s; reading = reading_of (parser_of_value r.parser) }

  pub record IsOptionRow (said : List Said) (o : OptionName) (rows : List Row) : Type 0 where
    pub value : Text
    pub is_value : IsValue said o value
    pub right : accepts false (option_parser kinds o) value ≡ true
    pub source : ValueSource
    pub row : found (option_name o) rows ≡ Some (row_by (key_rule kinds (option_key o)) value source)

  same_rule : (o : OptionName) (vs : List Text) (after : Option Row) (g : IsGiven kinds (option_name o) vs after) → key_rule kinds g.key ≡ key_rule kinds (option_key o)
  same_rule o vs after g =
      let same : Some (key_rule kinds g.key) ≡ Some (key_rule kinds (option_key o)) =
      sym (by_id kinds g.key g.own) ∙ ap (λ (i : Text). arg_by_id (rules kinds) i) g.named ∙ by_id kinds (option_key o) (option_own o) in
      ap (λ (x : Option Rule). unwrap_or x (key_rule kinds g.key)) same

  pub option_row : TakesKinds kinds → (said : List Said) (rows : List Row) → run_said kinds first said [] ≡ Some rows → (o : OptionName) → IsOptionRow said o (final rows)
  option_row t said rows e o = go (outcome kinds first said [] rows e (option_name o))
    where
      go : ((vals (option_name o) first said ≡ []) × (found (option_name o) rows ≡ None)) ⊎ IsGiven kinds (option_name o) (vals (option_name o) first said) (found (option_name o) rows)
          → IsOptionRow said o (final rows)
      go (inl n) = record {
        value = default_text o;
        is_value = inr (sym (vals_option o first said) ∙ n.0, refl);
        right = default_passes t o;
        source = DefaultValue;
        row = final_option o rows ∙ ap (λ (x : Option Row). or_found x (Some (default_row o))) n.1;
      }
      go (inr g) =
          let same = same_rule o _ _ g in
          record {
            value = g.value;
            is_value = inl (sym (vals_option o first said) ∙ g.only);
            right = subst (λ (r : Rule). accepts false (parser_of_value r.parser) g.value ≡ true) same g.right;
            source = CommandLine;
            row = final_option o rows ∙ ap (λ (x : Option Row). or_found x (Some (default_row o))) g.row ∙ ap (λ (r : Rule). Some (row_by r g.value CommandLine)) same;
          }

  number_row : (said : List Said) (o : OptionName) (most : ℕ) (rows : List Row) → option_parser kinds o ≡ up_to most → IsOptionRow said o rows → IsNumberRow rows said o most
  number_row said o most rows e r = record {
    value = r.value;
    is_value = r.is_value;
    read = ap (option_and_then row_text) r.row ∙ ap (λ (p : ValueParser). Some (read_as (reading_of p) r.value)) e;
    number = accepts-Accepts false (up_to most) r.value (subst (λ (p : ValueParser). accepts false p r.value ≡ true) e r.right);
  }

  kind_row : TakesKinds kinds → (said : List Said) (rows : List Row) → IsOptionRow said kind_option rows → IsKindRow rows said
  kind_row t said rows r = record {
    value = r.value;
    is_value = r.is_value;
    read = ap (option_and_then (λ (x : Row). slice_get x.values 0)) r.row;
    kind = one_kind r.value (sym (kinds_pass t r.value) ∙ r.right);
  }

  abbrev HasText : Place → List Said → List Row → Type 0
  HasText p said rows = (first_of (place_id p) (final rows) ≡ slice_get (vals (place_id p) first said) 0)
      × (is_given (place_id p) (final rows) ≡ is_some (slice_get (vals (place_id p) first said) 0))

  text_row : (said : List Said) (rows : List Row) → run_said kinds first said [] ≡ Some rows → (p : Place) → HasText p said rows
  text_row said rows e p = go (outcome kinds first said [] rows e (place_id p))
    where
      go : ((vals (place_id p) first said ≡ []) × (found (place_id p) rows ≡ None)) ⊎ IsGiven kinds (place_id p) (vals (place_id p) first said) (found (place_id p) rows)
          → HasText p said rows
      go (inl n) =
          let gone = final_text p rows ∙ n.1 in (
            ap (option_and_then (λ (x : Row). slice_get x.values 0)) gone ∙ ap (λ (l : List Text). slice_get l 0) (sym n.0),
            ap (λ (x : Option Row). option_map_or (λ (r : Row). explicit_source r.source) x false) gone ∙ ap (λ (l : List Text). is_some (slice_get l 0)) (sym n.0),
          )
      go (inr g) =
          let here = final_text p rows ∙ g.row in (
            ap (option_and_then (λ (x : Row). slice_get x.values 0)) here ∙ ap (λ (l : List Text). slice_get l 0) (sym g.only),
            ap (λ (x : Option Row). option_map_or (λ (r : Row). explicit_source r.source) x false) here ∙ ap (λ (l : List Text). is_some (slice_get l 0)) (sym g.only),
          )

  -- ---- the texts by their places

  first_text : (ts : List Text) → slice_get (take 1 ts) 0 ≡ slice_get ts 0
  first_text [] = refl
  first_text (a ∷ ts) = refl

  second_text : (ts : List Text) → slice_get (take 1 (drop 1 ts)) 0 ≡ slice_get ts 1
  second_text [] = refl
  second_text (a ∷ []) = refl
  second_text (a ∷ b ∷ ts) = refl

  third_text : (ts : List Text) → slice_get (take 1 (drop 2 ts)) 0 ≡ slice_get ts 2
  third_text [] = refl
  third_text (a ∷ []) = refl
  third_text (a ∷ b ∷ []) = refl
  third_text (a ∷ b ∷ c ∷ ts) = refl

  picked : (p : Place) (said : List Said) → slice_get (vals (place_id p) first said) 0 ≡ slice_get (pick p first (texts_of said)) 0
  picked p said = ap (λ (l : List Text). slice_get l 0) (vals_place p first said)

  pub are_rows : TakesKinds kinds → (said : List Said) (rows : List Row) → run_said kinds first said [] ≡ Some rows → AreRowsOf (final rows) said
  are_rows t said rows e = record {
    action = (text_row said rows e first).0 ∙ picked first said ∙ first_text (texts_of said);
    game = (text_row said rows e second).0 ∙ picked second said ∙ second_text (texts_of said);
    cert = (text_row said rows e third).0 ∙ picked third said ∙ third_text (texts_of said);
    kind = kind_row t said (final rows) (option_row t said rows e kind_option);
    budget = number_row said budget_option 1000000000 (final rows) refl (option_row t said rows e budget_option);
    rounds = number_row said rounds_option 10000 (final rows) refl (option_row t said rows e rounds_option);
    order = number_row said order_option 1000000 (final rows) refl (option_row t said rows e order_option);
  }

  -- ---- what is missing

  abbrev missing : Bool → Bool → Kinds
  missing action game = if not action || (not game || false) then MissingRequiredArgument ∷ [] else []

  check_is : (rows : List Row) → check_fault (top kinds) rows false ≡ missing (is_given (codes "ACTION") rows) (is_given (codes "GAME") rows)
  unfolding top
  check_is rows = refl

  none_missing : (a b : Bool) → missing a b ≡ [] → b ≡ true
  none_missing true true e = refl
  none_missing true false e = absurd cc
  none_missing false b e = absurd cc

  two_texts : (ts : List Text) → is_some (slice_get ts 1) ≡ true → 2 ≤ length ts
  two_texts [] e = absurd cc
  two_texts (a ∷ []) e = absurd cc
  two_texts (a ∷ b ∷ ts) e = omega arith

  -- ---- defaults are no fault

  either : (b : Bool) (none : Kinds) → (if b || false then none else none) ≡ none
  either true none = refl
  either false none = refl

  always : (b : Bool) (none other : Kinds) → (if b || true then none else other) ≡ none
  always true none other = refl
  always false none other = refl

  abbrev IsFree : Rule → Type 0
  IsFree r = (rows : List Row) → default_fault rows r ≡ []

  option_free : TakesKinds kinds → (o : OptionName) → IsFree (key_rule kinds (option_key o))
  option_free t o rows = rw (default_passes t o) (either (has_row (option_name o) rows) [])

  text_free : (p : Place) → IsFree (key_rule kinds (text_key p))
  text_free p rows = always (has_row (place_id p) rows) [] _

  help_free : IsFree (filled help_rule)
  help_free rows = always (has_row (codes "help") rows) [] _

  abbrev AreFree : List Rule → Type 0
  AreFree [] = Unit {0}
  AreFree (r ∷ rs) = IsFree r × AreFree rs

  free_rules : (rs : List Rule) → AreFree rs → (rows : List Row) → defaults_fault rows rs ≡ []
  unfolding defaults_fault
  free_rules [] h rows = refl
  free_rules (r ∷ rs) h rows = free_both (default_fault rows r) (defaults_fault (with_default rows r) rs) (h.0 rows) (free_rules rs h.1 (with_default rows r))

  rules_free : TakesKinds kinds → AreFree (rules kinds)
  unfolding top
  rules_free t = (text_free first, (text_free second, (text_free third, (option_free t kind_option, (option_free t budget_option, (option_free t rounds_option, (option_free t order_option, (help_free, tt))))))))

  -- ---- the whole

  abbrev end_held : Words → Held
  end_held words = (walk (rules kinds) [] nothing_held words).held

  abbrev end_rows : Words → List Row
  end_rows words = (settled (rules kinds) (end_held words)).rows

  abbrev whole_fault : Words → Kinds → Kinds → Kinds
  whole_fault words defaults check = or_else (walk_fault (top kinds) [] (walk_from nothing_held) words)
      (or_else (settle_fault (rules kinds) false (end_held words)) (or_else defaults check))

  not_again : (top kinds).args_override_self ≡ false
  unfolding top
  not_again = refl

  level_is : (words : Words) → level_fault (top kinds) [] nothing_held words false []
      ≡ whole_fault words (defaults_fault (end_rows words) (rules kinds)) (check_fault (top kinds) (finished (rules kinds) (end_held words)) false)
  level_is words = ap (λ (b : Bool). or_else (walk_fault (top kinds) [] (walk_from nothing_held) words)
      (or_else (settle_fault (rules kinds) b (end_held words))
      (or_else (defaults_fault (end_rows words) (rules kinds)) (check_fault (top kinds) (finished (rules kinds) (end_held words)) false)))) not_again

  abbrev missing_of : List Row → Kinds
  missing_of rows = missing (is_given (codes "ACTION") rows) (is_given (codes "GAME") rows)

  whole_is : TakesKinds kinds → (words : Words) → zero_fault kinds words ≡ whole_fault words [] (missing_of (final (end_rows words)))
  whole_is t words =
      fault_is kinds words ∙ level_is words
      ∙ ap₂ (whole_fault words) (free_rules (rules kinds) (rules_free t) (end_rows words))
      (ap (λ (l : List Row). check_fault (top kinds) l false) (ended_rows (end_rows words)) ∙ check_is (final (end_rows words)))

  -- the walk reaches these rows
  abbrev Reaches : Words → Type 0
  Reaches words = end_of kinds (at kinds [] None first false) words ≡ Some (end_rows words)

  abbrev Free : Words → Type 0
  Free words = Reaches words × (missing_of (final (end_rows words)) ≡ [])

  free_of : TakesKinds kinds → (words : Words) → zero_fault kinds words ≡ [] → Free words
  free_of t words e =
      let a = both_free (walk_fault (top kinds) [] (walk_from nothing_held) words) _ (sym (whole_is t words) ∙ e) in
      let b = both_free (settle_fault (rules kinds) false (end_held words)) _ a.1 in
      (end_is words (walk_from nothing_held) ∙ ap₂ (λ (x y : Kinds). free x (free y (Some (end_rows words)))) a.0 b.0, b.1)

  of_free : TakesKinds kinds → (words : Words) (rows : List Row) → end_of kinds (at kinds [] None first false) words ≡ Some rows → missing_of (final rows) ≡ []
      → (zero_fault kinds words ≡ []) × (end_rows words ≡ rows)
  of_free t words rows e m =
      let a = free_some (walk_fault (top kinds) [] (walk_from nothing_held) words) _ rows (sym (end_is words (walk_from nothing_held)) ∙ e) in
      let b = free_some (settle_fault (rules kinds) false (end_held words)) _ rows a.1 in
      let same : end_rows words ≡ rows = cc in
      (whole_is t words ∙ free_both _ _ a.0 (free_both _ _ b.0 (ap (λ (l : List Row). missing_of (final l)) same ∙ m)), same)

  -- ---- numbers

  number_in : (most : ℕ) (v : Text) → IsSignedIn (pos 0) (pos most) v → (n : ℕ) × IsNumber most v n
  number_in most v h = go (signed_digits_value 10 v) refl h.2 h.3
    where
      go : (z : ℤ) → signed_digits_value 10 v ≡ z → (pos 0) ≤ℤ signed_digits_value 10 v → signed_digits_value 10 v ≤ℤ (pos most) → (n : ℕ) × IsNumber most v n
      go (pos n) e low high =
          let within : (pos n) ≤ℤ (pos most) = rw e at high in
          (n, record { digits = h.0; value = e; within = omega (arith, ints) })
      go (negsuc n) e low high = let bad : (pos 0) ≤ℤ (negsuc n) = rw e at low in absurd (omega (arith, ints))

  fits_small : (n : ℕ) → n ≤ 1000000000 → {z : ℤ} → z ≡ pos n → FitsSigned w64 z
  fits_small n h {z} e = rw e (search search_rules)

  of_number : (most n : ℕ) (v : Text) → most ≤ 1000000000 → IsNumber most v n → accepts false (up_to most) v ≡ true
  of_number most n v limit h =
      let low : (pos 0) ≤ℤ signed_digits_value 10 v = rw h.value (omega (arith, ints)) in
      let high : signed_digits_value 10 v ≤ℤ (pos most) = let w = h.within in rw h.value (omega (arith, ints)) in
      let fits : FitsSigned w64 (signed_digits_value 10 v) = fits_small n (let w = h.within in omega arith) h.value in
      Accepts-accepts false (up_to most) v (h.digits, fits, low, high)

  -- ---- words that have the form

  abbrev Single : List Text → Type 0
  Single l = (l ≡ []) ⊎ ((v : Text) × (l ≡ v ∷ []))

  pick_single : (p : Place) (ts : List Text) → Single (pick p first ts)
  pick_single first [] = inl refl
  pick_single first (a ∷ ts) = inr (a, refl)
  pick_single second [] = inl refl
  pick_single second (a ∷ []) = inl refl
  pick_single second (a ∷ b ∷ ts) = inr (b, refl)
  pick_single third [] = inl refl
  pick_single third (a ∷ []) = inl refl
  pick_single third (a ∷ b ∷ []) = inl refl
  pick_single third (a ∷ b ∷ c ∷ ts) = inr (c, refl)
  pick_single beyond ts = inl refl

  text_ready : (p : Place) (said : List Said) → Ready kinds (text_key p) None (vals (place_id p) first said)
  text_ready p said = go (pick_single p (texts_of said))
    where
      go : Single (pick p first (texts_of said)) → Ready kinds (text_key p) None (vals (place_id p) first said)
      go (inl e) = inl (vals_place p first said ∙ e)
      go (inr s) = inr (s.0, vals_place p first said ∙ s.1, refl)

  option_ready : (o : OptionName) (said : List Said) (v : Text) → IsValue said o v → accepts false (option_parser kinds o) v ≡ true → Ready kinds (option_key o) None (vals (option_name o) first said)
  option_ready o said v (inl e) right = inr (v, vals_option o first said ∙ e, right)
  option_ready o said v (inr n) right = inl (vals_option o first said ∙ n.0)

  kind_passes : TakesKinds kinds → (k : Kind) → accepts false kinds (kind_name k) ≡ true
  kind_passes t Pure = kinds_pass t (codes "pure")
  kind_passes t Mixed = kinds_pass t (codes "mixed")

  ready : TakesKinds kinds → (said : List Said) (options : Options) → AreOptions said options → (k : Key) → Ready kinds k None (vals (key_id k) first said)
  ready t said options a (text_key p) = text_ready p said
  ready t said options a (option_key kind_option) = option_ready kind_option said (kind_name options.kind) a.kind (kind_passes t options.kind)
  ready t said options a (option_key budget_option) = option_ready budget_option said a.budget.0 a.budget.1 (of_number 1000000000 options.budget a.budget.0 (omega arith) a.budget.2)
  ready t said options a (option_key rounds_option) = option_ready rounds_option said a.rounds.0 a.rounds.1 (of_number 10000 options.rounds a.rounds.0 (omega arith) a.rounds.2)
  ready t said options a (option_key order_option) = option_ready order_option said a.order.0 a.order.1 (of_number 1000000 options.order a.order.0 (omega arith) a.order.2)

  some_texts : (ts : List Text) → 2 ≤ length ts → (is_some (slice_get ts 0) ≡ true) × (is_some (slice_get ts 1) ≡ true)
  some_texts [] h = absurd (omega arith)
  some_texts (a ∷ []) h = absurd (omega arith)
  some_texts (a ∷ b ∷ ts) h = (refl, refl)

  pub taken_of : TakesKinds kinds → (words : Words) (said : List Said) (options : Options) → HaveForm words said options
      → (zero_fault kinds words ≡ []) × AreRowsOf (zero_rows kinds words) said
  taken_of t words said options h =
      let r = runs kinds first said [] h.most (λ k own. ready t said options h.chosen k) in
      let two = some_texts (texts_of said) h.least in
      let action : is_given (codes "ACTION") (final r.0) ≡ true =
      (text_row said r.0 r.1 first).1 ∙ ap (λ (x : Option Text). is_some x) (picked first said ∙ first_text (texts_of said)) ∙ two.0 in
      let game : is_given (codes "GAME") (final r.0) ≡ true =
      (text_row said r.0 r.1 second).1 ∙ ap (λ (x : Option Text). is_some x) (picked second said ∙ second_text (texts_of said)) ∙ two.1 in
      let f = of_free t words r.0 (said_run kinds words said h.says [] None first ∙ r.1) (ap₂ missing action game) in
      (f.0, subst (λ (l : List Row). AreRowsOf l said) (sym (rows_are kinds words ∙ ended_rows (end_rows words) ∙ ap final f.1)) (are_rows t said r.0 r.1))

  -- ---- words that `clap` takes

  kind_of_row : (said : List Said) (rows : List Row) → IsKindRow rows said → (k : Kind) × IsValue said kind_option (kind_name k)
  kind_of_row said rows r = elim r.kind [
    | inl e ↦ (Pure, subst (IsValue said kind_option) e r.is_value)
    | inr e ↦ (Mixed, subst (IsValue said kind_option) e r.is_value)
  ]

  number_of_row : (said : List Said) (rows : List Row) (o : OptionName) (most : ℕ) → IsNumberRow rows said o most → (n : ℕ) × HasNumber said o most n
  number_of_row said rows o most r = let n = number_in most r.value r.number in (n.0, (r.value, r.is_value, n.1))

  options_of : (said : List Said) (rows : List Row) → AreRowsOf rows said → (options : Options) × AreOptions said options
  options_of said rows r =
      let kind = kind_of_row said rows r.kind in
      let budget = number_of_row said rows budget_option 1000000000 r.budget in
      let rounds = number_of_row said rows rounds_option 10000 r.rounds in
      let order = number_of_row said rows order_option 1000000 r.order in (
        record { kind = kind.0; budget = budget.0; rounds = rounds.0; order = order.0 },
        record { kind = kind.1; budget = budget.1; rounds = rounds.1; order = order.1 },
      )

  pub read_of : TakesKinds kinds → (words : Words) → All IsUtf8 words → zero_fault kinds words ≡ [] → AreRead words (zero_rows kinds words)
  read_of t words utf8 e = go (readings kinds words utf8).here
    where
      go : ((said : List Said) × Says words said) ⊎ ((rows : List Row) (q : Option Use) (p : Place) → end_of kinds (at kinds rows q p false) words ≡ None) → AreRead words (zero_rows kinds words)
      go (inr fails) = let bad : None ≡ Some (end_rows words) = sym (fails [] None first) ∙ (free_of t words e).0 in absurd cc
      go (inl s) =
          let f2 = free_of t words e in
          let run : run_said kinds first s.0 [] ≡ Some (end_rows words) = sym (said_run kinds words s.0 s.1 [] None first) ∙ f2.0 in
          let rows : AreRowsOf (final (end_rows words)) s.0 = are_rows t s.0 (end_rows words) run in
          let game : is_some (slice_get (texts_of s.0) 1) ≡ true =
          ap (λ (x : Option Text). is_some x) (sym (second_text (texts_of s.0)) ∙ sym (picked second s.0)) ∙ sym (text_row s.0 (end_rows words) run second).1
          ∙ none_missing _ _ f2.1 in
          record {
            said = s.0;
            says = s.1;
            least = two_texts (texts_of s.0) game;
            most = few_texts kinds first s.0 [] (end_rows words) run;
            rows_are = subst (λ (l : List Row). AreRowsOf l s.0) (sym (rows_are kinds words ∙ ended_rows (end_rows words))) rows;
            each = λ said options h. (taken_of t words said options h).1;
          }

  pub form_of : (words : Words) (rows : List Row) → AreRead words rows → HaveSomeForm words
  form_of words rows r =
      let o = options_of r.said rows r.rows_are in
      (r.said, o.0, record { says = r.says; least = r.least; most = r.most; chosen = o.1 })
