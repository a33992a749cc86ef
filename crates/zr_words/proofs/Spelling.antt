-- What a word looks like, and which words `clap` refuses wherever they stand.
use Rattle.std.proofs.Common.{◌≡◌, ◌≢◌, ◌⊎◌, inl, inr, ℕ, zero, suc, Bool, true, false, ◌==◌, List, [], ◌∷◌, ◌++◌, Option, Some, None, refl, sym, ap, ◌∙◌, codes, bytes_eq, arith, length, IsUtf8, slice_get, subst, eqb-true}
use Rattle.std.specs.Char.{encode_utf8}
use Rattle.std.proofs.lemmas.Str.{chars_past_char, encodes-chars}
use Rattle.std.proofs.lemmas.Bool.Decides.{nat_tests}
use Rattle.std.proofs.lemmas.Slice.Eq.{bytes_eq-Decides}
use Rattle.std.specs.Str.{chars as chars_of, encode_utf8_all}
use Rattle.std.specs.Prelude.{drop}
use Rattle.clap.specs.Words.{Row, Text, Kinds}
use Rattle.clap.specs.Walk.{Held, arg_by_long, arg_by_short}
use Rattle.clap.specs.Kinds.{or_else}
use Rattle.clap.specs.Faults.{settle_fault, flag_word_fault, flags_fault, long_fault, bundle_step_fault, short_fault}
use Rattle.clap.specs.Lexer.{long_of, short_of, name_and_value}
use Rattle.clap.proofs.CutLemmas.{Lacks}
use Rattle.clap.proofs.LexerLemmas.{name_and_value-at, name_and_value-without}
use Rattle.clap.specs.declared.builder.value_parser.ValueParser.{ValueParser}
use Rattle.zr_words.specs.Words.{OptionName, kind_option, budget_option, rounds_option, order_option, option_name, IsPlain}
use Rattle.zr_words.proofs.Rules.{rules, top}
use Rattle.zr_words.proofs.Steps.{free, free_or, free_none, joined_word, apart_word}

-- ---- plain words

pub record IsNoFlag (word : Text) : Type 0 where
  pub no_end : bytes_eq word (45 ∷ 45 ∷ []) ≡ false
  pub no_long : long_of word ≡ None
  pub no_short : short_of word ≡ None

pub plain_facts : (word : Text) → IsPlain word → IsNoFlag word
plain_facts [] h = record { no_end = refl; no_long = refl; no_short = refl }
plain_facts (b ∷ bs) h = go bs (b == 45) refl h
  where
    go : (rest : List ℕ) (t : Bool) → (b == 45) ≡ t → IsPlain (b ∷ rest) → IsNoFlag (b ∷ rest)
    go rest false e k = record { no_end = rw e refl; no_long = rw e refl; no_short = rw e refl }
    go [] true e k = record { no_end = rw e refl; no_long = rw e refl; no_short = rw e refl }
    go (c ∷ cs) true e k = let bad : false ≡ true = rw e at k in absurd cc

-- ---- a name, and what stands after its `=`

Lacks-nil : (c : ℕ) → Lacks c []
Lacks-nil c i h = absurd (omega arith)

Lacks-cons : (c x : ℕ) (xs : List ℕ) → (x == c) ≡ false → Lacks c xs → Lacks c (x ∷ xs)
Lacks-cons c x xs e h zero lt = let ne : x ≢ c = grind (arith, nat_tests) in ne
Lacks-cons c x xs e h (suc i) lt = h i (omega arith)

pub record IsCut (text name value : List ℕ) : Type 0 where
  pub is : text ≡ name ++ 61 ∷ value
  pub lacks : Lacks 61 name

pub cut : (text : List ℕ) → Lacks 61 text ⊎ ((name : List ℕ) × (value : List ℕ) × IsCut text name value)
cut [] = inl (Lacks-nil 61)
cut (x ∷ xs) = go (x == 61) refl (cut xs)
  where
    go : (t : Bool) → (x == 61) ≡ t → Lacks 61 xs ⊎ ((name : List ℕ) × (value : List ℕ) × IsCut xs name value)
        → Lacks 61 (x ∷ xs) ⊎ ((name : List ℕ) × (value : List ℕ) × IsCut (x ∷ xs) name value)
    go true e h = inr ([], xs, record { is = ap (λ y. y ∷ xs) (eqb-true _ _ e); lacks = Lacks-nil 61 })
    go false e (inl l) = inl (Lacks-cons 61 x xs e l)
    go false e (inr r) = inr (x ∷ r.0, r.1, record { is = ap (λ l. x ∷ l) r.2.is; lacks = Lacks-cons 61 x r.0 e r.2.lacks })

module _ (kinds : ValueParser) where
  abbrev pub held_with : List Row → Option (Text × List Text) → Held
  held_with rows waiting = record { rows = rows; pending = waiting; skip = 0 }

  -- the word is a fault wherever it stands before `--`
  pub record IsBlocked (word : Text) : Type 0 where
    pub no_end : bytes_eq word (45 ∷ 45 ∷ []) ≡ false
    pub fault : (rows : List Row) (waiting : Option (Text × List Text)) (o : Option (List Row))
        → free (flag_word_fault (rules kinds) false (long_of word) word (held_with rows waiting)) o ≡ None

  pub data WordForm (word : Text) : Type 0 where
    plain_form : IsPlain word → WordForm word
    end_form : word ≡ codes "--" → WordForm word
    apart_form : (o : OptionName) → word ≡ apart_word o → WordForm word
    joined_form : (o : OptionName) (v : Text) → word ≡ joined_word o v → WordForm word
    blocked_form : IsBlocked word → WordForm word

  -- ---- long names

  pub data NameForm (name : Text) : Type 0 where
    option_form : (o : OptionName) → name ≡ option_name o → NameForm name
    help_form : name ≡ codes "help" → NameForm name
    unknown_form : arg_by_long (rules kinds) name ≡ None → NameForm name

  name_form : (name : Text) → NameForm name
  unfolding top
  name_form name = go (bytes_eq (codes "kind") name) refl (bytes_eq (codes "budget") name) refl
      (bytes_eq (codes "rounds") name) refl (bytes_eq (codes "order") name) refl (bytes_eq (codes "help") name) refl
    where
      same : (a : Text) → bytes_eq a name ≡ true → name ≡ a
      same a e = sym ((bytes_eq-Decides a name).0 e)

      unknown : bytes_eq (codes "kind") name ≡ false → bytes_eq (codes "budget") name ≡ false → bytes_eq (codes "rounds") name ≡ false
          → bytes_eq (codes "order") name ≡ false → bytes_eq (codes "help") name ≡ false → arg_by_long (rules kinds) name ≡ None
      unknown a b c d e = rw (a, b, c, d, e) refl

      go : (a : Bool) → bytes_eq (codes "kind") name ≡ a → (b : Bool) → bytes_eq (codes "budget") name ≡ b
          → (c : Bool) → bytes_eq (codes "rounds") name ≡ c → (d : Bool) → bytes_eq (codes "order") name ≡ d
          → (e : Bool) → bytes_eq (codes "help") name ≡ e → NameForm name
      go true p b q c r d s e t = option_form kind_option (same _ p)
      go false p true q c r d s e t = option_form budget_option (same _ q)
      go false p false q true r d s e t = option_form rounds_option (same _ r)
      go false p false q false r true s e t = option_form order_option (same _ s)
      go false p false q false r false s true t = help_form (same _ t)
      go false p false q false r false s false t = unknown_form (unknown p q r s t)

  help_blocks : (value : Option Text) (rows : List Row) (waiting : Option (Text × List Text)) (o : Option (List Row))
      → free (long_fault (rules kinds) false (arg_by_long (rules kinds) (codes "help")) value (held_with rows waiting)) o ≡ None
  unfolding top
  help_blocks None rows waiting o = free_or (settle_fault (rules kinds) false (held_with rows waiting)) _ o ∙ free_none _
  help_blocks (Some v) rows waiting o = refl

  -- the word is `--NAME` or `--NAME=VALUE`
  abbrev IsNamed : Text → Text → Option Text → Type 0
  IsNamed word name value = long_of word ≡ Some (name, value)

  blocked_name : (word name : Text) (value : Option Text) → bytes_eq word (45 ∷ 45 ∷ []) ≡ false → IsNamed word name value
      → ((rows : List Row) (waiting : Option (Text × List Text)) (o : Option (List Row))
      → free (long_fault (rules kinds) false (arg_by_long (rules kinds) name) value (held_with rows waiting)) o ≡ None)
      → IsBlocked word
  blocked_name word name value e long blocks = record { no_end = e; fault = λ rows waiting o. rw long (blocks rows waiting o) }

  unknown_blocks : (name : Text) (value : Option Text) → arg_by_long (rules kinds) name ≡ None
      → (rows : List Row) (waiting : Option (Text × List Text)) (o : Option (List Row))
      → free (long_fault (rules kinds) false (arg_by_long (rules kinds) name) value (held_with rows waiting)) o ≡ None
  unknown_blocks name value e rows waiting o = rw e refl

  joined_is : (o : OptionName) (v : Text) → 45 ∷ 45 ∷ (option_name o ++ 61 ∷ v) ≡ joined_word o v
  joined_is kind_option v = refl
  joined_is budget_option v = refl
  joined_is rounds_option v = refl
  joined_is order_option v = refl

  abbrev long_text : ℕ → List ℕ → Text
  long_text y ys = 45 ∷ 45 ∷ y ∷ ys

  long_form : (y : ℕ) (ys : List ℕ) → WordForm (long_text y ys)
  long_form y ys = go (cut (y ∷ ys))
    where
      go : Lacks 61 (y ∷ ys) ⊎ ((name : List ℕ) × (value : List ℕ) × IsCut (y ∷ ys) name value) → WordForm (long_text y ys)
      go (inl l) =
          let long : IsNamed (long_text y ys) (y ∷ ys) None = ap (λ p. Some p) (name_and_value-without (y ∷ ys) l) in
          elim (name_form (y ∷ ys)) [
            | option_form o e ↦ apart_form o (ap (λ (n : Text). 45 ∷ 45 ∷ n) e)
            | help_form e ↦ blocked_form (blocked_name (long_text y ys) (codes "help") None refl (long ∙ ap (λ (n : Text). Some (n, None)) e) (help_blocks None))
            | unknown_form e ↦ blocked_form (blocked_name (long_text y ys) (y ∷ ys) None refl long (unknown_blocks (y ∷ ys) None e))
          ]
      go (inr r) =
          let name = r.0 in
          let v = r.1 in
          let long : IsNamed (long_text y ys) name (Some v) = ap (λ (t : Text). Some (name_and_value t)) r.2.is ∙ ap (λ p. Some p) (name_and_value-at name v r.2.lacks) in
          elim (name_form name) [
            | option_form o e ↦ joined_form o v (ap (λ (t : Text). 45 ∷ 45 ∷ t) (r.2.is ∙ ap (λ (n : Text). n ++ 61 ∷ v) e) ∙ joined_is o v)
            | help_form e ↦ blocked_form (blocked_name (long_text y ys) (codes "help") (Some v) refl (long ∙ ap (λ (n : Text). Some (n, Some v)) e) (help_blocks (Some v)))
            | unknown_form e ↦ blocked_form (blocked_name (long_text y ys) name (Some v) refl long (unknown_blocks name (Some v) e))
          ]

  -- ---- short names

  -- a text that isn't empty has a first character
  first_char : (x : ℕ) (xs : List ℕ) → IsUtf8 (45 ∷ x ∷ xs) → slice_get (chars_of (x ∷ xs)) 0 ≡ None → ⊥
  unfolding encode_utf8
  first_char x xs utf8 e = go (chars_of (x ∷ xs)) refl e
    where
      all : chars_of (45 ∷ x ∷ xs) ≡ 45 ∷ chars_of (x ∷ xs)
      all = chars_past_char (45 ∷ x ∷ xs) (x ∷ xs) 45 utf8 refl

      go : (cs : List ℕ) → chars_of (x ∷ xs) ≡ cs → slice_get cs 0 ≡ None → ⊥
      go [] is none =
          let alone : encode_utf8_all (45 ∷ []) ≡ 45 ∷ x ∷ xs = ap encode_utf8_all (sym (all ∙ ap (λ (l : List ℕ). 45 ∷ l) is)) ∙ encodes-chars (45 ∷ x ∷ xs) utf8 in
          let bad : 45 ∷ [] ≡ 45 ∷ x ∷ xs = alone in cc
      go (c ∷ cs) is none = cc

  flag_blocks : (y : ℕ) (rest : Text) (rows : List Row) (waiting : Option (Text × List Text)) (next : Held → Kinds) (o : Option (List Row)) (t : Bool) → (104 == y) ≡ t
      → free (short_fault (rules kinds) false (arg_by_short (rules kinds) y) rest (held_with rows waiting) next) o ≡ None
  unfolding top
  flag_blocks y rest rows waiting next o true e = rw e (free_or (or_else (settle_fault (rules kinds) false (held_with rows waiting)) _) _ o ∙ free_or (settle_fault (rules kinds) false (held_with rows waiting)) _ _ ∙ free_none _)
  flag_blocks y rest rows waiting next o false e = rw e refl

  step_blocks : (first : Option ℕ) (flags : Text) (rows : List Row) (waiting : Option (Text × List Text)) (next : Text → ℕ → Held → Kinds) (o : Option (List Row))
      → (first ≡ None → ⊥) → free (bundle_step_fault (rules kinds) false first flags 0 (held_with rows waiting) next) o ≡ None
  step_blocks None flags rows waiting next o h = absurd (h refl)
  step_blocks (Some y) flags rows waiting next o h = flag_blocks y (drop (length (encode_utf8 y)) flags) rows waiting (next (drop (length (encode_utf8 y)) flags) 0) o (104 == y) refl

  short_blocks : (x : ℕ) (xs : List ℕ) → IsUtf8 (45 ∷ x ∷ xs) → (rows : List Row) (waiting : Option (Text × List Text)) (o : Option (List Row))
      → free (flags_fault (rules kinds) false (length (x ∷ xs)) (x ∷ xs) 0 (held_with rows waiting)) o ≡ None
  unfolding flags_fault
  short_blocks x xs utf8 rows waiting o = step_blocks (slice_get (chars_of (x ∷ xs)) 0) (x ∷ xs) rows waiting (flags_fault (rules kinds) false (length xs)) o (first_char x xs utf8)

  pub word_form : (word : Text) → IsUtf8 word → WordForm word
  word_form [] utf8 = plain_form refl
  word_form (b ∷ bs) utf8 = hyphen bs (b == 45) refl utf8
    where
      short : (x : ℕ) (xs : List ℕ) → (x == 45) ≡ false → IsUtf8 (45 ∷ x ∷ xs) → WordForm (45 ∷ x ∷ xs)
      short x xs e u =
          let no_long : long_of (45 ∷ x ∷ xs) ≡ None = rw e refl in
          let is_short : short_of (45 ∷ x ∷ xs) ≡ Some (x ∷ xs) = rw e refl in
          blocked_form (record { no_end = rw e refl; fault = λ rows waiting o. rw (no_long, is_short) (short_blocks x xs u rows waiting o) })

      after : (rest : List ℕ) (t : Bool) (x : ℕ) → (x == 45) ≡ t → IsUtf8 (45 ∷ x ∷ rest) → WordForm (45 ∷ x ∷ rest)
      after rest false x e u = short x rest e u
      after [] true x e u = let is : x ≡ 45 = eqb-true _ _ e in end_form (ap (λ (n : ℕ). 45 ∷ n ∷ []) is)
      after (y ∷ ys) true x e u = let is : x ≡ 45 = eqb-true _ _ e in subst (λ (n : ℕ). WordForm (45 ∷ n ∷ y ∷ ys)) (sym is) (long_form y ys)

      first : (rest : List ℕ) → IsUtf8 (45 ∷ rest) → WordForm (45 ∷ rest)
      first [] u = plain_form refl
      first (x ∷ xs) u = after xs (x == 45) x refl u

      hyphen : (rest : List ℕ) (t : Bool) → (b == 45) ≡ t → IsUtf8 (b ∷ rest) → WordForm (b ∷ rest)
      hyphen rest false e u = plain_form (rw e refl)
      hyphen rest true e u = let is : b ≡ 45 = eqb-true _ _ e in subst (λ (n : ℕ). WordForm (n ∷ rest)) (sym is) (first rest (subst (λ (n : ℕ). IsUtf8 (n ∷ rest)) is u))
