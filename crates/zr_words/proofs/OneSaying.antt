-- Words say one thing at most.
use Rattle.std.proofs.Common.{◌≡◌, ℕ, List, [], ◌∷◌, ◌++◌, map, codes, refl, sym, ap, ap₂, subst, ◌∙◌, arith, get_or, inl, inr, ◌⊎◌}
use Rattle.zr_words.specs.Words.{OptionName, Said, Says, Text, Words, IsPlain, option_name, kind_option, budget_option, rounds_option, order_option, text, option, nothing, plain, joined, apart, ended}

-- ---- what words say, by the first of them

abbrev IsNothing : Words → List Said → Type 0
IsNothing words said = (words ≡ []) × (said ≡ [])

record IsText (words : Words) (said : List Said) : Type 0 where
  pub word : Text
  pub rest : Words
  pub then : List Said
  pub word_plain : IsPlain word
  pub says : Says rest then
  pub words_are : words ≡ word ∷ rest
  pub said_is : said ≡ text word ∷ then

abbrev joined_word : OptionName → Text → Text
joined_word o value = codes "--" ++ option_name o ++ codes "=" ++ value

abbrev apart_word : OptionName → Text
apart_word o = codes "--" ++ option_name o

record IsJoined (words : Words) (said : List Said) : Type 0 where
  pub name : OptionName
  pub value : Text
  pub rest : Words
  pub then : List Said
  pub says : Says rest then
  pub words_are : words ≡ joined_word name value ∷ rest
  pub said_is : said ≡ option name value ∷ then

record IsApart (words : Words) (said : List Said) : Type 0 where
  pub name : OptionName
  pub value : Text
  pub rest : Words
  pub then : List Said
  pub says : Says rest then
  pub words_are : words ≡ apart_word name ∷ value ∷ rest
  pub said_is : said ≡ option name value ∷ then

record IsEnded (words : Words) (said : List Said) : Type 0 where
  pub rest : Words
  pub words_are : words ≡ codes "--" ∷ rest
  pub said_is : said ≡ map text rest

abbrev View : Words → List Said → Type 0
View words said =
    IsNothing words said ⊎ IsText words said ⊎ IsJoined words said ⊎ IsApart words said
    ⊎ IsEnded words said

view : (words : Words) (said : List Said) → Says words said → View words said
view words said nothing = inl (refl, refl)
view words said (plain word rest then p h) = inr (inl (record { word = word; rest = rest; then = then; word_plain = p; says = h; words_are = refl; said_is = refl }))
view words said (joined o value rest then h) = inr (inr (inl (record { name = o; value = value; rest = rest; then = then; says = h; words_are = refl; said_is = refl })))
view words said (apart o value rest then p h) = inr (inr (inr (inl (record { name = o; value = value; rest = rest; then = then; says = h; words_are = refl; said_is = refl }))))
view words said (ended rest) = inr (inr (inr (inr (record { rest = rest; words_are = refl; said_is = refl }))))

-- ---- options' names

abbrev letter : OptionName → ℕ
letter kind_option = 107
letter budget_option = 98
letter rounds_option = 114
letter order_option = 111

abbrev third : Text → ℕ
third word = get_or word 2 0

third_joined : (o : OptionName) (value : Text) → third (joined_word o value) ≡ letter o
third_joined kind_option value = refl
third_joined budget_option value = refl
third_joined rounds_option value = refl
third_joined order_option value = refl

third_apart : (o : OptionName) → third (apart_word o) ≡ letter o
third_apart kind_option = refl
third_apart budget_option = refl
third_apart rounds_option = refl
third_apart order_option = refl

one_letter : (o p : OptionName) → letter o ≡ letter p → o ≡ p
one_letter kind_option kind_option e = refl
one_letter kind_option budget_option e = absurd (omega (arith, e))
one_letter kind_option rounds_option e = absurd (omega (arith, e))
one_letter kind_option order_option e = absurd (omega (arith, e))
one_letter budget_option kind_option e = absurd (omega (arith, e))
one_letter budget_option budget_option e = refl
one_letter budget_option rounds_option e = absurd (omega (arith, e))
one_letter budget_option order_option e = absurd (omega (arith, e))
one_letter rounds_option kind_option e = absurd (omega (arith, e))
one_letter rounds_option budget_option e = absurd (omega (arith, e))
one_letter rounds_option rounds_option e = refl
one_letter rounds_option order_option e = absurd (omega (arith, e))
one_letter order_option kind_option e = absurd (omega (arith, e))
one_letter order_option budget_option e = absurd (omega (arith, e))
one_letter order_option rounds_option e = absurd (omega (arith, e))
one_letter order_option order_option e = refl

one_value : (o : OptionName) (v w : Text) → joined_word o v ≡ joined_word o w → v ≡ w
one_value kind_option v w e = cc
one_value budget_option v w e = cc
one_value rounds_option v w e = cc
one_value order_option v w e = cc

not_both : (o : OptionName) (v : Text) → joined_word o v ≡ apart_word o → ⊥
not_both kind_option v e = absurd cc
not_both budget_option v e = absurd cc
not_both rounds_option v e = absurd cc
not_both order_option v e = absurd cc

not_joined_plain : (o : OptionName) (v : Text) → IsPlain (joined_word o v) → ⊥
not_joined_plain kind_option v p = absurd cc
not_joined_plain budget_option v p = absurd cc
not_joined_plain rounds_option v p = absurd cc
not_joined_plain order_option v p = absurd cc

not_apart_plain : (o : OptionName) → IsPlain (apart_word o) → ⊥
not_apart_plain kind_option p = absurd cc
not_apart_plain budget_option p = absurd cc
not_apart_plain rounds_option p = absurd cc
not_apart_plain order_option p = absurd cc

not_joined_end : (o : OptionName) (v : Text) → joined_word o v ≡ codes "--" → ⊥
not_joined_end kind_option v e = absurd cc
not_joined_end budget_option v e = absurd cc
not_joined_end rounds_option v e = absurd cc
not_joined_end order_option v e = absurd cc

not_apart_end : (o : OptionName) → apart_word o ≡ codes "--" → ⊥
not_apart_end kind_option e = absurd cc
not_apart_end budget_option e = absurd cc
not_apart_end rounds_option e = absurd cc
not_apart_end order_option e = absurd cc

head_same : (a b : Text) (xs ys : Words) → a ∷ xs ≡ b ∷ ys → (a ≡ b) × (xs ≡ ys)
head_same a b xs ys e = (cc, cc)

not_end_plain : (word : Text) → IsPlain word → word ≡ codes "--" → ⊥
not_end_plain word p e = let q : IsPlain (codes "--") = subst IsPlain e p in absurd cc

same_joined : (o p : OptionName) (v w : Text) → joined_word o v ≡ joined_word p w → (o ≡ p) × (v ≡ w)
same_joined o p v w e =
    let names = one_letter o p (sym (third_joined o v) ∙ ap third e ∙ third_joined p w) in
    (names, one_value o v w (e ∙ ap (λ n. joined_word n w) (sym names)))

same_apart : (o p : OptionName) → apart_word o ≡ apart_word p → o ≡ p
same_apart o p e = one_letter o p (sym (third_apart o) ∙ ap third e ∙ third_apart p)

joined_or_apart : (o p : OptionName) (v : Text) → joined_word o v ≡ apart_word p → ⊥
joined_or_apart o p v e =
    let names = one_letter o p (sym (third_joined o v) ∙ ap third e ∙ third_apart p) in
    not_both o v (e ∙ ap apart_word (sym names))

-- ---- words say one thing

pub one_saying : (words : Words) (s t : List Said) → Says words s → Says words t → s ≡ t
one_saying words s t nothing k = by (view [] t k)
  where
    by : View [] t → [] ≡ t
    by (inl v) = sym v.1
    by (inr (inl v)) = let e = v.words_are in absurd cc
    by (inr (inr (inl v))) = let e = v.words_are in absurd cc
    by (inr (inr (inr (inl v)))) = let e = v.words_are in absurd cc
    by (inr (inr (inr (inr v)))) = let e = v.words_are in absurd cc
one_saying words s t (plain word rest then p h) k =
    by (view (word ∷ rest) t k) (λ ts l. one_saying rest then ts h l)
  where
    by : View (word ∷ rest) t → ((ts : List Said) → Says rest ts → then ≡ ts) → text word ∷ then ≡ t
    by (inl v) again = let e = v.0 in absurd cc
    by (inr (inl v)) again =
        let e = head_same word v.word rest v.rest v.words_are in
        let same = again v.then (subst (λ r. Says r v.then) (sym e.1) v.says) in
        ap₂ (λ w ts. text w ∷ ts) e.0 same ∙ sym v.said_is
    by (inr (inr (inl v))) again =
        let e = head_same word (joined_word v.name v.value) rest v.rest v.words_are in
        absurd (not_joined_plain v.name v.value (subst IsPlain e.0 p))
    by (inr (inr (inr (inl v)))) again =
        let e = head_same word (apart_word v.name) rest (v.value ∷ v.rest) v.words_are in
        absurd (not_apart_plain v.name (subst IsPlain e.0 p))
    by (inr (inr (inr (inr v)))) again =
        let e = head_same word (codes "--") rest v.rest v.words_are in
        absurd (not_end_plain word p e.0)
one_saying words s t (joined o value rest then h) k =
    by (view (joined_word o value ∷ rest) t k) (λ ts l. one_saying rest then ts h l)
  where
    by : View (joined_word o value ∷ rest) t → ((ts : List Said) → Says rest ts → then ≡ ts) → option o value ∷ then ≡ t
    by (inl v) again = let e = v.0 in absurd cc
    by (inr (inl v)) again =
        let e = head_same (joined_word o value) v.word rest v.rest v.words_are in
        absurd (not_joined_plain o value (subst IsPlain (sym e.0) v.word_plain))
    by (inr (inr (inl v))) again =
        let e = head_same (joined_word o value) (joined_word v.name v.value) rest v.rest v.words_are in
        let names = same_joined o v.name value v.value e.0 in
        let same = again v.then (subst (λ r. Says r v.then) (sym e.1) v.says) in
        ap₂ (λ z ts. z ∷ ts) (ap₂ option names.0 names.1) same ∙ sym v.said_is
    by (inr (inr (inr (inl v)))) again =
        let e = head_same (joined_word o value) (apart_word v.name) rest (v.value ∷ v.rest) v.words_are in
        absurd (joined_or_apart o v.name value e.0)
    by (inr (inr (inr (inr v)))) again =
        let e = head_same (joined_word o value) (codes "--") rest v.rest v.words_are in
        absurd (not_joined_end o value e.0)
one_saying words s t (apart o value rest then p h) k =
    by (view (apart_word o ∷ value ∷ rest) t k) (λ ts l. one_saying rest then ts h l)
  where
    by : View (apart_word o ∷ value ∷ rest) t → ((ts : List Said) → Says rest ts → then ≡ ts) → option o value ∷ then ≡ t
    by (inl v) again = let e = v.0 in absurd cc
    by (inr (inl v)) again =
        let e = head_same (apart_word o) v.word (value ∷ rest) v.rest v.words_are in
        absurd (not_apart_plain o (subst IsPlain (sym e.0) v.word_plain))
    by (inr (inr (inl v))) again =
        let e = head_same (apart_word o) (joined_word v.name v.value) (value ∷ rest) v.rest v.words_are in
        absurd (joined_or_apart v.name o v.value (sym e.0))
    by (inr (inr (inr (inl v)))) again =
        let e = head_same (apart_word o) (apart_word v.name) (value ∷ rest) (v.value ∷ v.rest) v.words_are in
        let name = same_apart o v.name e.0 in
        let f = head_same value v.value rest v.rest e.1 in
        let same = again v.then (subst (λ r. Says r v.then) (sym f.1) v.says) in
        ap₂ (λ z ts. z ∷ ts) (ap₂ option name f.0) same ∙ sym v.said_is
    by (inr (inr (inr (inr v)))) again =
        let e = head_same (apart_word o) (codes "--") (value ∷ rest) v.rest v.words_are in
        absurd (not_apart_end o e.0)
one_saying words s t (ended rest) k = by (view (codes "--" ∷ rest) t k)
  where
    by : View (codes "--" ∷ rest) t → map text rest ≡ t
    by (inl v) = let e = v.0 in absurd cc
    by (inr (inl v)) =
        let e = head_same (codes "--") v.word rest v.rest v.words_are in
        absurd (not_end_plain v.word v.word_plain (sym e.0))
    by (inr (inr (inl v))) =
        let e = head_same (codes "--") (joined_word v.name v.value) rest v.rest v.words_are in
        absurd (not_joined_end v.name v.value (sym e.0))
    by (inr (inr (inr (inl v)))) =
        let e = head_same (codes "--") (apart_word v.name) rest (v.value ∷ v.rest) v.words_are in
        absurd (not_apart_end v.name (sym e.0))
    by (inr (inr (inr (inr v)))) =
        let e = head_same (codes "--") (codes "--") rest v.rest v.words_are in
        ap (map text) e.1 ∙ sym v.said_is
