-- The words that lines begin with.
use Rattle.std.specs.Prelude.{if◌then◌else◌, Option, Some, None, bytes_eq, codes}
use Rattle.zr_form.specs.Reading.{Bytes}
use Rattle.zr_lines.specs.declared.words.NodeWord.{NodeWord}
use Rattle.zr_lines.specs.declared.words.NodeWord.TheVariants as nodes
use Rattle.zr_lines.specs.declared.words.NamedWord.{NamedWord}
use Rattle.zr_lines.specs.declared.words.NamedWord.TheVariants as named
use Rattle.zr_lines.specs.declared.words.CaseWord.{CaseWord}
use Rattle.zr_lines.specs.declared.words.CaseWord.TheVariants as cases
use Rattle.zr_lines.specs.declared.words.BoxWord.{BoxWord}
use Rattle.zr_lines.specs.declared.words.BoxWord.TheVariants as boxes

-- the word, if it is this one, else what the others give
abbrev pub or_else : {W : Type 0} → Bytes → Bytes → W → Option W → Option W
or_else f word w others = if bytes_eq f word then Some w else others

-- the word of a tree's node
abbrev pub node_word : Bytes → Option NodeWord
node_word f =
    or_else f (codes "split") nodes.Split (or_else f (codes "choose") nodes.Choose (or_else f (codes "leaf") nodes.Leaf (or_else f (codes "known") nodes.Known (or_else f (codes "loose") nodes.Loose None))))

abbrev pub node_word_text : NodeWord → Bytes
node_word_text nodes.Split = codes "split"
node_word_text nodes.Choose = codes "choose"
node_word_text nodes.Leaf = codes "leaf"
node_word_text nodes.Known = codes "known"
node_word_text nodes.Loose = codes "loose"

-- the word of a named point or ray
abbrev pub named_word : Bytes → Option NamedWord
named_word f = or_else f (codes "point") named.Point (or_else f (codes "ray") named.Ray None)

abbrev pub named_word_text : NamedWord → Bytes
named_word_text named.Point = codes "point"
named_word_text named.Ray = codes "ray"

-- the word of a refutation's node
abbrev pub case_word : Bytes → Option CaseWord
case_word f =
    or_else f (codes "onoff") cases.OnOff (or_else f (codes "row") cases.Row (or_else f (codes "which") cases.Which (or_else f (codes "close") cases.Close None)))

abbrev pub case_word_text : CaseWord → Bytes
case_word_text cases.OnOff = codes "onoff"
case_word_text cases.Row = codes "row"
case_word_text cases.Which = codes "which"
case_word_text cases.Close = codes "close"

-- the word of a box tree's node
abbrev pub box_word : Bytes → Option BoxWord
box_word f = or_else f (codes "split") boxes.Split (or_else f (codes "empty") boxes.Empty (or_else f (codes "deviate") boxes.Deviate None))

abbrev pub box_word_text : BoxWord → Bytes
box_word_text boxes.Split = codes "split"
box_word_text boxes.Empty = codes "empty"
box_word_text boxes.Deviate = codes "deviate"
