use Rattle.zr_words.proofs.Ends.{form_of, read_of, taken_of}
use Rattle.zr_words.specs.Arguments.{zero_rows}
use Rattle.zr_words.proofs.laws.words_that_clap_takes.Goals as goal

pub returns : goal.returns
returns c = λ kinds takes words utf8. (
  (λ none. form_of kinds words (zero_rows kinds words) (read_of kinds takes words utf8 none), λ form. (taken_of kinds takes words form.0 form.1 form.2).0),
  λ said options form. (taken_of kinds takes words said options form).1,
)
