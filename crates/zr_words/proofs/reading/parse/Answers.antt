use Rattle.clap.specs.Words.{app_of}
use Rattle.zr_words.specs.Words.{spelled}
use Rattle.zr_words.proofs.Parsed.{answer_is, are_texts}
use Rattle.zr_words.proofs.reading.parse.Goals as goal

pub returns : goal.returns
returns c = answer_is (app_of c.args.command) c.requires.0 (spelled c.args.words.now)
    c.try_get_matches_from.result c.requires.2 c.requires.1 (are_texts c.args.words.now)
    c.try_get_matches_from.ensures.kinds c.try_get_matches_from.ensures.matches
