use Rattle.serde_json.specs.View.{view}
use Rattle.zr_read.proofs.Answering.{answers_source, answers_refusal}
use Rattle.zr_read.proofs.game.read_game.Goals as goal

pub returns-in-Ok-clause-source : goal.returns-in-Ok-clause-source
returns-in-Ok-clause-source c =
    answers_source c.args.bytes.now (view c.in-Ok.value) c.in-Ok.ensures.ok c.read_value.result
    c.read_value.ensures

pub returns-in-Ok-clause-refused : goal.returns-in-Ok-clause-refused
returns-in-Ok-clause-refused c =
    answers_refusal c.args.bytes.now (view c.in-Ok.value) c.in-Ok.ensures.ok c.read_value.result
    c.read_value.ensures
