use Rattle.std.proofs.Common.{ap, ap₂, ◌∙◌}
use Rattle.clap.specs.Words.{with_rule}
use Rattle.clap.specs.Simple.{app_of_fields}
use Rattle.zr_words.specs.Arguments.{as_given, zero_app}
use Rattle.zr_words.proofs.arguments.zero_command.Goals as goal

pub returns : goal.returns
unfolding zero_app
returns c =
    let kinds = c.kind_arg.ensures.rule in
    let one = c.in_ok-with_action.ensures.shape c.action_arg.ensures.local
    ∙ ap₂ with_rule c.new-named.ensures.app c.action_arg.ensures.rule in
    let two = c.in_ok-with_game.ensures.shape c.game_arg.ensures.local
    ∙ ap₂ with_rule one c.game_arg.ensures.rule in
    let three = c.in_ok-with_cert.ensures.shape c.cert_arg.ensures.local
    ∙ ap₂ with_rule two c.cert_arg.ensures.rule in
    let four = c.in_ok-with_kind.ensures.shape c.kind_arg.ensures.local
    ∙ ap₂ with_rule three kinds.2 in
    let five = c.in_ok-with_budget.ensures.shape c.budget_arg.ensures.local
    ∙ ap₂ with_rule four c.budget_arg.ensures.rule in
    let six = c.in_ok-with_rounds.ensures.shape c.rounds_arg.ensures.local
    ∙ ap₂ with_rule five c.rounds_arg.ensures.rule in
    let seven = c.in_ok-with_order.ensures.shape c.order_arg.ensures.local
    ∙ ap₂ with_rule six c.order_arg.ensures.rule in
    (kinds.0, kinds.1, ap app_of_fields c.no_binary_name.ensures ∙ ap as_given seven)
