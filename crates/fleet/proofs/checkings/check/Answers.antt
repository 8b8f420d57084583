-- `fleet::checkings::check` meets its contract. Assumes nothing.
use Rattle.std.proofs.Common.{◌≡◌, [], ap, ◌∙◌, rules}
use Rattle.cookie.specs.ServerCookie.{refusal_number}
use Rattle.fleet.proofs.CallLaws.{check_nothing, check_found, check_refused}
use Rattle.fleet.specs.Answers.{checked_answer}
use Rattle.fleet.specs.Calls.{Answer, ◌leaving◌}
use Rattle.fleet.specs.Calls.Answer.{refused}
use Rattle.fleet.proofs.checkings.check.Goals as goal

pub returns-in_default : goal.returns-in_default
returns-in_default c = search (rules, check_nothing)

pub returns-in_err-judge : goal.returns-in_err-judge
returns-in_err-judge c =
    let said : checked_answer c.from_residual.result ≡ refused (refusal_number c.in_err-judge.field-0.0) = search rules in
    ap (λ (a : Answer). a leaving []) said ∙ search (rules, check_refused)

pub returns : goal.returns
returns c = search (rules, check_found)
