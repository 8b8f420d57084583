-- `fleet::makings::make` meets its contract. Assumes nothing.
use Rattle.std.proofs.Common.{◌≡◌, ap, ◌∙◌, rules}
use Rattle.cookie.specs.ServerCookie.{refusal_number}
use Rattle.fleet.proofs.CallLaws.{make_nothing, make_done, make_refused}
use Rattle.fleet.specs.Answers.{made_answer}
use Rattle.fleet.specs.Calls.{Answer, ◌leaving◌}
use Rattle.fleet.specs.Calls.Answer.{refused}
use Rattle.fleet.proofs.makings.make.Goals as goal

pub returns-in_default : goal.returns-in_default
returns-in_default c = search (rules, make_nothing)

pub returns-in_err-write_fresh : goal.returns-in_err-write_fresh
returns-in_err-write_fresh c =
    let said : made_answer c.from_residual.result ≡ refused (refusal_number c.in_err-write_fresh.field-0.0) = search rules in
    ap (λ (a : Answer). a leaving c.write_fresh.new.output) said ∙ make_refused _ _ _ _ _ _ _ _ c.secrets.result _ c.in-Some.is c.secrets.ensures _ c.generating.ensures _ c.clock_at-clock.ensures c.write_fresh.result c.write_fresh.ensures.0 _ c.write_fresh.ensures.1 _ c.in_err-write_fresh.was

pub returns : goal.returns
returns c = make_done _ _ _ _ _ _ _ _ c.secrets.result _ c.in-Some.is c.secrets.ensures _ c.generating.ensures _ c.clock_at-clock.ensures c.write_fresh.result c.write_fresh.ensures.0 _ c.write_fresh.ensures.1 c.in_ok-write_fresh.was
