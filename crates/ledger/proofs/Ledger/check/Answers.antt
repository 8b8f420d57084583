-- `ledger::Ledger::check` meets its contract. Assumes nothing.
use Rattle.std.proofs.Common.{Err, ◌≡◌, Bool, true, false, sym, rules}
use Rattle.ledger.specs.declared.kinds.Kind.TheVariants.{Cancel}
use Rattle.ledger.proofs.RuleLaws.{member_refused}
use Rattle.ledger.proofs.Ledger.check.Goals as goal

pub returns-in_err-check_member : goal.returns-in_err-check_member
returns-in_err-check_member c =
    let other : c.args.kind ≡ Cancel → ⊥ = λ e. let same = c.if-eq.ensures in let z : ◌≡◌ {A = Bool} false true = rw e at same in cc in
    let is : c.from_residual-in_err-check_member.result ≡ Err c.in_err-check_member.field-0.0 = search rules in
    member_refused _ c.args.step _ _ _ is (sym c.in_ok-check_time.ensures) (sym c.in_ok-check_named.ensures) _ c.in-Learn.is other c.stage_before.ensures c.in_err-check_member.ensures
