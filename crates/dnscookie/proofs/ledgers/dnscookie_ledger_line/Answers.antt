-- `dnscookie::ledgers::dnscookie_ledger_line` meets its contract. Assumes nothing.
use Rattle.std.proofs.Common.{rules}
use Rattle.dnscookie.proofs.LedgerLaws.{line_fits, line_put}
use Rattle.dnscookie.proofs.ledgers.dnscookie_ledger_line.Goals as goal

pub overflow_mul-result : goal.overflow_mul-result
overflow_mul-result c = search (rules, line_fits)

pub returns : goal.returns
returns c =
    line_put _ c.if-output-lt-LONGEST.false _ _ _ c.put_row.ensures _ _ _ _ _ c.in-Some.ensures c.row_of-row.ensures.0 c.if-bytes-ne32.false c.if-answer-gt10.false
