-- `rows::put_bytes` meets its contract. Assumes nothing.
use Rattle.rows.proofs.StoreLaws.{copied}
use Rattle.std.proofs.Common.{◌+◌, ◌-◌, arith}
use Rattle.rows.proofs.put_bytes.Goals as goal

pub returns : goal.returns
returns g c =
    let a = c.args in
    copied g.row.N a.at (a.at + g.row.N - a.at) a.buffer.now a.bytes c.copy_from_slice.new.self (omega arith) c.requires
    c.copy_from_slice.ensures.len c.copy_from_slice.ensures.after _ (omega arith)
