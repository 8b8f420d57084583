-- `lines::reader::Lines::read_line` ends: each turn reads at least a byte. Assumes nothing.
use Rattle.std.proofs.Common.{◌-◌, length}
use Rattle.lines.proofs.reader.Lines.read_line.Given as goal

abbrev pub decreases-loop-self : goal.decreases-loop-self
decreases-loop-self g l = length l.self.buffer.now - l.self.have
