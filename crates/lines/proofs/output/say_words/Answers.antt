-- `say_words` meets its contract: what is written at once is all that the pieces are. Assumes nothing.
use Rattle.std.proofs.Common.{take, refl}
use Rattle.lines.proofs.WordLaws.{written_at_once}
use Rattle.lines.proofs.output.say_words.Goals as goal

pub returns-in-Ok : goal.returns-in-Ok
returns-in-Ok g c =
    written_at_once c.write_all.result (g.D.Display.output c.args.words.now) (λ w. take w.len w.bytes) _ c.write.new.self (g.W.Write.contents c.args.out.now)
    (g.W.Write.contents c.write_all.new.self) refl c.in-Ok.ensures.writes c.write_all.ensures.bytes
