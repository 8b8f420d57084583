-- `cookie::cookie_option::write_words` meets its contract. Four runs put one after the other are one run. Assumes nothing.
use Rattle.cookie.proofs.OptionLaws.{words_done}
use Rattle.cookie.proofs.cookie_option.write_words.Goals as goal

pub returns : goal.returns
returns c = words_done _ _ _ _ _ _ _ _ _ _ _ c.requires c.le64_bytes.ensures c.le64_bytes-2.ensures c.le64_bytes-3.ensures c.put.ensures.1 c.put-2.ensures.1 c.put-3.ensures.1 c.put-4.ensures.1
