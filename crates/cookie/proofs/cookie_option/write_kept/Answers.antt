-- `cookie::cookie_option::write_kept` meets its contract. The three words are the body. Assumes nothing.
use Rattle.cookie.proofs.OptionLaws.{kept_done}
use Rattle.cookie.proofs.cookie_option.write_kept.Goals as goal

pub returns : goal.returns
returns c = kept_done _ _ _ c.if-output-lt28.false c.if-body-ne24.false _ _ _ c.word.ensures c.word-2.ensures c.word-3.ensures c.write_words.ensures
