-- `cookie::cookie_option::write_fresh` meets its contract. Assumes nothing.
use Rattle.std.proofs.Common.{◌≡◌, false, ap, sym, ◌∙◌, option_map, rules}
use Rattle.cookie.proofs.MessageLaws.{not_read, is_read}
use Rattle.cookie.proofs.OptionLaws.{fresh_no_room, fresh_no_address}
use Rattle.cookie.specs.Hashed.{address_bytes}
use Rattle.cookie.specs.CookieOption.{written_number}
use Rattle.cookie.specs.ServerCookie.{is_address}
use Rattle.cookie.proofs.cookie_option.write_fresh.Goals as goal

pub returns-then-output-lt28 : goal.returns-then-output-lt28
returns-then-output-lt28 c = fresh_no_room c.args.output.now c.args.address.now _ c.if-output-lt28.true

pub returns-in_err-address : goal.returns-in_err-address
returns-in_err-address c =
    let no' : is_address c.args.address.now ≡ false = not_read _ (ap (option_map address_bytes) (sym c.in_err-address.ensures.ok_part) ∙ c.read.ensures) in
    let said : written_number c.from_residual.result ≡ 2 = search rules in
    let p = fresh_no_address c.args.output.now c.args.address.now _ c.if-output-lt28.false no' in
    (said ∙ p.0, p.1)

pub returns : goal.returns
returns c = let e = is_read c.args.address.now (address_bytes c.in_ok-address.address) (search rules) in rw (← e.1) c.write_fresh_for.ensures
