use mathlib.Core.Path.{◌≡◌, refl, sym, ap, ◌∙◌}
use native.Mathlib.Omega.{arith}
use borrow.Author.Rules.{rules}
use lib.ListN.{length}
use Rattle.std.specs.Prelude.{Ok}
use Rattle.benchlog.specs.Writer.{room_for, written}
use Rattle.benchlog.proofs.Places.{had-room}
use Rattle.sheetfile.specs.Format.{encode}
use Rattle.sheetfile.proofs.Lengths.{length-encode}
use Rattle.sheetfile.proofs.write_month.Goals as goal

pub returns-in_err-next : goal.returns-in_err-next
returns-in_err-next c =
    let a = c.args in
    let is = ap (room_for (length a.out.now) a.place) (length-encode a.month) ∙ sym c.room_for.ensures ∙ c.in_err-next.was in
    rw is (search rules, refl)

pub put_month-requires : goal.put_month-requires
put_month-requires c = let room = (had-room _ _ _ _ (sym c.room_for.ensures ∙ c.in_ok-next.was)).0 in omega arith

pub returns : goal.returns
returns c =
    let a = c.args in
    let is : written a.out.now a.place (encode a.month) ≡ Ok c.in_ok-next.next =
    ap (room_for (length a.out.now) a.place) (length-encode a.month) ∙ sym c.room_for.ensures ∙ c.in_ok-next.was in
    rw is (refl, c.put_month.ensures.0)
