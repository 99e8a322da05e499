-- What is handed to the write is the text of the month, or its bytes: all of it, and nothing else.
-- Assumes nothing.
use Prim.Native.Nat.{ℕ, ◌+◌, ◌≤◌}
use mathlib.Core.List.{List}
use mathlib.Core.Path.{◌≡◌, sym, ap, ◌∙◌}
use mathlib.Core.Bool.{false}
use native.Mathlib.Omega.{arith}
use borrow.Author.Tests.{le-ltb}
use lib.ListN.{length, take}
use lib.Seq.{length-take-le, take_at}
use Rattle.benchlog.specs.Writer.{lacks_room, room_for, placed, out_after}
use Rattle.text.specs.Text.{Pushed, place_after, left_in}
use Rattle.text.proofs.Texts.{put-pushed, pushed-length}
use Rattle.sheets.specs.declared.Month.{Month}
use Rattle.sheetfile.specs.Format.{size, encode}
use Rattle.sheetfile.proofs.Lengths.{length-encode}
use Rattle.sheetlines.specs.Lines.{month_text, longest_sheet}
use Rattle.sheetlines.proofs.Lengths.{length-month}

module _ (m : Month) (out : List ℕ) {out' : List ℕ} {to : ℕ} (long : 4096 ≡ length out)
    (put : (to ≡ place_after longest_sheet out 0 (month_text m)) × (out' ≡ left_in longest_sheet out 0 (month_text m))) where
  pushed : Pushed out 0 (month_text m) out' to
  pushed = put-pushed longest_sheet (omega arith) (length-month m) put

  pub text-within : to ≤ length out'
  text-within = omega (arith, pushed.place, pushed.room, pushed-length pushed)

  pub text-there : to ≡ length (take to out')
  text-there = sym (length-take-le to out' text-within)

  pub text-handed : take to out' ≡ month_text m
  unfolding placed
  text-handed = let l : length (month_text m) ≡ to = omega (arith, pushed.place) in rw pushed.bytes (take_at (month_text m) _ to l)

module _ (m : Month) (out : List ℕ) {out' : List ℕ} (long : 4096 ≡ length out) (put : out' ≡ out_after out 0 (encode m)) where
  pub bytes-handed : take size out' ≡ encode m
  unfolding placed room_for
  bytes-handed =
      let room : lacks_room (length out) 0 (length (encode m)) ≡ false = le-ltb (length out) (0 + length (encode m)) (omega (arith, length-encode m)) in
      rw (put, room) (take_at (encode m) _ size (length-encode m))

  pub bytes-there : size ≡ length (take size out')
  bytes-there = sym (ap length bytes-handed ∙ length-encode m)
