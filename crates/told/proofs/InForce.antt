-- What the words say of the range and the mode in force: a line is told exactly where one of them, or what is doubted of it, is not what it
-- was, which only a record can do that has to do with it; and the frames that are said are those that the FIFO can hold.
-- Assumes nothing.
use Prim.Native.Nat.{ℕ}
use mathlib.Core.Bool.{true, false}
use mathlib.Core.List.{List, ◌∷◌, ◌++◌}
use mathlib.Core.Path.{◌≡◌, refl}
use lib.Dec.{eqb}
use Rattle.laws.specs.Choice.{pick}
use Rattle.codes.specs.Mode.{is_reserved_mode}
use Rattle.codes.specs.declared.Mode.{Mode}
use Rattle.codes.specs.declared.Mode.TheVariants.{Bypass, Fifo, Stream, Reserved}
use Rattle.fifo.specs.Setting.{depth_in}
use Rattle.device.specs.Device.{depth}
use Rattle.history.specs.History.{setting}
use Rattle.recorded.specs.Recorded.{Recorded, events_of}
use Rattle.text.specs.Text.{ascii, decimal, last_digits}
use Rattle.wording.specs.Wording.{frames_word}
use Rattle.counts.specs.Counts.{is_same_range, is_same_mode}
use Rattle.counts.proofs.Same.{same-range-is, same-mode-is}
use Rattle.stretches.specs.Histories.{account_of, is_of_range, is_of_mode}
use Rattle.stretches.proofs.Modes.{mode-known, mode-stays}
use Rattle.stretches.proofs.Ranges.{range-kept}

-- no line is told behind a record that has nothing to do with it
pub range-untold : (r : Recorded) (rs : List Recorded) → is_of_range r.own ≡ false → is_same_range (account_of (r ∷ rs)) (account_of rs) ≡ true
range-untold r rs h = (same-range-is (account_of (r ∷ rs)) (account_of rs)).1 (range-kept r rs h)

pub mode-untold : (r : Recorded) (rs : List Recorded) → is_of_mode r.own ≡ false → is_same_mode (account_of (r ∷ rs)) (account_of rs) ≡ true
mode-untold r rs h = (same-mode-is (account_of (r ∷ rs)) (account_of rs)).1 (mode-stays r rs h)

-- ---- how deep the FIFO is
-- "Depth is 32 in FIFO and STREAM, 1 in BYPASS": so many frames, in words
abbrev pub frames_for : ℕ → List ℕ
frames_for n = ascii ", " ++ (decimal n ++ pick (eqb n 1) (ascii " frame") (ascii " frames"))

deep-said : (m : Mode) → is_reserved_mode m ≡ false → frames_word m ≡ frames_for (depth_in depth m)
unfolding decimal last_digits
deep-said Bypass h = refl
deep-said Fifo h = refl
deep-said Stream h = refl
deep-said Reserved h = cc

pub frames-said : (rs : List Recorded) → frames_word (account_of rs).mode ≡ frames_for (setting (events_of rs)).depth
frames-said rs = deep-said (account_of rs).mode (mode-known rs)
