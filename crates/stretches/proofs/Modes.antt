-- The FIFO's mode in force is always one that the sheet defines; and it, and what is doubted of it, changes only by a write to 0x3E, a soft
-- reset or power-up.
-- Assumes nothing.
use mathlib.Core.Bool.{false}
use mathlib.Core.List.{List, ◌∷◌}
use mathlib.Core.Path.{◌≡◌, ap}
use Rattle.codes.specs.Addresses.{control_at}
use Rattle.codes.specs.Mode.{mode_of, is_reserved_mode}
use Rattle.paper.proofs.Codes as codes
use Rattle.recorded.specs.Recorded.{Recorded, events_of}
use Rattle.counts.specs.declared.Account.{Account}
use Rattle.stretches.specs.Histories.{account_of, is_of_mode}
use Rattle.stretches.proofs.Kept.{kept_byte, kept-doubt}

-- no mode that the sheet does not define is ever in force
pub mode-known : (rs : List Recorded) → is_reserved_mode (account_of rs).mode ≡ false
mode-known rs = codes.mode-known (events_of rs)

-- two accounts have the same mode, and doubt it alike
abbrev pub SameMode : Account → Account → Type 0
SameMode a b = (a.mode ≡ b.mode) × (a.doubts.mode ≡ b.doubts.mode)

pub mode-stays : (r : Recorded) (rs : List Recorded) → is_of_mode r.own ≡ false → SameMode (account_of (r ∷ rs)) (account_of rs)
mode-stays r rs h = (ap mode_of (kept_byte control_at r rs h), kept-doubt control_at r rs h)
