-- The window of a lent buffer: what came and is not used; how a run moves it, and how a read.
use Rattle.std.specs.Prelude.{ℕ, ◌+◌, ◌-◌, ◌≤◌, ◌<◌, min, ◌≡◌, false, List, ◌++◌, length, eqb, Result, Ok, Err}
use Rattle.laws.specs.Bytes.{between}
use Rattle.window.specs.declared.given.Got.{Got}
use Rattle.window.specs.declared.given.ReadFailed.{ReadFailed}
use Rattle.window.specs.declared.Window.{Window}

-- before the first read
abbrev pub start : Window
start = record { from = 0; to = 0; last = false }

-- the places lie within a buffer of so many bytes
abbrev pub Within : Window → ℕ → Type 0
Within w room = (w.from ≤ w.to) × (w.to ≤ room)

-- what came and is not used
unfoldable pub unused : Window → List ℕ → List ℕ
unused w buffer = between w.from w.to buffer

-- after so many bytes more are used, as far as there are so many
abbrev pub past : Window → ℕ → Window
past w used = record { from = w.from + min used (w.to - w.from); to = w.to; last = w.last }

-- with what is not used at the front of the buffer
abbrev pub at_front : Window → List ℕ → Window
at_front w buffer = record { from = 0; to = length (unused w buffer); last = w.last }

-- the buffer has room behind it
abbrev pub HasRoom : Window → List ℕ → Type 0
HasRoom w buffer = length (unused w buffer) < length buffer

-- after a read of so many bytes: of none, where the input has ended
abbrev pub with_read : Window → ℕ → Window
with_read w n = record { from = w.from; to = w.to + n; last = eqb n 0 }

-- ---- the call
-- what is made of what a read gave
abbrev pub more_by : Window → Result ℕ ReadFailed → Result Window ReadFailed
more_by w (Ok n) = Ok (with_read w n)
more_by w (Err e) = Err e

abbrev pub more_of : Window → Got → Result Window ReadFailed
more_of w got = more_by w got.count

-- a read gave part: it stands behind what was not used
pub record Refilled (w : Window) (buffer : List ℕ) (w' : Window) (buffer' : List ℕ) : Type 0 where
  pub part : List ℕ
  pub window : w' ≡ with_read (at_front w buffer) (length part)
  pub bytes : unused w' buffer' ≡ unused w buffer ++ part

-- what reading more comes to, by whether it failed
abbrev pub RefilledAs : Result (Unit {0}) ReadFailed → Window → List ℕ → Window → List ℕ → Type 0
RefilledAs (Err e) w buffer w' buffer' = w' ≡ at_front w buffer
RefilledAs (Ok read) w buffer w' buffer' = HasRoom w buffer × Refilled w buffer w' buffer' × Within w' (length buffer)
