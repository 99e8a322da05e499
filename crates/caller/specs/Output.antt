-- The status of a process behind all that it writes.
use Rattle.std.specs.Prelude.{ℕ, Bool, true, false}

-- that of one which SIGPIPE ended, as a shell tells it, where the reader of what it writes is gone; else 0
abbrev pub status_of : Bool → ℕ
status_of true = 141
status_of false = 0
