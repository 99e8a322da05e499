-- Runs of bytes, with zeros past their end.
use Rattle.std.specs.Prelude.{ℕ, ◌-◌, List, ◌++◌, length, take, drop, replicate}

unfoldable pub zeros : ℕ → List ℕ
zeros n = replicate n 0

-- bs, and zeros up to room bytes
unfoldable pub padded : ℕ → List ℕ → List ℕ
padded room bs = bs ++ zeros (room - length bs)

-- the first n bytes of bs, with zeros past its end
unfoldable pub first_or_zeros : ℕ → List ℕ → List ℕ
first_or_zeros n bs = take n (bs ++ zeros n)

-- the bytes of bs from one place up to another; past its end there are none
abbrev pub between : ℕ → ℕ → List ℕ → List ℕ
between from to bs = drop from (take to bs)

-- those bytes at the front, and behind them what stood there
unfoldable pub moved_forward : ℕ → ℕ → List ℕ → List ℕ
moved_forward from to bs = between from to bs ++ drop (length (between from to bs)) bs
