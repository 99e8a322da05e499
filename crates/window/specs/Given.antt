-- What is made of the answer of a read.
use Rattle.std.specs.Prelude.{ℕ, ◌≤◌, ◌≡◌, min, Result, Ok, Err, IfOk}
use Rattle.window.specs.declared.given.Got.{Got}
use Rattle.window.specs.declared.given.ReadFailed.{ReadFailed}

-- an error is a failure; another answer says how many bytes of the room came
abbrev pub count_in : {E : Type 0} → Result ℕ E → ℕ → Result ℕ ReadFailed
count_in (Ok n) room = Ok (min n room)
count_in (Err e) room = Err (record {})

abbrev pub got_of : {E : Type 0} → Result ℕ E → ℕ → Got
got_of answer room = record { count = count_in answer room }

-- there is an answer that a read into so much room may give, of which it is made: where there is no room, that of a failure
pub record GivenBy (room : ℕ) (got : Got) : Type 0 where
  pub answer : Result ℕ (Unit {0})
  pub moved : IfOk answer (λ n. n ≤ room)
  pub got-is : got ≡ got_of answer room

-- a read into so much room: where it did not fail there was some
abbrev pub ReadInto : ℕ → Got → Type 0
ReadInto room got = IfOk got.count (λ n. (n ≤ room) × (1 ≤ room)) × GivenBy room got
