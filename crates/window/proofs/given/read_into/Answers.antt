-- A read that gave some had room for it, and what is made of its answer is made of one that says no more than that it failed, or how much came.
use Rattle.std.proofs.Common.{arith, ℕ, zero, suc, ◌≡◌, ◌≤◌, List, length, refl, sym, ◌∙◌}
use borrow.Author.Tests.{eqb-false}
use Rattle.std.specs.Prelude.{Result, Ok, Err, IfOk}
use Rattle.std.specs.Io.{ReadsAtMost}
use Rattle.window.specs.Given.{got_of, GivenBy}
use Rattle.window.specs.declared.given.Got.{Got}
use Rattle.window.specs.declared.given.ReadFailed.{ReadFailed}
use Rattle.window.proofs.given.read_into.Goals as goal

given-by : {E : Type 0} (answer : Result ℕ E) (given : List ℕ) (got : Got) → got ≡ got_of answer (length given) → ReadsAtMost answer given → GivenBy (length given) got
given-by (Ok n) given got e few = record { answer = Ok n; moved = few.0; got-is = e }
given-by (Err x) given got e few = record { answer = Err tt; moved = tt; got-is = e }

with-room : (count : Result ℕ ReadFailed) (room : ℕ) → 1 ≤ room → IfOk count (λ n. n ≤ room) → IfOk count (λ n. (n ≤ room) × (1 ≤ room))
with-room (Ok n) room some few = (few, some)
with-room (Err e) room some few = tt

some-bytes : (n : ℕ) → (n ≡ 0 → ⊥) → 1 ≤ n
some-bytes zero none = absurd (none refl)
some-bytes (suc n) none = omega arith

pub returns-then-is_empty : goal.returns-then-is_empty
returns-then-is_empty g c = (tt, record { answer = Err tt; moved = tt; got-is = refl })

pub returns : goal.returns
returns g c =
    let long : length c.read-answer.new.buf ≡ length c.args.room.now = c.read-answer.auto.buf in
    let given = given-by c.read-answer.result c.read-answer.new.buf _ c.got_of.ensures.0 c.read-answer.ensures.bound in
    let some = some-bytes (length c.args.room.now) (eqb-false (length c.args.room.now) 0 (sym c.is_empty.ensures ∙ c.if-is_empty.false)) in
    (with-room c.got_of.result.count (length c.args.room.now) some (rw long at c.got_of.ensures.1), rw long at given)
