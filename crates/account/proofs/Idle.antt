-- To the account a clock is what a cycle start is: the contract of after_idle serves both.
-- Assumes nothing.
use Prim.Native.Nat.{ℕ}
use mathlib.Core.Path.{◌≡◌, refl}
use Rattle.codes.specs.declared.Mode.{Mode}
use Rattle.codes.specs.declared.Range.{Range}
use Rattle.registers.specs.Answers.{Answer}
use Rattle.events.specs.Event.{cycle, clock}
use Rattle.counts.specs.declared.Account.{Account}
use Rattle.account.specs.Account.{counts_after, account_after}

pub clock-as-cycle : (account : Account) (us : ℕ) (answer : Answer) (range : Range) (mode : Mode) (held : ℕ)
    → account_after account (clock us) answer range mode held ≡ account_after account cycle answer range mode held
unfolding counts_after account_after
clock-as-cycle account us answer range mode held = refl
