-- Demand 1 of a function's contract, as the toolchain reads it from the source: "no caller has to check first".
use Rattle.std.specs.Prelude.{◌≡◌}
use contract.Lifetimes.{Lfts}
use denote.Triple.Clauses.{Ended, AtExit}
use denote.Triple.Entry.{Args, Res}
use Rattle.laws.specs.Outcome.{SourceClauses, Claim, promised}

-- the contract asks nothing of a call, and of whatever result and last values it allows for any arguments, what is said is so
pub record Promises (T : Ended) (contract : SourceClauses T) (said : Claim T) : Type 3 where
  pub claim : Claim T
  pub asks_nothing : contract ≡ promised T claim
  pub says : (κs : Lfts T.signature.lifetimes) (a : Args T.signature κs) (r : Res T.signature κs) (e : AtExit T κs)
      → claim κs a r e → said κs a r e
