-- `fifo::give` meets its contract: the first bytes are put, and zeros behind them.
use Rattle.std.proofs.Common.{ℕ, zero, suc, ◌+◌, ◌-◌, ◌≤◌, min, ◌≡◌, refl, ap, sym, ◌∙◌, List, [], ◌∷◌, ◌++◌, append-nil, arith, length, take, drop, length-drop, rules}
use Rattle.std.proofs.Math.ListN.{drop_of_length-le}
use Rattle.std.proofs.Math.Seq.{paste, length-paste, length-take-le, take_all, take_at, take-add, take-take, take-append-le, drop-append-le}
use Rattle.laws.specs.Bytes.{zeros, first_or_zeros}
use Rattle.laws.proofs.Bytes.{length-zeros}
use Rattle.fifo.proofs.give.Goals as goal

-- behind the bytes that are left there are zeros; none is left, or none is asked for
past : (n : ℕ) (left : List ℕ) (m : ℕ) → n ≤ m → min n (length left) ≡ 0 → take n (left ++ zeros m) ≡ zeros n
unfolding zeros
past zero left m h e = refl
past (suc n) [] zero h e = absurd (omega arith)
past (suc n) [] (suc m) h e = ap (λ (l : List ℕ). 0 ∷ l) (past n [] m (omega arith) (omega arith))
past (suc n) (b ∷ left) m h e = absurd (omega arith)

module _ (s : List ℕ) (held : ℕ) (stored : held ≤ length s) where
  -- n bytes: as many of the held ones as there are, and zeros
  first-is : (n : ℕ) → first_or_zeros n (take held s) ≡ take (min held n) s ++ zeros (n - min held n)
  unfolding first_or_zeros
  first-is n =
      let given = min held n in
      let bytes = take held s in
      let long : length bytes ≡ held = length-take-le held s stored in
      let few : given ≤ length bytes = omega arith in
      let none : min (n - given) (length (drop given bytes)) ≡ 0 = omega (arith, length-drop given bytes) in
      let parts : n ≡ given + (n - given) = omega arith in
      ap (λ (k : ℕ). take k (bytes ++ zeros n)) parts
      ∙ take-add given (n - given) (bytes ++ zeros n)
      ∙ rw (take-append-le given bytes (zeros n) few, take-take given held s (omega arith), drop-append-le given bytes (zeros n) few, past (n - given) (drop given bytes) n (omega arith) none)

  given_is : (out : List ℕ) → let given = min held (length out) in let n = length out - given in paste (paste out 0 s given) given (zeros n) n ≡ first_or_zeros (length out) (take held s)
  given_is out =
      let given = min held (length out) in
      let n = length out - given in
      let copied : List ℕ = paste out 0 s given in
      let long : length copied ≡ length out = length-paste out 0 s given (omega arith) (omega arith) in
      rw (
        take_at (take given s) (drop (0 + given) out) given (length-take-le given s (omega arith)),
        take_all n (zeros n) (omega (arith, length-zeros n)),
        drop_of_length-le copied {i = given + n} (omega arith),
        append-nil,
      ) (sym (first-is (length out)))

pub returns : goal.returns
returns c = rw (c.clear.ensures, c.put.ensures, c.least-given.ensures) (given_is c.args.s.now c.args.held c.requires c.args.out.now)
