-- A number from 10 to the m on, and below ten times that, has m + 1 digits.
use Prim.Native.Nat.{ℕ, zero, suc, ◌+◌, ◌*◌, ◌/◌, ◌%◌, ◌^◌, ◌≤◌, ◌<◌}
use mathlib.Core.List.{List, [], ◌∷◌, ◌++◌}
use mathlib.Core.Path.{◌≡◌, refl, sym}
use native.Mathlib.Nat.{pow-suc}
use native.Mathlib.Omega.{arith}
use lib.ListN.{length, length-append}
use Rattle.text.specs.Text.{digit, most_digits, decimal}
use Rattle.text.proofs.Texts.{by_digits}
use Rattle.text.proofs.Numerals.{decimal-zero}
use Rattle.text.proofs.digits_in.Goals as goal

some : (m : ℕ) → 1 ≤ 10 ^ m
some zero = omega arith
some (suc m) = rw (pow-suc 10 m) (omega (arith, some m))

so_many : (n m : ℕ) → 10 ^ m ≤ n → n < 10 * 10 ^ m → m < most_digits → length (decimal n) ≡ m + 1
unfolding decimal
so_many n m = by_digits (λ k n l. (m : ℕ) → 10 ^ m ≤ n → n < 10 * 10 ^ m → m < k → length l ≡ m + 1)
    (λ n m p q h. absurd (omega arith))
    one
    more
    most_digits n m
  where
    one : (k n : ℕ) → n < 10 → (m : ℕ) → 10 ^ m ≤ n → n < 10 * 10 ^ m → m < suc k → 1 ≡ m + 1
    one k n h zero p q r = refl
    one k n h (suc m) p q r = absurd (omega (arith, pow-suc 10 m, some m))

    more : (k n : ℕ) (l : List ℕ) → 10 ≤ n → ((m : ℕ) → 10 ^ m ≤ n / 10 → n / 10 < 10 * 10 ^ m → m < k → length l ≡ m + 1)
        → (m : ℕ) → 10 ^ m ≤ n → n < 10 * 10 ^ m → m < suc k → length (l ++ (digit (n % 10) ∷ [])) ≡ m + 1
    more k n l h f zero p q r = absurd (omega arith)
    more k n l h f (suc m) p q r =
        let e = pow-suc 10 m in
        rw (length-append l _) (omega (arith, f m (omega arith) (omega arith) (omega arith)))

pub returns-then-n-eq0 : goal.returns-then-n-eq0
returns-then-n-eq0 c = rw (c.if-n-eq0.true, decimal-zero)

pub returns-else-n-eq0 : goal.returns-else-n-eq0
returns-else-n-eq0 c =
    let e = c.ilog10.ensures in
    sym (so_many c.args.n c.ilog10.result e.power_le e.next_power_gt e.bound)
