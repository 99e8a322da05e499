-- The digits of a number, written from the last to the first.
-- Assumes nothing.
use Prim.Native.Nat.{ℕ, zero, suc, ◌+◌, ◌-◌, ◌/◌, ◌%◌, ◌<◌}
use mathlib.Core.List.{List, [], ◌∷◌, ◌++◌, append_assoc}
use mathlib.Core.Path.{◌≡◌, refl, ap, ◌∙◌}
use native.Mathlib.Nat.{add-zero, add-suc}
use native.Mathlib.Numerals.{add-one}
use native.Mathlib.Omega.{arith}
use lib.ListN.{length, set, length-append}
use Rattle.benchlog.proofs.Places.{Put}
use Rattle.text.specs.Text.{digit, most_digits, decimal}
use Rattle.text.proofs.Texts.{by_digits, put-before}

-- the last k digits of n, with zeros in front where it has fewer
abbrev pub spelled : ℕ → ℕ → List ℕ
spelled zero n = []
spelled (suc k) n = spelled k (n / 10) ++ (digit (n % 10) ∷ [])

pub exactly : (n : ℕ) → decimal n ≡ spelled (length (decimal n)) n
unfolding decimal
exactly n = by_digits (λ k n l. l ≡ spelled (length l) n)
    (λ n. refl)
    (λ k n h. let e : n ≡ n % 10 = omega arith in ap (λ (d : ℕ). digit d ∷ []) e)
    (λ k n l h e. rw (length-append l _, add-one, ← e))
    most_digits n

-- tail stands from at + i on, and i digits of the rest are left
pub record Behind (out : List ℕ) (at n i rest : ℕ) (l : List ℕ) : Type 0 where
  pub tail : List ℕ
  pub whole : decimal n ≡ spelled i rest ++ tail
  pub put : Put out (at + i) tail l

pub next : {out : List ℕ} {at n i rest : ℕ} {l : List ℕ} → 0 < i → Behind out at n i rest l → Behind out at n (i - 1) (rest / 10) (set l (at + (i - 1)) (digit (rest % 10)))
next {i = zero} h b = absurd (omega arith)
next {i = suc j} {rest} h b =
    let e : suc j - 1 ≡ j = omega arith in
    rw e (record { tail = digit (rest % 10) ∷ b.tail; whole = b.whole ∙ append_assoc (spelled j (rest / 10)) _ b.tail; put = put-before _ (rw add-suc at b.put) })

pub done : {out : List ℕ} {at n rest : ℕ} {l : List ℕ} → Behind out at n 0 rest l → Put out at (decimal n) l
done {at = at} b = rw b.whole (rw (add-zero at) at b.put)
