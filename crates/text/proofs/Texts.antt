-- What is pushed piece by piece stands there as one text, and how long the texts are.
-- Assumes nothing.
use Prim.Native.Nat.{ℕ, zero, suc, ◌+◌, ◌*◌, ◌/◌, ◌%◌, ◌≤◌, ◌<◌}
use mathlib.Core.Bool.{Bool, true, false}
use mathlib.Core.List.{List, [], ◌∷◌, ◌++◌, append-nil, append_assoc}
use mathlib.Core.Path.{◌≡◌, refl, sym, ap}
use native.Mathlib.Nat.{add-zero}
use native.Mathlib.Omega.{arith}
use lib.ListN.{length, take, set, length-append, take-append-drop}
use lib.Seq.{length-take-le, take-suc, set_at}
use lib.Dec.{ltb}
use borrow.Author.Tests.{ltb-true, ltb-false, le-ltb}
use Rattle.laws.specs.Choice.{pick}
use Rattle.benchlog.specs.Writer.{lacks_room, placed}
use Rattle.interrupts.specs.declared.Pins.{Pins}
use Rattle.benchlog.proofs.Places.{Put, put-length, put_on}
use Rattle.text.specs.Text.{digit, hex_digit, last_digits, most_digits, decimal, hex, behind_space, front, line, longest_line, line_with_pins, longest_with_pins, left_in, place_after, Pushed}

-- ---- pushes
pub put-none : (out : List ℕ) (at : ℕ) → at ≤ length out → Put out at [] out
unfolding placed
put-none out at h = record { room = omega arith; is = sym (rw (add-zero at, append-nil) (take-append-drop at out)) }

-- a byte in front of those that stand there
pub put-before : {out : List ℕ} {at : ℕ} {bs l : List ℕ} (b : ℕ) → Put out (suc at) bs l → Put out at (b ∷ bs) (set l at b)
unfolding placed
put-before {out} {at} {bs} b p =
    let h : at < length out = omega (arith, p.room) in
    let short : length (take at out) ≡ at = length-take-le at out (omega arith) in
    let n : suc at + length bs ≡ at + suc (length bs) = omega arith in
    record { room = omega (arith, p.room); is = rw (p.is, take-suc out at 0 h, ← n) (simp append_assoc (set_at (take at out) _ _ b at short)) }

module _ {out : List ℕ} {at : ℕ} {new out' : List ℕ} {next : ℕ} where
  pub pushed : Put out at new out' → next ≡ at + length new → Pushed out at new out' next
  pushed p e = record { room = p.room; place = e; bytes = p.is }

  is-put : Pushed out at new out' next → Put out at new out'
  is-put p = record { room = p.room; is = p.bytes }

  pub pushed-length : Pushed out at new out' next → length out' ≡ length out
  pushed-length p = put-length (is-put p)

pub pushed_none : (out : List ℕ) (at : ℕ) → at ≤ length out → Pushed out at [] out at
pushed_none out at h = pushed (put-none out at h) (sym (add-zero at))

-- two pushes are one of both texts
pub pushed-two : {o₀ : List ℕ} {at : ℕ} {a o₁ : List ℕ} {p : ℕ} {b o₂ : List ℕ} {q : ℕ} → Pushed o₀ at a o₁ p → Pushed o₁ p b o₂ q → Pushed o₀ at (a ++ b) o₂ q
pushed-two {a = a} {b = b} f g = pushed (put_on b (is-put f) (omega (arith, pushed-length f)) f.place g.bytes) (omega (arith, length-append a b))

-- ---- a put, where there was room for it
pub put-pushed : (most : ℕ) {out : List ℕ} {at : ℕ} {new out' : List ℕ} {next : ℕ} → at + most ≤ length out → length new ≤ most
    → (next ≡ place_after most out at new) × (out' ≡ left_in most out at new) → Pushed out at new out' next
unfolding left_in place_after
put-pushed most {out} {at} {new} h n e =
    let room : lacks_room (length out) at most ≡ false = le-ltb (length out) (at + most) h in
    record { room = omega arith; place = rw room at e.0; bytes = rw room at e.1 }

-- ---- decimal digits
-- what holds of no digits, of the digit of a number below 10, and of one digit more behind those of n / 10
pub by_digits : (P : ℕ → ℕ → List ℕ → Type 0) → ((n : ℕ) → P 0 n []) → ((k n : ℕ) → n < 10 → P (suc k) n (digit n ∷ []))
    → ((k n : ℕ) (l : List ℕ) → 10 ≤ n → P k (n / 10) l → P (suc k) n (l ++ (digit (n % 10) ∷ []))) → (k n : ℕ) → P k n (last_digits k n)
unfolding last_digits
by_digits P none one more zero n = none n
by_digits P none one more (suc k) n = go (ltb n 10) refl (by_digits P none one more k (n / 10))
  where
    go : (t : Bool) → ltb n 10 ≡ t → P k (n / 10) (last_digits k (n / 10)) → P (suc k) n (pick t (digit n ∷ []) (last_digits k (n / 10) ++ (digit (n % 10) ∷ [])))
    go true e p = one k n (ltb-true n 10 e)
    go false e p = more k n (last_digits k (n / 10)) (ltb-false n 10 e) p

pub length-decimal : (n : ℕ) → length (decimal n) ≤ most_digits
unfolding decimal
length-decimal n = by_digits (λ k n l. length l ≤ k) (λ n. omega arith) (λ k n h. omega arith) (λ k n l h m. simp length-append (omega arith)) most_digits n

-- ---- hex
length-hex : (bs : List ℕ) → length (hex bs) ≡ 2 * length bs
length-hex [] = refl
length-hex (b ∷ bs) = omega (arith, length-hex bs)

pub hex-append : (a b : List ℕ) → hex (a ++ b) ≡ hex a ++ hex b
hex-append [] b = refl
hex-append (x ∷ a) b = ap (λ (l : List ℕ). hex_digit (x / 16) ∷ hex_digit (x % 16) ∷ l) (hex-append a b)

-- ---- lines
pub length-behind : (bs : List ℕ) → length (behind_space bs) ≤ 1 + 2 * length bs
length-behind [] = omega arith
length-behind (b ∷ bs) = omega (arith, length-hex bs)

pub length_front : (number answer : ℕ) (bytes : List ℕ) → 1 + length (front number answer bytes) ≤ longest_line + 2 * length bytes
length_front n a bs = simp length-append (omega (arith, length-decimal n, length-decimal a, length-behind bs))

pub length-line : (number answer : ℕ) (bytes : List ℕ) → length (line number answer bytes) ≤ longest_line + 2 * length bytes
unfolding line
length-line n a bs = rw (length-append (front n a bs)) (omega (arith, length_front n a bs))

pub length-with-pins : (number answer : ℕ) (bytes : List ℕ) (p : Pins) → length (line_with_pins number answer bytes p) ≤ longest_with_pins + 2 * length bytes
unfolding line_with_pins
length-with-pins n a bs p = rw (length-append (front n a bs)) (omega (arith, length_front n a bs))
