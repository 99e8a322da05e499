-- Laws of copies in a store of bytes, and of zeros past an end.
-- Assumes nothing.
use Prim.Native.Nat.{ℕ, zero, suc, ◌+◌, ◌-◌, ◌≤◌, ◌<◌, min}
use mathlib.Core.Bool.{Bool, true, false}
use mathlib.Core.Path.{◌≡◌, refl, ap, sym, ◌∙◌}
use mathlib.Core.List.{List, [], ◌++◌, append-nil, append_assoc}
use native.Mathlib.Omega.{arith}
use native.Mathlib.Nat.{zero-add}
use native.Mathlib.Numerals.{add-one}
use lib.ListN.{length, take, drop, get_or, set, replicate, length-append, length-set, length-take, length-drop, length-replicate, replicate-append-replicate, drop_of_length-le}
use lib.Seq.{paste, paste-zero, paste-suc, get_or-take, get_or-drop, get_or-append-add, take_all, take-length, take-add, drop-length, length-take-le, take_at, drop_at, drop-drop, drop-append-add, take-append-le, drop-append-le}
use lib.Dec.{ltb}
use borrow.Author.Tests.{ltb-true, ltb-false}
use Rattle.laws.specs.Bytes.{padded, first_or_zeros, zeros, between, moved_forward}

-- ---- a loop that copies
-- l is d with the first i bytes of s written from at on
pub record Copied (d : List ℕ) (at : ℕ) (s : List ℕ) (i : ℕ) (l : List ℕ) : Type 0 where
  pub long : length l ≡ length d
  pub is : l ≡ paste d at s i

pub copied_none : (d : List ℕ) (at : ℕ) (s : List ℕ) → Copied d at s 0 d
copied_none d at s = record { long = refl; is = paste-zero d at s }

-- a turn
pub copied_more : {d : List ℕ} {at : ℕ} {s : List ℕ} {i : ℕ} {l : List ℕ} {j v : ℕ} → Copied d at s i l → at + i < length d → i < length s → j ≡ at + i → v ≡ get_or s i 0 → Copied d at s (i + 1) (set l j v)
copied_more {d} {at} {s} {i} {l} {j} {v} g hd hs ej ev = record {
  long = length-set l j v ∙ g.long;
  is = rw (ej, ev, g.is, add-one i) (paste-suc d at s i 0 hd hs);
}

pub copied_all : {d : List ℕ} {at : ℕ} {s : List ℕ} {i : ℕ} {l : List ℕ} (n : ℕ) → i ≡ n → Copied d at s i l → l ≡ paste d at s n
copied_all {d} {at} {s} n e g = g.is ∙ ap (λ (k : ℕ). paste d at s k) e

-- what lies ahead of a copy to the front is as it was
pub copied-ahead : {d s : List ℕ} {i : ℕ} {l : List ℕ} (k : ℕ) → Copied d 0 s i l → i ≤ length s → get_or l (k + i) 0 ≡ get_or d (k + i) 0
copied-ahead {d} {s} {i} {l} k g h =
    let e : k + i ≡ length (take i s) + k = omega (arith, length-take-le i s h) in
    let f : 0 + i + k ≡ k + i = omega arith in
    rw (g.is, e) (get_or-append-add (take i s) (drop (0 + i) d) k 0 ∙ get_or-drop (0 + i) d k 0 ∙ ap (λ (j : ℕ). get_or d j 0) (f ∙ e))

-- all of it is written
pub paste-whole : (d s : List ℕ) → length s ≡ length d → paste d 0 s (length d) ≡ s
paste-whole d s e = rw (zero-add (length d), drop-length d) (append-nil (take (length d) s) ∙ take_all (length d) s (omega arith))

-- ---- zeros
pub length-zeros : (n : ℕ) → length (zeros n) ≡ n
unfolding zeros
length-zeros n = length-replicate n 0

pub get_d-zeros : (n i : ℕ) → get_or (zeros n) i 0 ≡ 0
unfolding zeros
get_d-zeros zero i = refl
get_d-zeros (suc n) zero = refl
get_d-zeros (suc n) (suc i) = get_d-zeros n i

pub drop-zeros : (k n : ℕ) → drop k (zeros n) ≡ zeros (n - k)
unfolding zeros
drop-zeros zero n = let e : n ≡ n - 0 = omega arith in ap (λ (m : ℕ). replicate m 0) e
drop-zeros (suc k) zero = let e : 0 ≡ 0 - suc k = omega arith in ap (λ (m : ℕ). replicate m 0) e
drop-zeros (suc k) (suc n) = let e : n - k ≡ suc n - suc k = omega arith in drop-zeros k n ∙ ap (λ (m : ℕ). replicate m 0) e

pub zeros-zeros : (n m : ℕ) → zeros n ++ zeros m ≡ zeros (n + m)
unfolding zeros
zeros-zeros n m = replicate-append-replicate n m 0

-- ---- the first bytes, with zeros past an end
-- only the first n bytes count
pub first-front : (n : ℕ) (x y : List ℕ) → n ≤ length x → first_or_zeros n (x ++ y) ≡ first_or_zeros n x
unfolding first_or_zeros
first-front n x y h = rw append_assoc (take-append-le n x (y ++ zeros n) h ∙ sym (take-append-le n x (zeros n) h))

-- zeros at the end do not count
pub first-trailing : (n m : ℕ) (x : List ℕ) → first_or_zeros n (x ++ zeros m) ≡ first_or_zeros n x
unfolding first_or_zeros
first-trailing n m x =
    let e : m + n ≡ n + m = omega arith in
    let l : (x ++ zeros m) ++ zeros n ≡ (x ++ zeros n) ++ zeros m =
    append_assoc x (zeros m) (zeros n) ∙ ap (λ (z : List ℕ). x ++ z) (zeros-zeros m n ∙ ap zeros e ∙ sym (zeros-zeros n m)) ∙ sym (append_assoc x (zeros n) (zeros m)) in
    ap (take n) l ∙ take-append-le n (x ++ zeros n) (zeros m) (omega (arith, length-append x (zeros n), length-zeros n))

-- the first m bytes, and the n behind them
first-add : (m n : ℕ) (x : List ℕ) → first_or_zeros (m + n) x ≡ first_or_zeros m x ++ first_or_zeros n (drop m (x ++ zeros m))
unfolding first_or_zeros
first-add m n x =
    let long : m ≤ length (x ++ zeros m) = omega (arith, length-append x (zeros m), length-zeros m) in
    let l : x ++ zeros (m + n) ≡ (x ++ zeros m) ++ zeros n = ap (λ (z : List ℕ). x ++ z) (sym (zeros-zeros m n)) ∙ sym (append_assoc x (zeros m) (zeros n)) in
    ap (take (m + n)) l ∙ take-add m n ((x ++ zeros m) ++ zeros n) ∙ rw (take-append-le m (x ++ zeros m) (zeros n) long, drop-append-le m (x ++ zeros m) (zeros n) long)

pub first-cut : (m n : ℕ) (x : List ℕ) → first_or_zeros m x ++ first_or_zeros n (drop m x) ≡ first_or_zeros (m + n) x
first-cut m n x = sym (first-add m n x ∙ ap (λ (l : List ℕ). first_or_zeros m x ++ l) (rest (ltb m (length x)) refl))
  where
    rest : (t : Bool) → ltb m (length x) ≡ t → first_or_zeros n (drop m (x ++ zeros m)) ≡ first_or_zeros n (drop m x)
    rest true e = ap (first_or_zeros n) (drop-append-le m x (zeros m) (omega (arith, ltb-true m (length x) e))) ∙ first-trailing n m (drop m x)
    rest false e =
        let k : m ≡ length x + (m - length x) = omega (arith, ltb-false m (length x) e) in
        let d : drop m (x ++ zeros m) ≡ zeros (m - (m - length x)) =
        ap (λ (j : ℕ). drop j (x ++ zeros m)) k ∙ drop-append-add x (zeros m) (m - length x) ∙ drop-zeros (m - length x) m in
        let o : drop m x ≡ [] = drop_of_length-le x {i = m} (ltb-false m (length x) e) in
        rw (d, o) (first-trailing n (m - (m - length x)) [])

-- ---- bytes that are written into a run of bytes
-- behind x
paste-behind : (x y s : List ℕ) (at n : ℕ) → length x ≡ at → paste (x ++ y) at s n ≡ x ++ take n s ++ drop n y
paste-behind x y s at n e = rw (take_at x y at e, ← e, drop-append-add)

pub paste-padded : (room : ℕ) (x s : List ℕ) (at n : ℕ) → length x ≡ at → n ≤ length s → paste (padded room x) at s n ≡ padded room (x ++ take n s)
unfolding padded
paste-padded room x s at n e h =
    let z : room - length x - n ≡ room - length (x ++ take n s) = omega (arith, length-append x (take n s), length-take-le n s h) in
    rw (paste-behind x _ s at n e, drop-zeros, z)

-- ---- bytes that move to the front
pub length-between : (from to : ℕ) (bs : List ℕ) → length (between from to bs) ≡ min to (length bs) - from
length-between from to bs = length-drop from (take to bs) ∙ rw length-take

pub get_d_between : (from to : ℕ) (bs : List ℕ) (i : ℕ) → from + i < to → get_or (between from to bs) i 0 ≡ get_or bs (from + i) 0
get_d_between from to bs i h = get_or-drop from (take to bs) i 0 ∙ get_or-take to bs (from + i) 0 h

pub copied-forward : (from to : ℕ) {i : ℕ} {bs l : List ℕ} → i ≡ length (between from to bs) → Copied bs 0 (between from to bs) i l → l ≡ moved_forward from to bs
unfolding moved_forward
copied-forward from to {bs = bs} e g = copied_all (length (between from to bs)) e g ∙ rw (take-length (between from to bs), zero-add)

-- of a and b, b moves to the front, and s is written behind it
pub paste-moved : (a b z s : List ℕ) (p q r : ℕ) → length a ≡ p → length b ≡ q → length (a ++ b) ≡ r → paste (moved_forward p r (a ++ b ++ z)) q s p ≡ b ++ take p s ++ z
unfolding moved_forward
paste-moved a b z s p q r ea eb er =
    let d = a ++ b ++ z in
    let l : length (a ++ b) ≡ q + p = omega (arith, length-append a b) in
    let f : between p r d ≡ b = rw (take_at (a ++ b) z r er) (drop_at a b p ea) in
    let h : drop p (drop q d) ≡ z = drop-drop p q d ∙ drop_at (a ++ b) z (q + p) l in
    rw (f, eb) (paste-behind b (drop q d) s q p eb ∙ rw h)
