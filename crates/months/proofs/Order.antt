-- The smaller and the larger of two numbers: the same whatever the order, and in any grouping.
-- Assumes nothing.
use Prim.Native.Nat.{ℕ, ◌≤◌}
use mathlib.Core.Bool.{Bool, true, false, not}
use mathlib.Core.Path.{◌≡◌, refl, ap}
use native.Mathlib.Nat.{le_antisymm, le_trans}
use native.Mathlib.Omega.{arith}
use lib.Dec.{T, ltb, ltb→lt, le→leb, leb→le}
use lib.IntN.{ℤ, pos, negsuc}
use lib.Signed.{lt_z, le_z, ◌≤ℤ◌, ≤ℤ_refl, lt_z_no}
use Rattle.laws.specs.Choice.{pick}
use Rattle.sheets.specs.Sheets.{smaller, larger}

le-trans' : (a b c : ℤ) → T (le_z a b) → T (le_z b c) → T (le_z a c)
le-trans' (pos a) (pos b) (pos c) h k = le→leb a c (le_trans (leb→le a b h) (leb→le b c k))
le-trans' (pos a) (pos b) (negsuc c) h k = absurd k
le-trans' (pos a) (negsuc b) c h k = absurd h
le-trans' (negsuc a) (pos b) (pos c) h k = tt
le-trans' (negsuc a) (pos b) (negsuc c) h k = absurd k
le-trans' (negsuc a) (negsuc b) (pos c) h k = tt
le-trans' (negsuc a) (negsuc b) (negsuc c) h k = le→leb c a (le_trans (leb→le c b k) (leb→le b a h))

pub ≤ℤ-trans : {a b c : ℤ} → a ≤ℤ b → b ≤ℤ c → a ≤ℤ c
≤ℤ-trans {a} {b} {c} h k = record { le = le-trans' a b c h.le k.le }

antisym' : (a b : ℤ) → T (le_z a b) → T (le_z b a) → a ≡ b
antisym' (pos a) (pos b) h k = ap pos (le_antisymm (leb→le a b h) (leb→le b a k))
antisym' (pos a) (negsuc b) h k = absurd h
antisym' (negsuc a) (pos b) h k = absurd k
antisym' (negsuc a) (negsuc b) h k = ap negsuc (le_antisymm (leb→le a b k) (leb→le b a h))

antisym : {a b : ℤ} → a ≤ℤ b → b ≤ℤ a → a ≡ b
antisym {a} {b} h k = antisym' a b h.le k.le

lt_le' : (m n : ℕ) → T (ltb m n) → m ≤ n
lt_le' m n t = let h = ltb→lt m n t in omega arith

below : (a b : ℤ) → lt_z a b ≡ true → a ≤ℤ b
below a b h = go a b (rw h tt)
  where
    go : (a b : ℤ) → T (lt_z a b) → a ≤ℤ b
    go (pos a) (pos b) t = record { le = le→leb a b (lt_le' a b t) }
    go (pos a) (negsuc b) t = absurd t
    go (negsuc a) (pos b) t = record { le = tt }
    go (negsuc a) (negsuc b) t = record { le = le→leb b a (lt_le' b a t) }

not-below : (a b : ℤ) → lt_z a b ≡ false → b ≤ℤ a
not-below a b h = lt_z_no (rw h tt)

-- ---- in any ordering of numbers: what comes first of two
record Ordering : Type 1 where
  before : ℤ → ℤ → Bool
  Le : ℤ → ℤ → Type 0
  yes : (a b : ℤ) → before a b ≡ true → Le a b
  no : (a b : ℤ) → before a b ≡ false → Le b a
  trans : (a b c : ℤ) → Le a b → Le b c → Le a c
  same : (a b : ℤ) → Le a b → Le b a → a ≡ b
  own : (a : ℤ) → Le a a

module _ (o : Ordering) where
  abbrev first : ℤ → ℤ → ℤ
  first a b = pick (o.before b a) b a

  module _ (a b : ℤ) where
    left : o.Le (first a b) a
    left = go (o.before b a) refl
      where
        go : (t : Bool) → o.before b a ≡ t → o.Le (pick t b a) a
        go true e = o.yes b a e
        go false e = o.own a

    right : o.Le (first a b) b
    right = go (o.before b a) refl
      where
        go : (t : Bool) → o.before b a ≡ t → o.Le (pick t b a) b
        go true e = o.own b
        go false e = o.no b a e

    most : (c : ℤ) → o.Le c a → o.Le c b → o.Le c (first a b)
    most c h k = go (o.before b a)
      where
        go : (t : Bool) → o.Le c (pick t b a)
        go true = k
        go false = h

  first-swap : (a b : ℤ) → first a b ≡ first b a
  first-swap a b = o.same (first a b) (first b a) (most b a (first a b) (right a b) (left a b)) (most a b (first b a) (right b a) (left b a))

  first_group : (a b c : ℤ) → first (first a b) c ≡ first a (first b c)
  first_group a b c =
      let ab = first a b in
      let bc = first b c in
      let l = first ab c in
      let r = first a bc in
      o.same l r
      (most a bc l (o.trans l ab a (left ab c) (left a b)) (most b c l (o.trans l ab b (left ab c) (right a b)) (right ab c)))
      (most ab c r (most a b r (left a bc) (o.trans r bc b (right a bc) (left b c))) (o.trans r bc c (right a bc) (right b c)))

-- ---- the smaller; and the larger, which is the same the other way round
abbrev up : Ordering
up = record { before = lt_z; Le = λ a b. a ≤ℤ b; yes = below; no = not-below; trans = λ a b c h k. ≤ℤ-trans h k; same = λ a b h k. antisym h k; own = ≤ℤ_refl }

abbrev down : Ordering
down = record {
  before = λ a b. lt_z b a;
  Le = λ a b. b ≤ℤ a;
  yes = λ a b. below b a;
  no = λ a b. not-below b a;
  trans = λ a b c h k. ≤ℤ-trans k h;
  same = λ a b h k. antisym k h;
  own = ≤ℤ_refl;
}

pub smaller-swap : (a b : ℤ) → smaller a b ≡ smaller b a
smaller-swap = first-swap up

pub smaller-group : (a b c : ℤ) → smaller (smaller a b) c ≡ smaller a (smaller b c)
smaller-group = first_group up

pub larger-swap : (a b : ℤ) → larger a b ≡ larger b a
larger-swap = first-swap down

pub larger-group : (a b c : ℤ) → larger (larger a b) c ≡ larger a (larger b c)
larger-group = first_group down

pub smaller-first : (a b : ℤ) → smaller a b ≤ℤ a
smaller-first = left up

pub smaller-second : (a b : ℤ) → smaller a b ≤ℤ b
smaller-second = right up

pub larger-first : (a b : ℤ) → a ≤ℤ larger a b
larger-first = left down

pub larger-second : (a b : ℤ) → b ≤ℤ larger a b
larger-second = right down
