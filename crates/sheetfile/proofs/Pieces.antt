-- Pieces that are written one behind the other stand together.
-- Assumes nothing.
use Prim.Native.Nat.{ℕ, ◌+◌, ◌≤◌}
use mathlib.Core.List.{List, ◌++◌}
use mathlib.Core.Path.{◌≡◌}
use native.Mathlib.Omega.{arith}
use lib.ListN.{length, length-append}
use Rattle.benchlog.specs.Writer.{placed}
use Rattle.benchlog.proofs.Places.{Put, put_on}

module _ (out : List ℕ) (at : ℕ) where
  pub put_whole : {l : List ℕ} (a : List ℕ) (n : ℕ) → length a ≡ n → at + n ≤ length out → l ≡ placed out at a → Put out at a l
  put_whole a n e room q = record { room = omega arith; is = q }

  -- behind n bytes come m
  pub put-behind : {l k : List ℕ} (a b : List ℕ) (n m : ℕ) → length a ≡ n → length b ≡ m → at + n + m ≤ length out → Put out at a l → k ≡ placed l (at + n) b → Put out at (a ++ b) k
  put-behind a b n m e f room p q = put_on b p (omega arith) (omega arith) q

  -- pieces of n bytes each
  module _ (n : ℕ) (a b c : List ℕ) (la : length a ≡ n) (lb : length b ≡ n) (lc : length c ≡ n) where
    pub three : {l k j : List ℕ} → at + (n + n) + n ≤ length out → l ≡ placed out at a → k ≡ placed l (at + n) b → j ≡ placed k (at + (n + n)) c → Put out at (a ++ b ++ c) j
    three room p q r =
        let ab : length (a ++ b) ≡ n + n = omega (arith, length-append a b) in
        put-behind (a ++ b) c (n + n) n ab lc (omega arith) (put-behind a b n n la lb (omega arith) (put_whole a n la (omega arith) p) q) r

    pub four : {l k j i : List ℕ} (d : List ℕ) → length d ≡ n → at + (n + n + n) + n ≤ length out
        → l ≡ placed out at a → k ≡ placed l (at + n) b → j ≡ placed k (at + (n + n)) c → i ≡ placed j (at + (n + n + n)) d → Put out at (a ++ b ++ c ++ d) i
    four d ld room p q r s =
        let abc : length (a ++ b ++ c) ≡ n + n + n = omega (arith, length-append (a ++ b) c, length-append a b) in
        put-behind (a ++ b ++ c) d (n + n + n) n abc ld (omega arith) (three (omega arith) p q r) s
