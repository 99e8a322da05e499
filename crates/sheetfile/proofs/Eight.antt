-- The eight bytes of a number, as std says them.
-- Assumes nothing.
use Prim.Native.Nat.{ℕ, ◌/◌, ◌%◌, ◌^◌, ◌≤◌, ◌<◌}
use mathlib.Core.List.{List}
use mathlib.Core.Path.{◌≡◌}
use native.Mathlib.Omega.{arith}
use lib.ListN.{length, take}
use lib.Seq.{get_or-drop}
use mir.Syntax.{w64}
use Rattle.std.specs.Int.{to_be_bytes, from_be_bytes}
use Rattle.benchlog.proofs.Bodies.{listed}
use Rattle.sheetfile.specs.Format.{big_endian8}
use Rattle.sheetfile.specs.Reader.{four_in, eight_in}

pub eight-bytes : (n : ℕ) → n < 2 ^ 64 → to_be_bytes w64 n ≡ big_endian8 n
unfolding big_endian8
eight-bytes n h =
    let a : n / 256 ^ 7 % 256 ≡ n / 4294967296 / 65536 / 256 = omega arith in
    let b : n / 256 ^ 6 % 256 ≡ n / 4294967296 / 65536 % 256 = omega arith in
    let c : n / 256 ^ 5 % 256 ≡ n / 4294967296 % 65536 / 256 = omega arith in
    let d : n / 256 ^ 4 % 256 ≡ n / 4294967296 % 65536 % 256 = omega arith in
    let e : n / 256 ^ 3 % 256 ≡ n % 4294967296 / 65536 / 256 = omega arith in
    let f : n / 256 ^ 2 % 256 ≡ n % 4294967296 / 65536 % 256 = omega arith in
    let g : n / 256 % 256 ≡ n % 4294967296 % 65536 / 256 = omega arith in
    let i : n % 256 ≡ n % 4294967296 % 65536 % 256 = omega arith in
    rw (a, b, c, d, e, f, g, i)

pub eight-joined : (s : List ℕ) → 8 ≤ length s → from_be_bytes w64 (take 8 s) ≡ eight_in s
unfolding four_in eight_in
eight-joined s long = rw (listed 8 0 s long) (simp get_or-drop (omega arith))
