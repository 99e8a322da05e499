use Prim.Native.Nat.{ℕ, ◌+◌, ◌<◌}
use mathlib.Core.List.{List, [], ◌∷◌, ◌++◌}
use mathlib.Core.Path.{◌≡◌, sym}
use native.Mathlib.Numerals.{add-one}
use native.Mathlib.Omega.{arith}
use lib.ListN.{length, get_or, take}
use lib.Seq.{take-suc, take_all}
use Rattle.text.specs.Text.{hex}
use Rattle.text.proofs.Texts.{pushed_none, pushed-two, hex-append}
use Rattle.text.proofs.put_hex.Goals as goal

-- one byte more
more : (bytes : List ℕ) (i : ℕ) → i < length bytes → hex (take i bytes) ++ hex (get_or bytes i 0 ∷ []) ≡ hex (take (i + 1) bytes)
more bytes i h = rw (add-one i, take-suc bytes i 0 h) (sym (hex-append (take i bytes) (get_or bytes i 0 ∷ [])))

pub loop-byte-init : goal.loop-byte-init
loop-byte-init c = (omega arith, pushed_none c.args.out.now c.args.at (omega arith))

pub loop-byte-preserved : goal.loop-byte-preserved
loop-byte-preserved c =
    let l = c.loop-byte in
    let p = c.put_hex_byte-to.ensures in
    (omega (arith, p.place), rw (more c.args.bytes.now l.byte-index c.loop-byte-test.true) at (pushed-two l.invariant.1 p))

pub returns : goal.returns
returns c = rw (take_all _ _ c.loop-byte-test.false) at c.loop-byte.invariant.1
