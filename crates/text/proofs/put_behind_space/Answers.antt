use Prim.Native.Nat.{ℕ}
use mathlib.Core.List.{List, [], ◌∷◌}
use mathlib.Core.Path.{◌≡◌, refl}
use native.Mathlib.Omega.{arith}
use lib.ListN.{length}
use Rattle.text.specs.Text.{space, hex, behind_space}
use Rattle.text.proofs.Texts.{pushed_none, pushed-two}
use Rattle.text.proofs.put_behind_space.Goals as goal

none : (bs : List ℕ) → length bs ≡ 0 → behind_space bs ≡ []
none [] h = refl
none (b ∷ bs) h = absurd (omega arith)

some : (bs : List ℕ) → (length bs ≡ 0 → ⊥) → behind_space bs ≡ space ∷ hex bs
some [] h = absurd (h refl)
some (b ∷ bs) h = refl

pub returns-then-bytes-eq0 : goal.returns-then-bytes-eq0
returns-then-bytes-eq0 c = rw (none c.args.bytes.now c.if-bytes-eq0.true) (pushed_none c.args.out.now c.args.at (omega arith))

pub returns : goal.returns
returns c = rw (some c.args.bytes.now c.if-bytes-eq0.false) (pushed-two c.put_byte-to.ensures c.put_hex.ensures)
