use Prim.Native.Nat.{◌+◌, ◌≤◌}
use mathlib.Core.Path.{◌≡◌, refl, sym, ap, ◌∙◌}
use native.Mathlib.Omega.{arith}
use borrow.Author.Tests.{ltb-false}
use lib.IntN.{ℤ}
use lib.ListN.{length}
use lib.Ieee.{Float}
use mir.Syntax.{w16, w32}
use mir.Val.{SFits, to_z, of_z}
use mir.Facts.{to_z-of_z}
use Rattle.codes.specs.declared.Range.{Range}
use Rattle.laws.proofs.Ints.{small-fits}
use Rattle.text.specs.Text.{left_in, place_after}
use Rattle.measure.specs.Measure.{in_g, in1024ths, whole1024ths, g_text, longest_g}
use Rattle.measure.proofs.Exact.{casts, cast-back, in-1024ths-size}
use Rattle.measure.proofs.put_g.Goals as goal

-- what is read of the float is so many 1/1024 g
whole : (count : ℤ) (range : Range) {g : Float} {n : ℤ} → SFits w16 count → g ≡ in_g count range → n ≡ whole1024ths g → to_z w32 (of_z w32 n) ≡ in1024ths count range
whole count range f e d =
    let h = f.sfits in
    let r = in1024ths count range in
    let s : SFits w32 r = small-fits r (omega (arith, in-1024ths-size count h range)) in
    rw (d ∙ ap whole1024ths e ∙ cast-back count h range) (to_z-of_z s)

pub returns-then-lacks_room : goal.returns-then-lacks_room
unfolding left_in place_after
returns-then-lacks_room c = simp (← c.lacks_room.ensures, c.if-lacks_room.true) (refl, refl)

pub in_1024ths-requires : goal.in_1024ths-requires
in_1024ths-requires c =
    let a = c.args in
    rw (rw (to_z-of_z c.ranges.count) at c.in_g.ensures) (casts a.count c.ranges.count.sfits a.range)

pub put_signed-requires : goal.put_signed-requires
put_signed-requires c =
    let a = c.args in
    let w = whole a.count a.range c.ranges.count (rw (to_z-of_z c.ranges.count) at c.in_g.ensures) c.in_1024ths.ensures in
    let room : a.at + longest_g ≤ length a.out.now = ltb-false _ _ (sym c.lacks_room.ensures ∙ c.if-lacks_room.false) in
    (rw w (omega (arith, in-1024ths-size a.count c.ranges.count.sfits a.range)), room)

pub returns : goal.returns
unfolding left_in place_after g_text
returns c =
    let a = c.args in
    let w = whole a.count a.range c.ranges.count (rw (to_z-of_z c.ranges.count) at c.in_g.ensures) c.in_1024ths.ensures in
    let p = rw w at c.put_signed.ensures in
    simp (← c.lacks_room.ensures, c.if-lacks_room.false) (p.place, p.bytes)
