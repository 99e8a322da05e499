-- Below 2 ^ 32 events in all no total fails to fit.
-- Assumes nothing.
use Prim.Native.Nat.{ℕ, suc, ◌+◌, ◌*◌, ◌^◌, ◌≤◌, ◌<◌}
use mathlib.Core.Bool.{Bool, true, false}
use mathlib.Core.List.{List, [], ◌∷◌, ◌++◌, append_assoc}
use mathlib.Core.Path.{◌≡◌, sym, ap, ◌∙◌, subst}
use native.Mathlib.Omega.{arith}
use borrow.Author.Tests.{lt-ltb}
use lib.Dec.{T, ltb, leb→le, eqb}
use lib.IntN.{ℤ, pos, negsuc, neg_ℤ, nat_abs}
use lib.ListN.{length}
use lib.Signed.{mag, le_z}
use Rattle.laws.specs.Choice.{pick, both}
use Rattle.laws.proofs.Finite.{left, right}
use Rattle.laws.proofs.Ints.{sum-size}
use Rattle.events.specs.Event.{Event, power_up, write, read, sample, cycle, clock}
use Rattle.paper.specs.Ranges.{g_by}
use Rattle.paper.specs.Samples.{Values, is_inside, is_sample, stored_behind, values_at}
use Rattle.paper.specs.Stored.{byte_by}
use Rattle.paper.proofs.Offsets.{stored-inside}
use Rattle.history.specs.History.{accelerometer}
use Rattle.demand3.specs.Whole.{sum, totals}
use Rattle.stretches.proofs.Histories.{accepted-more}
use Rattle.sheets.specs.Sheets.{count_fits, sum_fits, axes_fit, sheet_fits}
use Rattle.months.specs.Histories.{count_here, counts_at, clock_in, sum_of, tally_of, axes_of, sheet_of, Passes}
use Rattle.months.specs.Logs.{in_all, counts_over, sheet_over_all, Ticks, AllTick}
use Rattle.months.specs.Totals.{AllIn64}
use Rattle.months.proofs.Tallies.{sum_is}
use Rattle.months.proofs.Totals.{all_in}
use Rattle.months.proofs.Over.{single, whole}

-- ---- how large the counts of one log can be
accepted-few : (es : List Event) → (totals accelerometer es).accepted ≤ length es
unfolding totals
accepted-few [] = omega arith
accepted-few (e ∷ es) = let h = accepted-more es e in let r = accepted-few es in omega (arith, h, r)

clock-few : (es : List Event) → Ticks es → clock_in es ≤ 4294967295 * length es
unfolding clock_in
clock-few [] t = omega arith
clock-few (e ∷ es) t = let h = t.0 in let r = clock-few es t.1 in omega (arith, h, r)

-- ---- a stored count lies inside
inside-small : (v : ℤ) → is_inside v ≡ true → nat_abs v ≤ 2048
inside-small (pos n) h = let k = right (le_z (neg_ℤ (pos 2048)) (pos n)) (le_z (pos n) (pos 2047)) h in let l : n ≤ 2047 = leb→le n 2047 (rw k tt) in omega (arith, l)
inside-small (negsuc n) h = let k = left (le_z (neg_ℤ (pos 2048)) (negsuc n)) (le_z (negsuc n) (pos 2047)) h in let l : n ≤ 2047 = leb→le n 2047 (rw k tt) in omega (arith, l)

-- on each axis, whatever the event
abbrev Small : (Values → ℤ) → Type 0
Small axis = (es : List Event) (e : Event) → nat_abs (axis (values_at es e)) ≤ 2048

x-small : Small (λ (v : Values). v.x)
x-small es power_up = omega arith
x-small es (write a byte) = omega arith
x-small es (read a n) = omega arith
x-small es (sample x y z temperature) = inside-small (stored_behind es 0x38 x) (stored-inside es 0x38 x)
x-small es cycle = omega arith
x-small es (clock us) = omega arith

y-small : Small (λ (v : Values). v.y)
y-small es power_up = omega arith
y-small es (write a byte) = omega arith
y-small es (read a n) = omega arith
y-small es (sample x y z temperature) = inside-small (stored_behind es 0x39 y) (stored-inside es 0x39 y)
y-small es cycle = omega arith
y-small es (clock us) = omega arith

z-small : Small (λ (v : Values). v.z)
z-small es power_up = omega arith
z-small es (write a byte) = omega arith
z-small es (read a n) = omega arith
z-small es (sample x y z temperature) = inside-small (stored_behind es 0x3A z) (stored-inside es 0x3A z)
z-small es cycle = omega arith
z-small es (clock us) = omega arith

-- ---- and so does a sum of few
module _ (g : ℕ) (axis : Values → ℤ) (small : Small axis) where
  sum-here : (es : List Event) (e : Event) (l : List ℤ) (n : ℕ) → nat_abs (sum_of l) ≤ 2048 * n → nat_abs (sum_of (count_here g axis es e ++ l)) ≤ 2048 * suc n
  sum-here es e l n h = go (both (is_sample e) (eqb (g_by (byte_by es 0x0F)) g))
    where
      go : (t : Bool) → nat_abs (sum_of (pick t (axis (values_at es e) ∷ []) [] ++ l)) ≤ 2048 * suc n
      go true = let s = sum-size (axis (values_at es e)) (sum_of l) in let v = small es e in omega (arith, h, s, v)
      go false = omega (arith, h)

  sum-onto : (es : List Event) (l : List ℤ) (n : ℕ) → nat_abs (sum_of l) ≤ 2048 * n → nat_abs (sum_of (counts_at g axis es ++ l)) ≤ 2048 * (length es + n)
  unfolding counts_at
  sum-onto [] l n h = omega (arith, h)
  sum-onto (e ∷ es) l n h =
      let r = sum-onto es l n h in
      let s = sum-here es e (counts_at g axis es ++ l) (length es + n) r in
      let grouped = append_assoc (count_here g axis es e) (counts_at g axis es) l in
      subst (λ (m : List ℤ). nat_abs (sum_of m) ≤ 2048 * (suc (length es) + n)) (sym grouped) (omega (arith, s))

  sum_over : (hs : List (List Event)) → nat_abs (sum_of (counts_over hs g axis)) ≤ 2048 * in_all length hs
  sum_over [] = omega arith
  sum_over (h ∷ hs) = sum-onto h (counts_over hs g axis) (in_all length hs) (sum_over hs)

  sum_fits_lem : (hs : List (List Event)) → in_all length hs < 2 ^ 32 → sum_fits (tally_of (counts_over hs g axis)).sum ≡ true
  unfolding sum_fits
  sum_fits_lem hs few = rw (sum_is (counts_over hs g axis)) (lt-ltb (mag (sum_of (counts_over hs g axis))) (2 ^ 63) (within (sum_of (counts_over hs g axis)) (sum_over hs)))
    where
      within : (z : ℤ) → nat_abs z ≤ 2048 * in_all length hs → mag z < 2 ^ 63
      within (pos n) h = omega (arith, h, few)
      within (negsuc n) h = omega (arith, h, few)

-- ---- over many logs
in_all_lem : (f : List Event → ℕ) → ((es : List Event) → f es ≤ length es) → (hs : List (List Event)) → in_all f hs ≤ in_all length hs
in_all_lem f small [] = omega arith
in_all_lem f small (h ∷ hs) = let a = small h in let r = in_all_lem f small hs in omega (arith, a, r)

clocks-few : (hs : List (List Event)) → AllTick hs → in_all clock_in hs ≤ 4294967295 * in_all length hs
clocks-few [] t = omega arith
clocks-few (h ∷ hs) t = let a = clock-few h t.0 in let r = clocks-few hs t.1 in omega (arith, a, r)

all_true : (a b : Bool) → a ≡ true → b ≡ true → both a b ≡ true
all_true a b p q = rw (p, q)

axes-fit : (hs : List (List Event)) → in_all length hs < 2 ^ 32 → (g : ℕ) → axes_fit (axes_of (counts_over hs) g) ≡ true
axes-fit hs few g = rw (sum_fits_lem g (λ (v : Values). v.x) x-small hs few, sum_fits_lem g (λ (v : Values). v.y) y-small hs few, sum_fits_lem g (λ (v : Values). v.z) z-small hs few)

few-fit : (hs : List (List Event)) → AllTick hs → in_all length hs < 2 ^ 32 → sheet_fits (sheet_over_all hs) ≡ true
unfolding count_fits
few-fit hs ticks few =
    let s = sheet_over_all hs in
    let w = whole hs in
    let a : s.accepted ≤ in_all length hs = in_all_lem (λ es. (totals accelerometer es).accepted) accepted-few hs in
    let c : s.clock ≤ 4294967295 * in_all length hs = clocks-few hs ticks in
    let f1 : s.accepted < 2 ^ 64 = omega (arith, a, few) in
    let f2 : s.taken < 2 ^ 64 = omega (arith, a, few, w) in
    let f3 : s.held < 2 ^ 64 = omega (arith, a, few, w) in
    let f4 : s.lost < 2 ^ 64 = omega (arith, a, few, w) in
    let f5 : s.cleared < 2 ^ 64 = omega (arith, a, few, w) in
    let f6 : s.clock < 2 ^ 64 = omega (arith, c, few) in
    rw (lt-ltb s.accepted (2 ^ 64) f1, lt-ltb s.taken (2 ^ 64) f2, lt-ltb s.held (2 ^ 64) f3, lt-ltb s.lost (2 ^ 64) f4, lt-ltb s.cleared (2 ^ 64) f5, lt-ltb s.clock (2 ^ 64) f6, axes-fit hs few 2, axes-fit hs few 4, axes-fit hs few 8, axes-fit hs few 16)

pub few : (hs : List (List Event)) → AllTick hs → in_all length hs < 2 ^ 32 → AllIn64 (sheet_over_all hs)
few hs ticks h = all_in (sheet_over_all hs) (few-fit hs ticks h)

-- ---- at each event of a log
ticks-earlier : (later earlier : List Event) → Ticks (later ++ earlier) → Ticks earlier
ticks-earlier [] earlier t = t
ticks-earlier (e ∷ later) earlier t = ticks-earlier later earlier t.1

length-earlier : (later earlier : List Event) → length earlier ≤ length (later ++ earlier)
length-earlier [] earlier = omega arith
length-earlier (e ∷ later) earlier = let h = length-earlier later earlier in omega (arith, h)

pub few-in-a-log : (es : List Event) → Ticks es → length es < 2 ^ 32 → Passes es → ⊥
few-in-a-log es ticks few p =
    let earlier = p.0 in
    let later = p.1.0.0 in
    let is = p.1.0.1 in
    let t : Ticks earlier = ticks-earlier later earlier (subst Ticks is ticks) in
    let l : length earlier ≤ length (later ++ earlier) = length-earlier later earlier in
    let n : length es ≡ length (later ++ earlier) = ap length is in
    let m : length earlier + 0 < 2 ^ 32 = omega (arith, l, n, few) in
    let fits : sheet_fits (sheet_of earlier) ≡ true = ap sheet_fits (sym (single earlier)) ∙ few-fit (earlier ∷ []) (t, tt) m in
    p.1.1 (all_in (sheet_of earlier) fits)
