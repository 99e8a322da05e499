-- Sheets over logs: joined in any order and grouping they are the sheet over all.
-- Assumes nothing.
use Prim.Native.Nat.{ℕ, ◌+◌}
use mathlib.Core.Bool.{true}
use mathlib.Core.List.{List, [], ◌∷◌, ◌++◌, map, append_assoc, append-nil}
use mathlib.Core.Path.{◌≡◌, refl, sym, ap, ◌∙◌}
use native.Mathlib.Omega.{arith}
use lib.IntN.{ℤ}
use Rattle.events.specs.Event.{Event}
use Rattle.paper.specs.Samples.{Values}
use Rattle.history.specs.History.{accelerometer}
use Rattle.history.proofs.Conserve.{over-clears-here}
use Rattle.demand3.specs.Whole.{sum, held_now, totals}
use Rattle.sheets.specs.Sheets.{no_tallies, tally_over, empty_sheet, axes_over, ranges_over, sheet_over}
use Rattle.sheets.proofs.Joins.{sheet-whole}
use Rattle.sheets.specs.declared.ByAxis.{ByAxis}
use Rattle.sheets.specs.declared.ByRange.{ByRange}
use Rattle.sheets.specs.declared.Sheet.{Sheet}
use Rattle.months.specs.Histories.{counts_at, clock_in, tally_of, axes_of, sheet_with, sheet_of, Says, AxesTallied}
use Rattle.months.specs.Logs.{in_all, joined, counts_over, sheet_over_all, Joins, none, one, join}
use Rattle.months.proofs.Tallies.{tally-swap, tally-none-left, tally-append, tallied}

-- ---- numbers and counts of two lists of logs
sum-append : (f : List Event → ℕ) (hs ks : List (List Event)) → in_all f hs + in_all f ks ≡ in_all f (hs ++ ks)
sum-append f [] ks = omega arith
sum-append f (h ∷ hs) ks = let e = sum-append f hs ks in omega (arith, e)

counts-append : {A : Type 0} (f : List Event → List A) (hs ks : List (List Event)) → joined (map f (hs ++ ks)) ≡ joined (map f hs) ++ joined (map f ks)
counts-append f [] ks = refl
counts-append f (h ∷ hs) ks = ap (λ (l : List _). f h ++ l) (counts-append f hs ks) ∙ sym (append_assoc (f h) (joined (map f hs)) (joined (map f ks)))

axes-append : (hs ks : List (List Event)) (g : ℕ) → axes_over (axes_of (counts_over hs) g) (axes_of (counts_over ks) g) ≡ axes_of (counts_over (hs ++ ks)) g
axes-append hs ks g = λ i. record { x = one-axis (λ (v : Values). v.x) i; y = one-axis (λ (v : Values). v.y) i; z = one-axis (λ (v : Values). v.z) i }
  where
    one-axis : (axis : Values → ℤ) → tally_over (tally_of (counts_over hs g axis)) (tally_of (counts_over ks g axis)) ≡ tally_of (counts_over (hs ++ ks) g axis)
    one-axis axis = sym (ap tally_of (counts-append (counts_at g axis) hs ks) ∙ tally-append (counts_over hs g axis) (counts_over ks g axis))

pub joins : (hs ks : List (List Event)) → sheet_over (sheet_over_all hs) (sheet_over_all ks) ≡ sheet_over_all (hs ++ ks)
joins hs ks = λ i. record {
  accepted = sum-append (λ es. (totals accelerometer es).accepted) hs ks i;
  taken = sum-append (λ es. (totals accelerometer es).taken) hs ks i;
  held = sum-append (λ es. held_now accelerometer es) hs ks i;
  lost = sum-append (λ es. (totals accelerometer es).lost) hs ks i;
  cleared = sum-append (λ es. (totals accelerometer es).cleared_away) hs ks i;
  clock = sum-append clock_in hs ks i;
  ranges = record { g2 = axes-append hs ks 2 i; g4 = axes-append hs ks 4 i; g8 = axes-append hs ks 8 i; g16 = axes-append hs ks 16 i };
}

-- ---- any order
swap : (a b : ℕ) → a + b ≡ b + a
swap a b = omega arith

axes-swap : (a b : ByAxis) → axes_over a b ≡ axes_over b a
axes-swap a b = λ i. record { x = tally-swap a.x b.x i; y = tally-swap a.y b.y i; z = tally-swap a.z b.z i }

ranges-swap : (a b : ByRange) → ranges_over a b ≡ ranges_over b a
ranges-swap a b = λ i. record { g2 = axes-swap a.g2 b.g2 i; g4 = axes-swap a.g4 b.g4 i; g8 = axes-swap a.g8 b.g8 i; g16 = axes-swap a.g16 b.g16 i }

sheet-swap : (a b : Sheet) → sheet_over a b ≡ sheet_over b a
sheet-swap a b = λ i. record {
  accepted = swap a.accepted b.accepted i;
  taken = swap a.taken b.taken i;
  held = swap a.held b.held i;
  lost = swap a.lost b.lost i;
  cleared = swap a.cleared b.cleared i;
  clock = swap a.clock b.clock i;
  ranges = ranges-swap a.ranges b.ranges i;
}

pub ordered : (hs ks : List (List Event)) → sheet_over_all (hs ++ ks) ≡ sheet_over_all (ks ++ hs)
ordered hs ks = sym (joins hs ks) ∙ sheet-swap (sheet_over_all hs) (sheet_over_all ks) ∙ joins ks hs

-- ---- one log, and none
behind-0 : (n : ℕ) → 0 + n ≡ n
behind-0 n = omega arith

axes-none-left : (a : ByAxis) → axes_over no_tallies a ≡ a
axes-none-left a = λ i. record { x = tally-none-left a.x i; y = tally-none-left a.y i; z = tally-none-left a.z i }

pub neutral-left : (s : Sheet) → sheet_over empty_sheet s ≡ s
neutral-left s = λ i. record {
  accepted = behind-0 s.accepted i;
  taken = behind-0 s.taken i;
  held = behind-0 s.held i;
  lost = behind-0 s.lost i;
  cleared = behind-0 s.cleared i;
  clock = behind-0 s.clock i;
  ranges = record { g2 = axes-none-left s.ranges.g2 i; g4 = axes-none-left s.ranges.g4 i; g8 = axes-none-left s.ranges.g8 i; g16 = axes-none-left s.ranges.g16 i };
}

pub neutral-right : (s : Sheet) → sheet_over s empty_sheet ≡ s
neutral-right s = sheet-swap s empty_sheet ∙ neutral-left s

just : (n : ℕ) → n + 0 ≡ n
just n = omega arith

axes-single : (es : List Event) (g : ℕ) → axes_of (counts_over (es ∷ [])) g ≡ axes_of (λ g axis. counts_at g axis es) g
axes-single es g = λ i. record {
  x = tally_of (append-nil (counts_at g (λ (v : Values). v.x) es) i);
  y = tally_of (append-nil (counts_at g (λ (v : Values). v.y) es) i);
  z = tally_of (append-nil (counts_at g (λ (v : Values). v.z) es) i);
}

pub single : (es : List Event) → sheet_over_all (es ∷ []) ≡ sheet_of es
single es = λ i. record {
  accepted = just (totals accelerometer es).accepted i;
  taken = just (totals accelerometer es).taken i;
  held = just (held_now accelerometer es) i;
  lost = just (totals accelerometer es).lost i;
  cleared = just (totals accelerometer es).cleared_away i;
  clock = just (clock_in es) i;
  ranges = record { g2 = axes-single es 2 i; g4 = axes-single es 4 i; g8 = axes-single es 8 i; g16 = axes-single es 16 i };
}

pub over_none : empty_sheet ≡ sheet_over_all []
unfolding tally_of
over_none = refl

-- ---- any grouping
grouped-as : {hs : List (List Event)} {s : Sheet} → Joins hs s → s ≡ sheet_over_all hs
grouped-as none = over_none
grouped-as (one es) = sym (single es)
grouped-as (join {hs} {ks} {a} {b} p q is) = (sheet-whole a b (sym is)).1 ∙ (λ i. sheet_over (grouped-as p i) (grouped-as q i)) ∙ joins hs ks

pub grouped : (hs : List (List Event)) (s : Sheet) → Joins hs s → s ≡ sheet_over_all hs
grouped hs s j = grouped-as j

-- ---- what it says
pub says-with : (accepted taken held lost cleared clock : ℕ) (counts : ℕ → (Values → ℤ) → List ℤ)
    → Says accepted taken held lost cleared clock counts (sheet_with accepted taken held lost cleared clock counts)
says-with accepted taken held lost cleared clock counts = record {
  accepted-is = refl;
  taken_is = refl;
  held-is = refl;
  lost-is = refl;
  cleared-is = refl;
  clock-is = refl;
  at-2-g = axes 2;
  at-4-g = axes 4;
  at-8-g = axes 8;
  at-16-g = axes 16;
}
  where
    axes : (g : ℕ) → AxesTallied (counts g) (axes_of counts g)
    axes g = record { x = tallied (counts g (λ (v : Values). v.x)); y = tallied (counts g (λ (v : Values). v.y)); z = tallied (counts g (λ (v : Values). v.z)) }

-- ---- every sample is taken, held, lost or was cleared away
pub whole : (hs : List (List Event)) → let s = sheet_over_all hs in s.accepted ≡ s.taken + s.held + s.lost + s.cleared
whole [] = refl
whole (h ∷ hs) = let e = (over-clears-here h).whole in let r = whole hs in omega (arith, e, r)
