-- The sheet that the code makes of a log, event by event, is what its history says; and it is none exactly where at some event a total would not fit.
-- Assumes nothing.
use Prim.Native.Nat.{ℕ, ◌+◌}
use mathlib.Core.Bool.{Bool, true, false}
use mathlib.Core.List.{List, [], ◌∷◌, ◌++◌}
use mathlib.Core.Logic.{◌≢◌}
use mathlib.Core.Path.{◌≡◌, refl, sym, ap, ◌∙◌}
use native.Mathlib.Omega.{arith}
use lib.Dec.{eqb}
use lib.IntN.{ℤ}
use Rattle.std.specs.Prelude.{Result, Ok, Err}
use Rattle.laws.specs.Choice.{pick, both}
use Rattle.laws.proofs.Finite.{left, right}
use Rattle.codes.specs.declared.Range.{Range}
use Rattle.codes.specs.declared.Range.TheVariants.{G2, G4, G8, G16, Reserved}
use Rattle.counts.specs.Counts.{in_g}
use Rattle.registers.specs.Answers.{Answer, accepted}
use Rattle.device.specs.Sample.{sample_of, sample_answer}
use Rattle.device.specs.declared.Device.{Device}
use Rattle.device.specs.Show.{range_in, stored_in}
use Rattle.events.specs.Event.{Event, power_up, write, read, sample, cycle, clock, happens}
use Rattle.events.specs.Run.{after}
use Rattle.paper.specs.Ranges.{g_by}
use Rattle.paper.specs.Samples.{all_inside, is_sample, stored_behind, values_at}
use Rattle.paper.specs.Stored.{byte_by}
use Rattle.paper.proofs.Offsets.{stored-after}
use Rattle.paper.proofs.Samples.{sample-is}
use Rattle.ranges.proofs.Ranges.{range-in-force, range-some}
use Rattle.sheets.specs.Sheets.{kept, count_fits, sum_fits, axes_over, axes_fit, ranges_fit, count_joined, axes_joined}
use Rattle.sheets.specs.declared.ByAxis.{ByAxis}
use Rattle.sheets.specs.declared.ByRange.{ByRange}
use Rattle.sheets.specs.declared.TooLarge.{TooLarge}
use Rattle.tally.specs.Tally.{no_sums, one_sample, with_row, going_on, ranges_sampled, fitted_with, sums_clocked, sums_sampled, so_far}
use Rattle.tally.specs.declared.Sums.{Sums}
use Rattle.tally.specs.declared.Totals.{Totals}
use Rattle.sheeting.specs.Sheeting.{sums_after, sums_with_sample}
use Rattle.months.specs.Histories.{counts_at, clock_in, tally_of, axes_of, sheet_of}

-- ---- the sums as they are stepped, and as the history says
unfoldable pub stepped_sums : List Event → Sums
stepped_sums [] = no_sums
stepped_sums (e ∷ es) = sums_after (stepped_sums es) e (happens (after es) e).answer (after (e ∷ es))

abbrev pub ranges_in : List Event → ByRange
ranges_in es = (sheet_of es).ranges

abbrev pub exact_totals : List Event → Totals
exact_totals es = record { clock = clock_in es; ranges = ranges_in es }

abbrev pub exact_sums : List Event → Sums
exact_sums es = record { totals = exact_totals es; fitted = Ok tt }

abbrev passed : Result Totals TooLarge
passed = Err (record {})

abbrev pub sums_fit : List Event → Bool
sums_fit es = both (count_fits (clock_in es)) (ranges_fit (ranges_in es))

-- at every event so far
unfoldable pub fits_along : List Event → Bool
fits_along [] = true
fits_along (e ∷ es) = both (fits_along es) (sums_fit (e ∷ es))

-- what one event more comes to: the sums of the history where they fit, and else none
record Stepped (es : List Event) (e : Event) (s : Sums) : Type 0 where
  is : so_far s ≡ pick (sums_fit (e ∷ es)) (Ok (exact_totals (e ∷ es))) passed

-- ---- an event that brings no sample and no time
axes-same : (es : List Event) (e : Event) → is_sample e ≡ false → (g : ℕ) → axes_of (λ g axis. counts_at g axis (e ∷ es)) g ≡ axes_of (λ g axis. counts_at g axis es) g
unfolding counts_at
axes-same es e none g = rw none

ranges-same : (es : List Event) (e : Event) → is_sample e ≡ false → ranges_in (e ∷ es) ≡ ranges_in es
ranges-same es e none = λ i. record { g2 = axes-same es e none 2 i; g4 = axes-same es e none 4 i; g8 = axes-same es e none 8 i; g16 = axes-same es e none 16 i }

quiet : (es : List Event) (e : Event) → is_sample e ≡ false → clock_in (e ∷ es) ≡ clock_in es → sums_fit es ≡ true → Stepped es e (exact_sums es)
quiet es e none same fits =
    let r = ranges-same es e none in
    let h : sums_fit (e ∷ es) ≡ true = (λ i. both (count_fits (same i)) (ranges_fit (r i))) ∙ fits in
    record { is = rw h (λ i. Ok (record { clock = sym same i; ranges = sym r i })) }

more-none : (n : ℕ) → n + 0 ≡ n
more-none n = omega arith

-- ---- a clock
clocked : (es : List Event) (us : ℕ) → sums_fit es ≡ true → Stepped es (clock us) (sums_clocked (exact_sums es) us)
unfolding clock_in sums_clocked count_joined
clocked es us fits =
    let r = ranges-same es (clock us) refl in
    let in-range : ranges_fit (ranges_in es) ≡ true = right (count_fits (clock_in es)) (ranges_fit (ranges_in es)) fits in
    record { is = go (count_fits (clock_in es + us)) r (ap ranges_fit r ∙ in-range) }
  where
    go : (t : Bool) → ranges_in (clock us ∷ es) ≡ ranges_in es → ranges_fit (ranges_in (clock us ∷ es)) ≡ true
        → (let j = pick {A = Result ℕ TooLarge} t (Ok (clock_in es + us)) (Err (record {})) in
        so_far (record { totals = record { clock = kept (clock_in es) j; ranges = ranges_in es }; fitted = fitted_with (Ok tt) j }))
        ≡ pick (both t (ranges_fit (ranges_in (clock us ∷ es)))) (Ok (exact_totals (clock us ∷ es))) passed
    go true r f = rw f (λ i. Ok (record { clock = clock_in es + us; ranges = sym r i }))
    go false r f = refl

-- ---- an accepted sample
module _ (es : List Event) (e : Event) (yes : is_sample e ≡ true) (still : clock_in (e ∷ es) ≡ clock_in es) (fits : sums_fit es ≡ true) where
  abbrev one : ByAxis
  one = let v = values_at es e in one_sample v.x v.y v.z

  abbrev row : ℕ → ByAxis
  row g = axes_of (λ g axis. counts_at g axis es) g

  -- the row of the range in force has it, and no other
  row_next : (g h : ℕ) → g_by (byte_by es 0x0F) ≡ g → axes_of (λ g axis. counts_at g axis (e ∷ es)) h ≡ pick (eqb g h) (axes_over (row h) one) (row h)
  unfolding counts_at tally_of
  row_next g h p = rw (yes, p) (go (eqb g h))
    where
      go : (t : Bool) → axes_of (λ h axis. pick t (axis (values_at es e) ∷ []) [] ++ counts_at h axis es) h ≡ pick t (axes_over (row h) one) (row h)
      go true = refl
      go false = refl

  -- what fits already
  clock-fits : count_fits (clock_in es) ≡ true
  clock-fits = left (count_fits (clock_in es)) (ranges_fit (ranges_in es)) fits

  rows_fit : ranges_fit (ranges_in es) ≡ true
  rows_fit = right (count_fits (clock_in es)) (ranges_fit (ranges_in es)) fits

  low : both (axes_fit (row 2)) (axes_fit (row 4)) ≡ true
  low = left (both (axes_fit (row 2)) (axes_fit (row 4))) (both (axes_fit (row 8)) (axes_fit (row 16))) rows_fit

  high : both (axes_fit (row 8)) (axes_fit (row 16)) ≡ true
  high = right (both (axes_fit (row 2)) (axes_fit (row 4))) (both (axes_fit (row 8)) (axes_fit (row 16))) rows_fit

  fits-2 : axes_fit (row 2) ≡ true
  fits-2 = left (axes_fit (row 2)) (axes_fit (row 4)) low

  fits-4 : axes_fit (row 4) ≡ true
  fits-4 = right (axes_fit (row 2)) (axes_fit (row 4)) low

  fits_8 : axes_fit (row 8) ≡ true
  fits_8 = left (axes_fit (row 8)) (axes_fit (row 16)) high

  fits_16 : axes_fit (row 16) ≡ true
  fits_16 = right (axes_fit (row 8)) (axes_fit (row 16)) high

  and-true : (b : Bool) → both b true ≡ b
  and-true true = refl
  and-true false = refl

  -- a joined row in its place, where it fits
  made : (t : Bool) (joined : ByAxis) (placed : ByAxis → ByRange) → ranges_in (e ∷ es) ≡ placed joined → sums_fit (e ∷ es) ≡ t
      → (let j = going_on (λ row. Ok (placed row)) (pick {A = Result ByAxis TooLarge} t (Ok joined) (Err (record {}))) in
      so_far (record { totals = record { clock = clock_in es; ranges = kept (ranges_in es) j }; fitted = fitted_with (Ok tt) j }))
      ≡ pick (sums_fit (e ∷ es)) (Ok (exact_totals (e ∷ es))) passed
  made true joined placed next same = rw same (λ i. Ok (record { clock = sym still i; ranges = sym next i }))
  made false joined placed next same = rw same refl

  abbrev sampled_in : Range → Sums
  sampled_in r = let v = values_at es e in sums_sampled (exact_sums es) r v.x v.y v.z

  at-2-g : g_by (byte_by es 0x0F) ≡ 2 → Stepped es e (sampled_in G2)
  unfolding sums_sampled ranges_sampled axes_joined
  at-2-g p =
      let next : ranges_in (e ∷ es) ≡ record { g2 = axes_over (row 2) one; g4 = row 4; g8 = row 8; g16 = row 16 } = λ i. record { g2 = row_next 2 2 p i; g4 = row_next 2 4 p i; g8 = row_next 2 8 p i; g16 = row_next 2 16 p i } in
      let same : sums_fit (e ∷ es) ≡ axes_fit (axes_over (row 2) one) = (λ i. both (count_fits (still i)) (ranges_fit (next i))) ∙ simp (clock-fits, fits-4, fits_8, fits_16, and-true) in
      record { is = made (axes_fit (axes_over (row 2) one)) (axes_over (row 2) one) (λ j. with_row (ranges_in es) G2 j) next same }

  at-4-g : g_by (byte_by es 0x0F) ≡ 4 → Stepped es e (sampled_in G4)
  unfolding sums_sampled ranges_sampled axes_joined
  at-4-g p =
      let next : ranges_in (e ∷ es) ≡ record { g2 = row 2; g4 = axes_over (row 4) one; g8 = row 8; g16 = row 16 } = λ i. record { g2 = row_next 4 2 p i; g4 = row_next 4 4 p i; g8 = row_next 4 8 p i; g16 = row_next 4 16 p i } in
      let same : sums_fit (e ∷ es) ≡ axes_fit (axes_over (row 4) one) = (λ i. both (count_fits (still i)) (ranges_fit (next i))) ∙ simp (clock-fits, fits-2, fits_8, fits_16, and-true) in
      record { is = made (axes_fit (axes_over (row 4) one)) (axes_over (row 4) one) (λ j. with_row (ranges_in es) G4 j) next same }

  at-8-g : g_by (byte_by es 0x0F) ≡ 8 → Stepped es e (sampled_in G8)
  unfolding sums_sampled ranges_sampled axes_joined
  at-8-g p =
      let next : ranges_in (e ∷ es) ≡ record { g2 = row 2; g4 = row 4; g8 = axes_over (row 8) one; g16 = row 16 } = λ i. record { g2 = row_next 8 2 p i; g4 = row_next 8 4 p i; g8 = row_next 8 8 p i; g16 = row_next 8 16 p i } in
      let same : sums_fit (e ∷ es) ≡ axes_fit (axes_over (row 8) one) = (λ i. both (count_fits (still i)) (ranges_fit (next i))) ∙ simp (clock-fits, fits-2, fits-4, fits_16, and-true) in
      record { is = made (axes_fit (axes_over (row 8) one)) (axes_over (row 8) one) (λ j. with_row (ranges_in es) G8 j) next same }

  at-16-g : g_by (byte_by es 0x0F) ≡ 16 → Stepped es e (sampled_in G16)
  unfolding sums_sampled ranges_sampled axes_joined
  at-16-g p =
      let next : ranges_in (e ∷ es) ≡ record { g2 = row 2; g4 = row 4; g8 = row 8; g16 = axes_over (row 16) one } = λ i. record { g2 = row_next 16 2 p i; g4 = row_next 16 4 p i; g8 = row_next 16 8 p i; g16 = row_next 16 16 p i } in
      let same : sums_fit (e ∷ es) ≡ axes_fit (axes_over (row 16) one) = (λ i. both (count_fits (still i)) (ranges_fit (next i))) ∙ simp (clock-fits, fits-2, fits-4, fits_8, and-true) in
      record { is = made (axes_fit (axes_over (row 16) one)) (axes_over (row 16) one) (λ j. with_row (ranges_in es) G16 j) next same }

  in-any : (r : Range) → in_g r ≡ g_by (byte_by es 0x0F) → in_g r ≢ 0 → Stepped es e (sampled_in r)
  in-any G2 p some = at-2-g (sym p)
  in-any G4 p some = at-4-g (sym p)
  in-any G8 p some = at-8-g (sym p)
  in-any G16 p some = at-16-g (sym p)
  in-any Reserved p some = absurd (some refl)

-- ---- any event
behind-sample : (es : List Event) (x y z : ℤ) (temperature : ℕ) → clock_in (sample x y z temperature ∷ es) ≡ clock_in es
unfolding clock_in
behind-sample es x y z temperature = more-none (clock_in es)

-- a sample leaves the registers as they are
same_byte : (es : List Event) (x y z : ℤ) (temperature a : ℕ) → byte_by (sample x y z temperature ∷ es) a ≡ byte_by es a
unfolding byte_by
same_byte es x y z temperature a = refl

same-stored : (es : List Event) (x y z : ℤ) (temperature offset : ℕ) (given : ℤ) → stored_behind (sample x y z temperature ∷ es) offset given ≡ stored_behind es offset given
unfolding stored_behind byte_by
same-stored es x y z temperature offset given = refl

sampled-step : (es : List Event) (x y z : ℤ) (temperature : ℕ) → sums_fit es ≡ true
    → Stepped es (sample x y z temperature) (sums_with_sample (exact_sums es) (happens (after es) (sample x y z temperature)).answer (after (sample x y z temperature ∷ es)) x y z)
unfolding sample_of
sampled-step es x y z temperature fits = go (all_inside x y z) refl
  where
    e : Event
    e = sample x y z temperature

    go : (t : Bool) → all_inside x y z ≡ t
        → Stepped es (sample x y z temperature) (pick (accepted (sample_answer x y z)) (let stored = stored_in (after (sample x y z temperature ∷ es)) x y z in sums_sampled (exact_sums es) (range_in (after (sample x y z temperature ∷ es))) stored.x stored.y stored.z) (exact_sums es))
    go true h =
        let r = range_in (after (sample x y z temperature ∷ es)) in
        let p : in_g r ≡ g_by (byte_by es 0x0F) = range-in-force (sample x y z temperature ∷ es) ∙ ap g_by (same_byte es x y z temperature 0x0F) in
        let st = stored-after (sample x y z temperature ∷ es) x y z in
        rw (sample-is x y z, h, st, same-stored es x y z temperature 0x38 x, same-stored es x y z temperature 0x39 y, same-stored es x y z temperature 0x3A z)
        (in-any es (sample x y z temperature) h (behind-sample es x y z temperature) fits r p (range-some (sample x y z temperature ∷ es)))
    go false h = rw (sample-is x y z, h) (quiet es (sample x y z temperature) h (behind-sample es x y z temperature) fits)

step : (es : List Event) (e : Event) → sums_fit es ≡ true → Stepped es e (sums_after (exact_sums es) e (happens (after es) e).answer (after (e ∷ es)))
unfolding clock_in
step es power_up fits = quiet es power_up refl (more-none (clock_in es)) fits
step es (write a byte) fits = quiet es (write a byte) refl (more-none (clock_in es)) fits
step es (read a n) fits = quiet es (read a n) refl (more-none (clock_in es)) fits
step es (sample x y z temperature) fits = sampled-step es x y z temperature fits
step es cycle fits = quiet es cycle refl (more-none (clock_in es)) fits
step es (clock us) fits = clocked es us fits

none-fit : sums_fit [] ≡ true
unfolding clock_in counts_at tally_of count_fits sum_fits
none-fit = refl

-- where all has fitted, the sums of the history fit
pub along-fits : (es : List Event) → fits_along es ≡ true → sums_fit es ≡ true
unfolding fits_along
along-fits [] h = none-fit
along-fits (e ∷ es) h = right (fits_along es) (sums_fit (e ∷ es)) h

abbrev any-fits : Result Totals TooLarge → Bool
any-fits (Ok total) = true
any-fits (Err e) = false

clash : {A : Type 0} {b : Bool} → b ≡ true → b ≡ false → A
clash {b = true} p q = let z : ◌≡◌ {A = ℕ} 0 1 = cc in absurd (omega arith)
clash {b = false} p q = let z : ◌≡◌ {A = ℕ} 0 1 = cc in absurd (omega arith)

-- sums of which every one has fitted are their totals, and nothing else
whole : (s : Sums) (t : Totals) → so_far s ≡ Ok t → s ≡ record { totals = t; fitted = Ok tt }
whole s t h = go s.fitted refl
  where
    seen : (fitted : Result Unit TooLarge) → s.fitted ≡ fitted → so_far (record { totals = s.totals; fitted = fitted }) ≡ Ok t
    seen fitted is = ap (λ (f : Result Unit TooLarge). so_far (record { totals = s.totals; fitted = f })) (sym is) ∙ h

    go : (fitted : Result Unit TooLarge) → s.fitted ≡ fitted → s ≡ record { totals = t; fitted = Ok tt }
    go (Ok u) is = let same : s.totals ≡ t = ap (kept s.totals) (seen (Ok u) is) in λ i. record { totals = same i; fitted = is i }
    go (Err e) is = clash (ap any-fits (seen (Err e) is)) refl

-- once a total did not fit, it did not, whatever a join comes to
still-wrong : {T : Type 0} (before behind : Totals) (fitted : Result Unit TooLarge) (j : Result T TooLarge)
    → so_far (record { totals = before; fitted = fitted }) ≡ passed → so_far (record { totals = behind; fitted = fitted_with fitted j }) ≡ passed
still-wrong before behind (Ok u) j h = clash refl (ap any-fits h)
still-wrong before behind (Err e) (Ok total) h = refl
still-wrong before behind (Err e) (Err e') h = refl

stays-wrong : (s : Sums) (e : Event) (a : Answer) (d : Device) → so_far s ≡ passed → so_far (sums_after s e a d) ≡ passed
unfolding sums_clocked sums_sampled
stays-wrong s power_up a d h = h
stays-wrong s (write address byte) a d h = h
stays-wrong s (read address n) a d h = h
stays-wrong s (sample x y z temperature) a d h = go (accepted a)
  where
    go : (t : Bool) → so_far (pick t (let stored = stored_in d x y z in sums_sampled s (range_in d) stored.x stored.y stored.z) s) ≡ passed
    go true =
        let v = stored_in d x y z in
        let j = ranges_sampled s.totals.ranges (range_in d) (one_sample v.x v.y v.z) in
        still-wrong s.totals (record { clock = s.totals.clock; ranges = kept s.totals.ranges j }) s.fitted j h
    go false = h
stays-wrong s cycle a d h = h
stays-wrong s (clock us) a d h =
    let j = count_joined s.totals.clock us in
    still-wrong s.totals (record { clock = kept s.totals.clock j; ranges = s.totals.ranges }) s.fitted j h

pub record Exactly (es : List Event) : Type 0 where
  pub right-ones : fits_along es ≡ true → stepped_sums es ≡ exact_sums es
  pub wrong-ones : fits_along es ≡ false → so_far (stepped_sums es) ≡ passed

start-exact : no_sums ≡ exact_sums []
unfolding clock_in counts_at tally_of
start-exact = refl

start-exactly : Exactly []
unfolding stepped_sums fits_along
start-exactly = record { right-ones = λ h. start-exact; wrong-ones = λ h. clash refl h }

module _ (es : List Event) (e : Event) (before : Exactly es) where
  abbrev more : Sums → Sums
  more s = sums_after s e (happens (after es) e).answer (after (e ∷ es))

  more-right : both (fits_along es) (sums_fit (e ∷ es)) ≡ true → more (stepped_sums es) ≡ exact_sums (e ∷ es)
  more-right h =
      let l = left (fits_along es) (sums_fit (e ∷ es)) h in
      let fit : sums_fit (e ∷ es) ≡ true = right (fits_along es) (sums_fit (e ∷ es)) h in
      let is = rw fit at (step es e (along-fits es l)).is in
      ap more (before.right-ones l) ∙ whole (more (exact_sums es)) (exact_totals (e ∷ es)) is

  more-wrong : (t : Bool) → fits_along es ≡ t → both (fits_along es) (sums_fit (e ∷ es)) ≡ false → so_far (more (stepped_sums es)) ≡ passed
  more-wrong true l h =
      let unfit : sums_fit (e ∷ es) ≡ false = ap (λ (b : Bool). both b (sums_fit (e ∷ es))) (sym l) ∙ h in
      ap (λ (s : Sums). so_far (more s)) (before.right-ones l) ∙ rw unfit at (step es e (along-fits es l)).is
  more-wrong false l h = stays-wrong (stepped_sums es) e (happens (after es) e).answer (after (e ∷ es)) (before.wrong-ones l)

  exact-next : Exactly (e ∷ es)
  unfolding stepped_sums fits_along
  exact-next = record { right-ones = more-right; wrong-ones = more-wrong (fits_along es) refl }

pub exactly : (es : List Event) → Exactly es
exactly [] = start-exactly
exactly (e ∷ es) = exact-next es e (exactly es)
