-- What a detector with an alarm sees next: of each event one of five, and while a status is held for a time the clock since its setting is less
-- than that time. Assumes nothing.
use Prim.Native.Nat.{ℕ, ◌+◌, ◌-◌, ◌<◌, ◌≤◌}
use mathlib.Core.Bool.{Bool, true, false, not}
use mathlib.Core.List.{List, [], ◌∷◌, ◌++◌, map}
use mathlib.Core.Path.{◌≡◌, refl, ap, ◌∙◌}
use native.Mathlib.Omega.{arith}
use borrow.Author.Tests.{le-leb, leb-true, leb-false}
use lib.Dec.{leb}
use Rattle.laws.specs.Choice.{pick, both}
use Rattle.laws.specs.Lists.{is_in}
use Rattle.laws.proofs.Finite.{left, right}
use Rattle.events.specs.Event.{Event, power_up, write, read, sample, cycle, clock}
use Rattle.events.specs.Views.{at_clock}
use Rattle.paper.specs.Samples.{Values, brings, microseconds_at}
use Rattle.lookback.specs.Sight.{point, passed}
use Rattle.lookback.specs.Watch.{Watch, Sights, going_by, restarts, point_among, point_at}
use Rattle.lookback.specs.Seen.{is_set_by, since_by, sights_at, seen, is_set, clock_since, expires, sets_at, mark_of, marked}
use Rattle.lookback.proofs.InForce.{in-force-kept, not-anew}

-- one at the most
abbrev pub OneOrNone : {P : Type 0} → List P → Type 0
OneOrNone [] = Unit {0}
OneOrNone (p ∷ []) = Unit {0}
OneOrNone (p ∷ (q ∷ ps)) = ⊥

-- what has to hold of a watch
pub record Lawful (w : Watch) : Type 0 where
  -- a sample gives one point at the most
  pub one : (es : List Event) (v : Values) → OneOrNone (w.point_of es v)
  -- the settings change at restarts only
  pub latches : is_in w.clearing 0x21 ≡ true
  pub kept : (es : List Event) (e : Event) → restarts w es e ≡ false → w.setting (e ∷ es) ≡ w.setting es
  -- no point both clears and sets
  pub apart : (es : List Event) (p : w.Point) (ss : Sights w) → w.clears (w.setting es) (point p ∷ ss) ≡ true → w.sets (w.setting es) (point p ∷ ss) ≡ false

-- an event is a clock, or no clock sees it
pub data Kind (e : Event) : Type 1 where
  ticks : (us : ℕ) → e ≡ clock us → Kind e
  still : ((A : Type 0) (other : A) (f : ℕ → A) → at_clock other f e ≡ other) → Kind e

abbrev pub is_clock : Event → Bool
is_clock e = at_clock false (λ us. true) e

pub kind : (e : Event) → Kind e
kind power_up = still (λ A other f. refl)
kind (write a byte) = still (λ A other f. refl)
kind (read a n) = still (λ A other f. refl)
kind (sample x y z t) = still (λ A other f. refl)
kind cycle = still (λ A other f. refl)
kind (clock us) = ticks us refl

-- what is seen with one event more: nothing any more; the rest of a clock in which the time was reached; a clock more; a point more; or what
-- was seen before
pub data Next (w : Watch) (es : List Event) (e : Event) : Type 0 where
  anew : restarts w es e ≡ true → seen w (e ∷ es) ≡ [] → Next w es e
  rest : (us : ℕ) → e ≡ clock us → restarts w es e ≡ false → expires w es e ≡ true → seen w (e ∷ es) ≡ passed (clock_since w es + us - (going_by w es).time) ∷ [] → Next w es e
  more : (us : ℕ) → e ≡ clock us → restarts w es e ≡ false → expires w es e ≡ false → seen w (e ∷ es) ≡ passed us ∷ seen w es → Next w es e
  one : (p : w.Point) → microseconds_at e ≡ 0 → restarts w es e ≡ false → point_at w es e ≡ p ∷ [] → seen w (e ∷ es) ≡ point p ∷ seen w es → Next w es e
  none : is_clock e ≡ false → microseconds_at e ≡ 0 → restarts w es e ≡ false → point_at w es e ≡ [] → seen w (e ∷ es) ≡ seen w es → Next w es e

module _ (w : Watch) (l : Lawful w) (es : List Event) (e : Event) where
  pub kept : restarts w es e ≡ false → going_by w (e ∷ es) ≡ going_by w es
  unfolding going_by
  kept r = rw (l.kept es e r, in-force-kept w.clearing es e r 0x21 l.latches)

  pub one_at : OneOrNone (point_at w es e)
  unfolding point_at
  one_at = go (brings es e)
    where
      go : (vs : List Values) → OneOrNone (point_among w es vs)
      go [] = tt
      go (v ∷ vs) = l.one es v

  -- what an expiry takes
  pub expiry-when : expires w es e ≡ true → (is_set w es ≡ true) × (1 ≤ (going_by w es).time) × ((going_by w es).time ≤ clock_since w es + microseconds_at e)
  unfolding expires
  expiry-when h =
      let t = (going_by w es).time in
      let c : Bool = both (leb 1 t) (leb t (clock_since w es + microseconds_at e)) in
      let r = right (is_set w es) c h in (
        left (is_set w es) c h,
        leb-true 1 t (left (leb 1 t) (leb t (clock_since w es + microseconds_at e)) r),
        leb-true t (clock_since w es + microseconds_at e) (right (leb 1 t) (leb t (clock_since w es + microseconds_at e)) r),
      )

  pub expiry-not : expires w es e ≡ false → is_set w es ≡ true → 1 ≤ (going_by w es).time → clock_since w es + microseconds_at e < (going_by w es).time
  unfolding expires
  expiry-not h t k = leb-false (going_by w es).time (clock_since w es + microseconds_at e) (rw (t, le-leb 1 (going_by w es).time k) at h)

  seen-restarted : restarts w es e ≡ true → seen w (e ∷ es) ≡ []
  unfolding seen
  seen-restarted r = rw r

  pub seen-expired : (us : ℕ) → e ≡ clock us → restarts w es e ≡ false → expires w es e ≡ true → seen w (e ∷ es) ≡ passed (clock_since w es + us - (going_by w es).time) ∷ []
  unfolding seen expires
  seen-expired us is r x = rw (r, x) (ap (λ (n : ℕ). passed (clock_since w es + n - (going_by w es).time) ∷ []) (ap microseconds_at is))

  seen-kept : restarts w es e ≡ false → expires w es e ≡ false → seen w (e ∷ es) ≡ sights_at w es e ++ seen w es
  unfolding seen expires
  seen-kept r x = rw (r, x)

-- ---- while a status is held for a time, the clock since its setting is less than that time
module _ (w : Watch) (l : Lawful w) where
  abbrev Below : List Event → Type 0
  Below es = is_set w es ≡ true → 1 ≤ (going_by w es).time → clock_since w es < (going_by w es).time

  module _ (es : List Event) (e : Event) (b : Below es) where
    -- so where no time passes, nothing expires
    lasts : microseconds_at e ≡ 0 → expires w es e ≡ false
    lasts n = go (expires w es e) refl
      where
        go : (x : Bool) → expires w es e ≡ x → x ≡ false
        go true h = let k = expiry-when w l es e h in let c = b k.0 k.1 in absurd (omega (arith, k.2, n))
        go false h = refl

    next-by : Next w es e
    next-by = go (kind e) (restarts w es e) refl (expires w es e) refl
      where
        sees : is_clock e ≡ false → microseconds_at e ≡ 0 → sights_at w es e ≡ map point (point_at w es e) → restarts w es e ≡ false
            → (q : List w.Point) → OneOrNone q → point_at w es e ≡ q → Next w es e
        sees c n s r [] o f = none c n r f (seen-kept w l es e r (lasts n) ∙ rw (s, f))
        sees c n s r (p ∷ []) o f = one p n r f (seen-kept w l es e r (lasts n) ∙ rw (s, f))
        sees c n s r (p ∷ (q ∷ ps)) o f = absurd o

        go : Kind e → (r : Bool) → restarts w es e ≡ r → (x : Bool) → expires w es e ≡ x → Next w es e
        go k true r x f = anew r (seen-restarted w l es e r)
        go (ticks us is) false r true f = rest us is r f (seen-expired w l es e us is r f)
        go (ticks us is) false r false f = more us is r f (seen-kept w l es e r f ∙ ap (λ (s : Sights w). s ++ seen w es) (ap (sights_at w es) is))
        go (still s) false r x f =
            sees (s Bool false (λ us. true)) (s ℕ 0 (λ us. us)) (s (Sights w) (map point (point_at w es e)) (λ us. passed us ∷ [])) r (point_at w es e) (one_at w l es e) refl

    below_next : Next w es e → Below (e ∷ es)
    unfolding is_set_by since_by
    below_next (anew r s) = rw s (λ t h. let z : ◌≡◌ {A = ℕ} 0 1 = cc in absurd (omega arith))
    below_next (rest us is r x s) = rw s (λ t h. let z : ◌≡◌ {A = ℕ} 0 1 = cc in absurd (omega arith))
    below_next (more us is r x s) = rw (kept w l es e r, s) (λ t h. let n = expiry-not w l es e x t h in omega (arith, ap microseconds_at is))
    below_next (one p n r f s) = rw (kept w l es e r, s) (λ t h. rw t (go (is_set w es) refl h))
      where
        go : (t : Bool) → is_set w es ≡ t → 1 ≤ (going_by w es).time → pick (both (not t) true) 0 (clock_since w es) < (going_by w es).time
        go true f h = b f h
        go false f h = h
    below_next (none c n r f s) = rw (kept w l es e r, s) b

  pub below : (es : List Event) → is_set w es ≡ true → 1 ≤ (going_by w es).time → clock_since w es < (going_by w es).time
  unfolding seen is_set_by
  below [] = λ t h. let z : ◌≡◌ {A = ℕ} 0 1 = cc in absurd (omega arith)
  below (e ∷ es) = below_next es e (below es) (next-by es e (below es))

  pub next : (es : List Event) (e : Event) → Next w es e
  next es e = next-by es e (below es)

  -- where no time passes, nothing expires
  pub still-lasts : (es : List Event) (e : Event) → microseconds_at e ≡ 0 → expires w es e ≡ false
  still-lasts es e = lasts es e (below es)

-- ---- what is shown next
module _ (w : Watch) (l : Lawful w) (es : List Event) (e : Event) where
  pub restart-clears : restarts w es e ≡ true → is_set w (e ∷ es) ≡ false
  unfolding is_set_by
  restart-clears r = rw (seen-restarted w l es e r)

  pub expiry-clears : expires w es e ≡ true → is_set w (e ∷ es) ≡ false
  unfolding is_set_by
  expiry-clears x = go (next w l es e)
    where
      stays : expires w es e ≡ false → is_set w (e ∷ es) ≡ false
      stays f = let z : ◌≡◌ {A = ℕ} 0 1 = cc in absurd (omega arith)

      go : Next w es e → is_set w (e ∷ es) ≡ false
      go (anew r s) = rw s
      go (rest us is r x s) = rw s
      go (more us is r f s) = stays f
      go (one p n r f s) = stays (still-lasts w l es e n)
      go (none c n r f s) = stays (still-lasts w l es e n)

  -- what is marked next, where ss are the sights
  pub marked_next : restarts w es e ≡ false → (ss : Sights w) → seen w (e ∷ es) ≡ ss
      → marked w (e ∷ es) ≡ pick (both (not (is_set w es)) (is_set_by w (going_by w es) ss)) (mark_of w (point_at w es e)) (marked w es)
  unfolding marked sets_at
  marked_next r ss s = rw (not-anew w.clearing es e r, kept w l es e r, s)
