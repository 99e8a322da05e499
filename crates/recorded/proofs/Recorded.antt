-- What holds of the events of any records.
-- Assumes nothing.
use Prim.Native.Nat.{ℕ}
use mathlib.Core.List.{List, [], ◌∷◌, ◌++◌, map, append_assoc}
use mathlib.Core.Path.{◌≡◌, refl, ap, sym, ◌∙◌}
use Rattle.events.specs.Event.{Event, clock}
use Rattle.events.specs.Run.{next, after}
use Rattle.recorded.specs.Recorded.{Recorded, events_in, events_of, before_own, waited, at_own}

-- those of earlier and later records
pub events-append : (later earlier : List Recorded) → events_of (later ++ earlier) ≡ events_of later ++ events_of earlier
events-append [] earlier = refl
events-append (r ∷ later) earlier =
    ap (λ es. events_in r ++ es) (events-append later earlier) ∙ sym (append_assoc (events_in r) (events_of later) (events_of earlier))

-- what a clock leaves as it is, a record's clocks leave as it is
module _ {A : Type 0} (f : List Event → A) (waits : (us : ℕ) (es : List Event) → f (clock us ∷ es) ≡ f es) where
  behind-clocks : (clocks : List ℕ) (es : List Event) → f (map clock clocks ++ es) ≡ f es
  behind-clocks [] es = refl
  behind-clocks (us ∷ clocks) es = waits us (map clock clocks ++ es) ∙ behind-clocks clocks es

  pub till-own : (r : Recorded) (rs : List Recorded) → f (before_own r rs) ≡ f (events_of rs)
  till-own r rs = behind-clocks r.clocks (events_of rs)

-- after a history the device is at a record's own event
clocks-pass : (clocks : List ℕ) (es : List Event) → waited (after es) clocks ≡ after (map clock clocks ++ es)
unfolding after
clocks-pass [] es = refl
clocks-pass (us ∷ clocks) es = ap (λ d. next d (clock us)) (clocks-pass clocks es)

pub at_own_lem : (r : Recorded) (rs : List Recorded) → at_own (after (events_of rs)) r ≡ after (before_own r rs)
at_own_lem r rs = clocks-pass r.clocks (events_of rs)
