-- Demand 3, over any frame, depth, drop rule and frame size: what the FIFO holds, gave out and reports is what the ledger of the history says.
-- Assumes nothing.
use Prim.Native.Nat.{ℕ, zero, suc, ◌+◌, ◌-◌, ◌≤◌}
use mathlib.Core.Path.{◌≡◌, refl, ap, sym, ◌∙◌}
use mathlib.Core.List.{List, [], ◌∷◌, ◌++◌, append-nil, append_assoc}
use mathlib.Core.Bool.{Bool, true, false}
use native.Mathlib.Omega.{arith}
use lib.ListN.{length, take, drop, length-append, drop_of_length-le}
use lib.Seq.{take_all, take-append-le, drop-append-le, take-nil, drop-nil}
use lib.Dec.{ltb}
use borrow.Author.Tests.{ltb-true, ltb-false, lt-ltb}
use Rattle.laws.specs.Choice.{pick}
use Rattle.fifo.specs.declared.Drop.{Drop}
use Rattle.fifo.specs.declared.Drop.TheVariants.{Newcomer, Oldest}
use Rattle.fifo.specs.declared.Setting.{Setting}
use Rattle.fifo.specs.Queue.{Queue, frames_reached, pushed, without}
use Rattle.fifo.specs.Ledger.{Event, sample, readout, Fate, taken, held, lost, held_in, passed, arrives, takes, held_of, taken_of, lost_of, any_lost, all_of, accepted_samples, fates_by, run}

-- no held sample is older than a taken one and, where the oldest is dropped, than a lost one
abbrev pub InOrder : {A : Type 0} → Drop → List (Fate A) → Type 0
InOrder r [] = Unit
InOrder r (taken a ∷ ms) = held_in ms ≡ 0
InOrder r (held a ∷ ms) = InOrder r ms
InOrder r (lost a ∷ ms) = InOrder r ms × (r ≡ Oldest → held_in ms ≡ 0)

module _ {A : Type 0} where
  length-held : (ms : List (Fate A)) → length (held_of ms) ≡ held_in ms
  length-held [] = refl
  length-held (taken a ∷ ms) = length-held ms
  length-held (held a ∷ ms) = omega (arith, length-append (held_of ms) (a ∷ []), length-held ms)
  length-held (lost a ∷ ms) = length-held ms

  pub none-held : (ms : List (Fate A)) → held_in ms ≡ 0 → held_of ms ≡ []
  none-held [] e = refl
  none-held (taken a ∷ ms) e = none-held ms e
  none-held (held a ∷ ms) e = absurd (omega arith)
  none-held (lost a ∷ ms) e = none-held ms e

  pub settled-none : (r : Drop) (ms : List (Fate A)) → held_in ms ≡ 0 → InOrder r ms
  settled-none r [] e = tt
  settled-none r (taken a ∷ ms) e = e
  settled-none r (held a ∷ ms) e = absurd (omega arith)
  settled-none r (lost a ∷ ms) e = (settled-none r ms e, λ o. e)

  -- ---- a readout that reaches k frames
  record Read (r : Drop) (k : ℕ) (ms ns : List (Fate A)) : Type 0 where
    whole : all_of ns ≡ all_of ms
    frames : held_of ns ≡ drop k (held_of ms)
    out : taken_of ns ≡ taken_of ms ++ take k (held_of ms)
    over : any_lost ns ≡ any_lost ms
    count : held_in ns ≡ held_in ms - k
    order : InOrder r ns

  -- one more fate of a kind
  snoc : {x y : List A} (a : A) → x ≡ y → x ++ (a ∷ []) ≡ y ++ (a ∷ [])
  snoc a e = rw e

  read_all : (r : Drop) (k : ℕ) (ms : List (Fate A)) → InOrder r ms → Read r k ms (takes k ms)
  read_all r k [] s = record { whole = refl; frames = sym (drop-nil k); out = sym (take-nil k); over = refl; count = omega arith; order = tt }
  read_all r k (taken a ∷ ms) s =
      let g = read_all r k ms (settled-none r ms s) in
      let t : take k (held_of ms) ≡ [] = rw (none-held ms s) (take-nil k) in
      record {
        whole = snoc a g.whole;
        frames = g.frames;
        out = simp (g.out, t, append-nil);
        over = g.over;
        count = g.count;
        order = omega (arith, g.count);
      }
  read_all r k (held a ∷ ms) s = go (ltb (held_in ms) k) refl (read_all r k ms s)
    where
      go : (b : Bool) → ltb (held_in ms) k ≡ b → Read r k ms (takes k ms) → Read r k (held a ∷ ms) (pick b (taken a) (held a) ∷ takes k ms)
      go true e g =
          let few : length (held_of ms) ≤ k = omega (arith, ltb-true, length-held ms) in
          let all : length (held_of ms ++ (a ∷ [])) ≤ k = omega (arith, ltb-true, length-held ms, length-append (held_of ms) (a ∷ [])) in
          record {
            whole = snoc a g.whole;
            frames = g.frames ∙ drop_of_length-le (held_of ms) {i = k} few ∙ sym (drop_of_length-le (held_of ms ++ (a ∷ [])) {i = k} all);
            out = simp (g.out, take_all k (held_of ms) few, take_all k (held_of ms ++ (a ∷ [])) all, append_assoc);
            over = g.over;
            count = omega (arith, ltb-true, g.count);
            order = omega (arith, ltb-true, g.count);
          }
      go false e g = record {
        whole = snoc a g.whole;
        frames = snoc a g.frames ∙ sym (drop-append-le k (held_of ms) (a ∷ []) (omega (arith, ltb-false, length-held ms)));
        out = g.out ∙ rw (take-append-le k (held_of ms) (a ∷ []) (omega (arith, ltb-false, length-held ms)));
        over = g.over;
        count = omega (arith, ltb-false, g.count);
        order = g.order;
      }
  read_all r k (lost a ∷ ms) s =
      let g = read_all r k ms s.0 in
      record {
        whole = snoc a g.whole;
        frames = g.frames;
        out = g.out;
        over = refl;
        count = g.count;
        order = (g.order, λ o. omega (arith, g.count, s.1 o));
      }

  -- ---- a sample passes the one that came n before it
  passed_none : (n : ℕ) (ms : List (Fate A)) → held_in ms ≡ 0 → passed n ms ≡ ms
  passed_none n [] e = refl
  passed_none zero (taken a ∷ ms) e = refl
  passed_none zero (held a ∷ ms) e = absurd (omega arith)
  passed_none zero (lost a ∷ ms) e = refl
  passed_none (suc n) (taken a ∷ ms) e = rw (passed_none n ms e)
  passed_none (suc n) (held a ∷ ms) e = absurd (omega arith)
  passed_none (suc n) (lost a ∷ ms) e = rw (passed_none n ms e)

  -- with at most n held, that one is not held
  passed-few : (n : ℕ) (ms : List (Fate A)) → InOrder Oldest ms → held_in ms ≤ n → passed n ms ≡ ms
  passed-few n [] s h = refl
  passed-few zero (held a ∷ ms) s h = absurd (omega arith)
  passed-few (suc n) (held a ∷ ms) s h = rw (passed-few n ms s (omega arith))
  passed-few n (taken a ∷ ms) s h = passed_none n (taken a ∷ ms) s
  passed-few n (lost a ∷ ms) s h = passed_none n (lost a ∷ ms) (s.1 refl)

  -- with n + 1 held, it is the oldest held
  record Passed (n : ℕ) (ms ns : List (Fate A)) : Type 0 where
    whole : all_of ns ≡ all_of ms
    frames : held_of ns ≡ drop 1 (held_of ms)
    out : taken_of ns ≡ taken_of ms
    over : any_lost ns ≡ true
    count : held_in ns ≡ n
    order : InOrder Oldest ns

  passed-full : (n : ℕ) (ms : List (Fate A)) → InOrder Oldest ms → held_in ms ≡ suc n → Passed n ms (passed n ms)
  passed-full n [] s h = absurd (omega arith)
  passed-full n (taken a ∷ ms) s h = absurd (omega arith)
  passed-full n (lost a ∷ ms) s h = absurd (omega (arith, s.1 refl))
  passed-full zero (held a ∷ ms) s h =
      let e : held_in ms ≡ 0 = omega arith in
      record { whole = refl; frames = rw (none-held ms e); out = refl; over = refl; count = e; order = (s, λ o. e) }
  passed-full (suc n) (held a ∷ ms) s h =
      let g = passed-full n ms s (omega arith) in
      record {
        whole = snoc a g.whole;
        frames = snoc a g.frames ∙ sym (drop-append-le 1 (held_of ms) (a ∷ []) (omega (arith, length-held ms)));
        out = g.out;
        over = g.over;
        count = ap suc g.count;
        order = g.order;
      }

-- ---- the FIFO and the fates agree
record Sound {A : Type 0} (r : Drop) (d : ℕ) (q : Queue A) (o all : List A) (ms : List (Fate A)) : Type 0 where
  whole : all_of ms ≡ all
  frames : q.frames ≡ held_of ms
  out : o ≡ taken_of ms
  overrun : q.overrun ≡ any_lost ms
  few : held_in ms ≤ d
  order : InOrder r ms

module _ {A : Type 0} {q : Queue A} {o all : List A} {ms : List (Fate A)} where
  count_held : {r : Drop} {d : ℕ} → Sound r d q o all ms → length q.frames ≡ held_in ms
  count_held g = ap length g.frames ∙ length-held ms

  sound-takes : {r : Drop} {d : ℕ} (k : ℕ) → Sound r d q o all ms → Sound r d (without k q) (o ++ take k q.frames) all (takes k ms)
  sound-takes {r} k g =
      let h = read_all r k ms g.order in
      record {
        whole = h.whole ∙ g.whole;
        frames = rw g.frames (sym h.frames);
        out = rw (g.out, g.frames) (sym h.out);
        overrun = g.overrun ∙ sym h.over;
        few = omega (arith, h.count);
        order = h.order;
      }

  sound-arrives : (r : Drop) (d size : ℕ) (a : A) → (r ≡ Oldest → 1 ≤ d) → Sound r d q o all ms
      → Sound r d (pushed (record { depth = d; drops = r; size = size }) q a) o (all ++ (a ∷ [])) (arrives r d a ms)
  sound-arrives Newcomer d size a some g = go (ltb (held_in ms) d) refl
    where
      go : (b : Bool) → ltb (held_in ms) d ≡ b → Sound Newcomer d (pushed (record { depth = d; drops = Newcomer; size = size }) q a) o (all ++ (a ∷ [])) (arrives Newcomer d a ms)
      go true e = rw (count_held g, e) record {
        whole = snoc a g.whole;
        frames = snoc a g.frames;
        out = g.out;
        overrun = g.overrun;
        few = omega (arith, ltb-true);
        order = g.order;
      }
      go false e = rw (count_held g, e) record {
        whole = snoc a g.whole;
        frames = g.frames;
        out = g.out;
        overrun = refl;
        few = g.few;
        order = (g.order, λ o. let z : ◌≡◌ {A = ℕ} 0 1 = cc in omega arith);
      }
  sound-arrives Oldest zero size a some g = absurd (omega (arith, some refl))
  sound-arrives Oldest (suc n) size a some g = go (ltb (held_in ms) (suc n)) refl
    where
      go : (b : Bool) → ltb (held_in ms) (suc n) ≡ b → Sound Oldest (suc n) (pushed (record { depth = suc n; drops = Oldest; size = size }) q a) o (all ++ (a ∷ [])) (held a ∷ passed n ms)
      go true e = rw (count_held g, e, passed-few n ms g.order (omega (arith, ltb-true))) record {
        whole = snoc a g.whole;
        frames = snoc a g.frames;
        out = g.out;
        overrun = g.overrun;
        few = omega (arith, ltb-true);
        order = g.order;
      }
      go false e =
          let h = passed-full n ms g.order (omega (arith, ltb-false, g.few)) in
          rw (count_held g, e) record {
            whole = snoc a (h.whole ∙ g.whole);
            frames = rw (g.frames, h.frames);
            out = g.out ∙ sym h.out;
            overrun = sym h.over;
            few = omega (arith, h.count);
            order = h.order;
          }

-- ---- every sequence of events since the last clear, the latest first
pub record Conserved {A : Type 0} (s : Setting) (es : List (Event A)) : Type 0 where
  -- the ledger has the accepted samples, each once, in order
  pub whole : all_of (fates_by s es) ≡ accepted_samples es
  -- the FIFO holds those that are held, and gave out those that are taken
  pub frames : (run s es).queue.frames ≡ held_of (fates_by s es)
  pub out : (run s es).out ≡ taken_of (fates_by s es)
  -- overrun is set where one is lost
  pub overrun : (run s es).queue.overrun ≡ any_lost (fates_by s es)
  pub few : held_in (fates_by s es) ≤ s.depth
  pub count : length (run s es).queue.frames ≡ held_in (fates_by s es)

module _ {A : Type 0} (s : Setting) (some : s.drops ≡ Oldest → 1 ≤ s.depth) where
  sound : (es : List (Event A)) → Sound s.drops s.depth (run s es).queue (run s es).out (accepted_samples es) (fates_by s es)
  sound [] = record { whole = refl; frames = refl; out = refl; overrun = refl; few = omega arith; order = tt }
  sound (sample a ∷ es) = sound-arrives s.drops s.depth s.size a some (sound es)
  sound (readout n ∷ es) = sound-takes (frames_reached s.size n) (sound es)

  pub in_order : (es : List (Event A)) → InOrder s.drops (fates_by s es)
  in_order es = (sound es).order

  pub conserved : (es : List (Event A)) → Conserved s es
  conserved es =
      let g = sound es in
      record { whole = g.whole; frames = g.frames; out = g.out; overrun = g.overrun; few = g.few; count = count_held g }

-- ---- the numbers add up
module _ {A : Type 0} where
  pub numbers : (ms : List (Fate A)) → length (all_of ms) ≡ length (taken_of ms) + held_in ms + length (lost_of ms)
  numbers [] = refl
  numbers (taken a ∷ ms) = omega (arith, numbers ms, length-append (all_of ms) (a ∷ []), length-append (taken_of ms) (a ∷ []))
  numbers (held a ∷ ms) = omega (arith, numbers ms, length-append (all_of ms) (a ∷ []))
  numbers (lost a ∷ ms) = omega (arith, numbers ms, length-append (all_of ms) (a ∷ []), length-append (lost_of ms) (a ∷ []))

  pub any-lost : (ms : List (Fate A)) → any_lost ms ≡ ltb 0 (length (lost_of ms))
  any-lost [] = refl
  any-lost (taken a ∷ ms) = any-lost ms
  any-lost (held a ∷ ms) = any-lost ms
  any-lost (lost a ∷ ms) = sym (lt-ltb 0 (length (lost_of ms ++ (a ∷ []))) (omega (arith, length-append (lost_of ms) (a ∷ []))))
