-- Demand 3 for any chip whose twin gives what a queue of frames gives.
-- Assumes nothing.
use Prim.Native.Nat.{ℕ, ◌+◌, ◌*◌, ◌%◌, ◌/◌, ◌≤◌, ◌<◌}
use mathlib.Core.Bool.{Bool, true, false}
use mathlib.Core.List.{List, [], ◌∷◌, ◌++◌, map, map-append, append-nil, append_assoc}
use mathlib.Core.Path.{◌≡◌, refl, ap, sym, subst, ◌∙◌}
use native.Mathlib.Omega.{arith}
use lib.Dec.{ltb}
use lib.ListN.{length, take}
use borrow.Author.Tests.{eq-eqb, ne_eqb}
use Rattle.laws.specs.Bits.{bit, worth}
use Rattle.laws.specs.Bytes.{first_or_zeros}
use Rattle.fifo.specs.Flat.{flat}
use Rattle.fifo.specs.Ledger as ledger
use Rattle.fifo.specs.Ledger.{Fate, taken, held, lost, fates_by, run, held_in, held_of, taken_of, lost_of}
use Rattle.fifo.specs.Queue.{Queue, frames_reached}
use Rattle.fifo.specs.declared.Drop.{Drop}
use Rattle.fifo.specs.declared.Drop.TheVariants.{Oldest}
use Rattle.fifo.specs.declared.Setting.{Setting}
use Rattle.fifo.proofs.Conserve.{InOrder, none-held, settled-none, in_order, conserved, numbers, any-lost}
use Rattle.fifo.proofs.Meaning.{Framed, framed-empty, framed-pushed, framed-without, first_taken}
use Rattle.demand3.specs.Chip.{Said, cleared, sampled, read_out, nothing, Chip, Twin, onto, since}
use Rattle.demand3.specs.Counts.{begun}
use Rattle.demand3.specs.Demand.{not_lost, Readout, readouts, frames_of, due_bytes, fates, gave, due_status, Demand3}
use Rattle.demand3.proofs.Counts.{begun-reached, held-counted}
use Rattle.demand3.proofs.Lost.{lost-in}
use Rattle.demand3.proofs.Taken.{taken_in}

-- ---- what is asked of a chip and of its twin
abbrev pub is_cleared : Said → Bool
is_cleared cleared = true
is_cleared (sampled f) = false
is_cleared (read_out n) = false
is_cleared nothing = false

-- the FIFO is set up by its clears, a frame has as many bytes as the setting says, and the count has room in bits 6:0
pub record Lawful (c : Chip) : Type 0 where
  pub keeps : (es : List c.Event) (e : c.Event) → is_cleared (c.says es e) ≡ false → c.setting (e ∷ es) ≡ c.setting es
  pub some-deep : (es : List c.Event) → (c.setting es).drops ≡ Oldest → 1 ≤ (c.setting es).depth
  pub small : (es : List c.Event) → (c.setting es).depth < 128
  pub one : (es : List c.Event) → 1 ≤ (c.setting es).size
  pub sized : (es : List c.Event) (e : c.Event) (f : List ℕ) → c.says es e ≡ sampled f → length f ≡ (c.setting es).size

-- what the FIFO holds after a history
abbrev pub queue_of : (c : Chip) → List c.Event → Queue (List ℕ)
queue_of c es = (run (c.setting es) (since c es)).queue

-- the twin gives the bytes of the frames held, and shows their number and the overrun bit
pub record Follows (c : Chip) (t : Twin c) : Type 0 where
  pub reads : (es : List c.Event) (e : c.Event) (n : ℕ) → c.says es e ≡ read_out n → t es 0x3F n ≡ first_or_zeros n (flat (queue_of c es).frames)
  pub shows : (es : List c.Event) → t es 0x0E 1 ≡ (worth 128 (queue_of c es).overrun + length (queue_of c es).frames) ∷ []

-- ---- the frames that readouts take
frames_of-snoc : (rs : List Readout) (r : Readout) → frames_of (rs ++ (r ∷ [])) ≡ frames_of rs ++ r.frames
frames_of-snoc [] r = append-nil r.frames
frames_of-snoc (s ∷ rs) r = rw (frames_of-snoc rs r) (sym (append_assoc s.frames (frames_of rs) r.frames))

frames-out : (s : Setting) → (s.drops ≡ Oldest → 1 ≤ s.depth) → 1 ≤ s.size → (es : List (ledger.Event (List ℕ))) → frames_of (readouts s es) ≡ (run s es).out
unfolding readouts
frames-out s deep one [] = refl
frames-out s deep one (ledger.sample f ∷ es) = frames-out s deep one es
frames-out s deep one (ledger.readout n ∷ es) = frames_of-snoc (readouts s es) _ ∙ rw (frames-out s deep one es, begun-reached s.size one n, (conserved s deep es).frames)

-- ---- fates in order
taken-held : {A : Type 0} (r : Drop) (ms : List (Fate A)) → InOrder r ms → taken_of ms ++ held_of ms ≡ not_lost ms
taken-held r [] o = refl
taken-held r (taken a ∷ ms) o =
    let h : held_of ms ≡ [] = none-held ms o in
    let g : taken_of ms ≡ not_lost ms = sym (append-nil (taken_of ms)) ∙ ap (λ l. taken_of ms ++ l) (sym h) ∙ taken-held r ms (settled-none r ms o) in
    rw (h, append-nil, g)
taken-held r (held a ∷ ms) o = sym (append_assoc (taken_of ms) (held_of ms) (a ∷ [])) ∙ rw (taken-held r ms o)
taken-held r (lost a ∷ ms) o = taken-held r ms o.0

-- ---- bytes of 0x0E
bit-seven : (b : Bool) (n : ℕ) → n < 128 → bit 7 (worth 128 b + n) ≡ b
unfolding bit
bit-seven true n h = eq-eqb ((128 + n) / 128 % 2) 1 (omega arith)
bit-seven false n h = ne_eqb ((0 + n) / 128 % 2) 1 (omega arith)

low_seven : (b : Bool) (n : ℕ) → n < 128 → (worth 128 b + n) % 128 ≡ n
low_seven true n h = omega arith
low_seven false n h = omega arith

-- ---- any events
-- the frames held have the bytes that the setting says
abbrev FramedAt : Setting → List (ledger.Event (List ℕ)) → Type 0
FramedAt s es = Framed (s.depth * s.size) s.depth s.size (run s es).queue

none-framed : (s : Setting) → FramedAt s []
none-framed s = framed-empty (s.depth * s.size) s.depth s.size (omega arith)

re-set : {s s' : Setting} (es : List (ledger.Event (List ℕ))) → s' ≡ s → FramedAt s es → FramedAt s' es
re-set es e = subst (λ (s : Setting). FramedAt s es) (sym e)

framed : (c : Chip) → Lawful c → (es : List c.Event) → FramedAt (c.setting es) (since c es)
unfolding since
framed c law [] = none-framed (c.setting [])
framed c law (e ∷ es) = go (c.says es e) refl (framed c law es)
  where
    go : (w : Said) → c.says es e ≡ w → FramedAt (c.setting es) (since c es) → FramedAt (c.setting (e ∷ es)) (onto w (since c es))
    go cleared q i = none-framed (c.setting (e ∷ es))
    go (sampled f) q i = re-set (ledger.sample f ∷ since c es) (law.keeps es e (rw q)) (framed-pushed (c.setting es) i (law.some-deep es) f (omega arith) (law.sized es e f q))
    go (read_out n) q i = re-set (ledger.readout n ∷ since c es) (law.keeps es e (rw q)) (framed-without (frames_reached (c.setting es).size n) i)
    go nothing q i = re-set (since c es) (law.keeps es e (rw q)) i

module _ (c : Chip) (t : Twin c) (law : Lawful c) (follows : Follows c t) where
  -- the bytes of one readout
  out-given : (es : List c.Event) (e : c.Event) (n : ℕ) → c.says es e ≡ read_out n
      → t es 0x3F n ≡ first_or_zeros n (flat (take (begun (c.setting es).size n) (held_of (fates_by (c.setting es) (since c es)))))
  out-given es e n q =
      let s = c.setting es in
      follows.reads es e n q ∙ first_taken s.size n (queue_of c es).frames (law.one es) (framed c law es).sized
      ∙ rw (begun-reached s.size (law.one es) n, (conserved s (law.some-deep es) (since c es)).frames)

  -- the bytes that the readouts gave
  gives : (es : List c.Event) → gave c t es ≡ map due_bytes (readouts (c.setting es) (since c es))
  unfolding gave since readouts
  gives [] = refl
  gives (e ∷ es) = go (c.says es e) refl (gives es) (out-given es e)
    where
      Gives : List c.Event → Type 0
      Gives es = gave c t es ≡ map due_bytes (readouts (c.setting es) (since c es))

      go : (w : Said) → c.says es e ≡ w → Gives es
          → ((n : ℕ) → c.says es e ≡ read_out n → t es 0x3F n ≡ first_or_zeros n (flat (take (begun (c.setting es).size n) (held_of (fates_by (c.setting es) (since c es))))))
          → Gives (e ∷ es)
      go cleared q i o = rw q
      go (sampled f) q i o = rw (law.keeps es e (rw q), q) i
      go (read_out n) q i o = rw (law.keeps es e (rw q), q, map-append, i, o n q)
      go nothing q i o = rw (law.keeps es e (rw q), q) i

  pub conserves : (es : List c.Event) → Demand3 c t es
  unfolding fates due_status
  conserves es =
      let s = c.setting es in
      let ms = fates_by s (since c es) in
      let deep = law.some-deep es in
      let one = law.one es in
      let g = conserved s deep (since c es) in
      let many : held_in ms ≡ length (held_of ms) = sym g.count ∙ ap length g.frames in
      let few : length (held_of ms) ≤ s.depth = omega (arith, g.few) in
      let small : length (held_of ms) < 128 = omega (arith, law.small es) in
      record {
        each = g.whole;
        numbers = ap length (sym g.whole) ∙ numbers ms ∙ rw many;
        order = taken-held s.drops ms (in_order s deep (since c es));
        taken = λ later earlier f e. rw e (taken_in s deep one earlier f later);
        lost = λ later earlier f e. rw e (lost-in s deep one earlier f later);
        frames = frames-out s deep one (since c es) ∙ g.out;
        out = gives es;
        next = λ e n q. follows.reads es e n q ∙ rw g.frames;
        shown = follows.shows es ∙ rw (g.overrun, any-lost ms, g.frames);
        overrun = bit-seven (ltb 0 (length (lost_of ms))) (length (held_of ms)) small;
        count = low_seven (ltb 0 (length (lost_of ms))) (length (held_of ms)) small;
        counted = sym many ∙ sym (held-counted s deep one (since c es));
        few = few;
      }
