-- A turn: what its run used, what it left, and what follows it.
-- Assumes nothing.
use Prim.Native.Nat.{ℕ, ◌+◌, ◌<◌}
use mathlib.Core.Bool.{Bool, true, false}
use mathlib.Core.List.{List}
use mathlib.Core.Path.{◌≡◌, refl, sym, ap, subst, ◌∙◌}
use native.Mathlib.Omega.{arith}
use lib.ListN.{length, take}
use lib.Seq.{length-take-le, take_at}
use Rattle.std.specs.Prelude.{Some}
use Rattle.benchlog.specs.Writer.{placed}
use Rattle.text.proofs.Texts.{pushed-length}
use Rattle.benchlog.specs.Format.{length_field, longest_body}
use Rattle.benchlog.proofs.Local.{few-undecided}
use Rattle.follow.specs.Follow.{Wait, halted, Running}
use Rattle.follow.specs.Source.{records}
use Rattle.follow.specs.Teller.{Teller, Lawful}
use Rattle.follow.specs.declared.Halt.{Halt}
use Rattle.follow.specs.declared.Halt.TheVariants as halt
use Rattle.follow.proofs.Sources.{records-sound}
use Rattle.follow.proofs.Stream.{waits, used-within}
use Rattle.follow.specs.declared.Ran.{Ran}
use Rattle.window.specs.Window.{Within, unused, at_front, HasRoom}
use Rattle.window.proofs.Places.{unused-few, unused-past, past-within}
use Rattle.stream.specs.declared.State.{State}
use Rattle.stream.specs.declared.How.{How}
use Rattle.stream.specs.declared.How.TheVariants.{On, Stopped, NotRead, NotWritten}
use Rattle.stream.specs.Pump.{ran_over, after_run, ran_to, seeing, is_on, is_wait, how_after, ReadMore, emptied, refilled, MoreReadAs, BehindRun, BehindWrite, TurnedAs}

is-waiting : (n : Halt) → is_wait n ≡ true → n ≡ halt.Wait
is-waiting halt.Wait e = refl
is-waiting halt.Full e = let z : ◌≡◌ {A = ℕ} 0 1 = cc in absurd (omega arith)
is-waiting (halt.Stop refusal) e = let z : ◌≡◌ {A = ℕ} 0 1 = cc in absurd (omega arith)

-- what a run used was there: the window moves on by all of it
pub moves-on : (who : Teller records) (s : State who.State) (buffer : List ℕ) (room : ℕ) → (ran_to who s buffer room).window.from ≡ s.window.from + (ran_over who s buffer room).at
moves-on who s buffer room = omega (arith, used-within records-sound who (unused s.window buffer) s.window.last s.follower room, unused-few s.window buffer)

module _ (who : Teller records) (law : Lawful who) (s : State who.State) (buffer : List ℕ) (room : ℕ) {ran : Ran who.State} {out out' : List ℕ} (within : Within s.window (length buffer)) (is : Running who out (ran_over who s buffer room) out' ran) where
  abbrev next : State who.State
  next = after_run s ran.state ran.used

  -- why it ended
  why-halted : {h : Halt} → ran.halt ≡ h → (ran_over who s buffer room).halt ≡ Some (halted h)
  why-halted e = sym is.halt-is ∙ ap (λ (h : Halt). Some (halted h)) e

  next-is : next ≡ ran_to who s buffer room
  next-is = rw (is.state-is, is.used-is)

  next-within : Within next.window (length buffer)
  next-within = past-within s.window ran.used within

  -- the text stands in the buffer that was lent for it
  pub text-there : ran.to ≡ length (take ran.to out')
  text-there = sym (length-take-le ran.to out' (omega (arith, is.text-is.place, is.text-is.room, pushed-length is.text-is)))

  -- and is all that is handed to the write
  pub text-handed : take ran.to out' ≡ (ran_over who s buffer room).text
  unfolding placed
  text-handed = let long : length (ran_over who s buffer room).text ≡ ran.to = omega (arith, is.text-is.place) in rw is.text-is.bytes (take_at (ran_over who s buffer room).text _ ran.to long)

  -- where it waits, less than a record is left
  little-left : ran.halt ≡ halt.Wait → length (unused next.window buffer) < length_field + longest_body
  little-left e = rw (unused-past s.window ran.used buffer, is.used-is) (few-undecided _ (waits records-sound who law s.follower (unused s.window buffer) s.window.last room (why-halted e)).1)

  turned-further : is_wait ran.halt ≡ false → TurnedAs who (how_after ran.halt) s buffer room next buffer
  turned-further = go ran.halt refl
    where
      go : (n : Halt) → ran.halt ≡ n → is_wait n ≡ false → TurnedAs who (how_after n) s buffer room next buffer
      go halt.Wait e f = let z : ◌≡◌ {A = ℕ} 0 1 = cc in absurd (omega arith)
      go halt.Full e f = (emptied (why-halted e) next-is refl, next-within)
      go (halt.Stop refusal) e f = (why-halted e, next-is)

  turned-by-read : (how : How) (s' : State who.State) (buffer' : List ℕ) → is_wait ran.halt ≡ true → HasRoom next.window buffer → MoreReadAs how next buffer s' buffer' → TurnedAs who how s buffer room s' buffer'
  turned-by-read how s' buffer' w room-left = go how (why-halted (is-waiting ran.halt w))
    where
      go : (h : How) → (ran_over who s buffer room).halt ≡ Some Wait → MoreReadAs h next buffer s' buffer' → TurnedAs who h s buffer room s' buffer'
      go On e r = (refilled e (subst (λ (t : State who.State). ReadMore t buffer s' buffer') next-is r.0), r.1)
      go (Stopped refusal) e r = absurd r
      go NotRead e r = (e, r ∙ ap (λ (t : State who.State). seeing t (at_front t.window buffer)) next-is, subst (λ (t : State who.State). HasRoom t.window buffer) next-is room-left)
      go NotWritten e r = absurd r

  -- by whether the text is written
  pub turned : (whole : Bool) (how : How) (s' : State who.State) (buffer' : List ℕ) → 65536 ≡ length buffer → BehindWrite whole s ran buffer how s' buffer' → TurnedAs who how s buffer room s' buffer'
  turned false how s' buffer' size t = rw t.0 t.1
  turned true how s' buffer' size t = by-wait (is_wait ran.halt) refl t
    where
      by-wait : (w : Bool) → is_wait ran.halt ≡ w → BehindRun w s ran buffer how s' buffer' → TurnedAs who how s buffer room s' buffer'
      by-wait true e t = let l = little-left (is-waiting ran.halt e) in turned-by-read how s' buffer' e (omega (arith, l, size)) t
      by-wait false e t = rw (t.0, t.1, t.2) (turned-further e)

-- where the pump goes on, its turn went so, and the places are within the buffer
pub turned_on : (who : Teller records) (how : How) (s : State who.State) (buffer : List ℕ) (room : ℕ) (s' : State who.State) (buffer' : List ℕ) → is_on how ≡ true → TurnedAs who how s buffer room s' buffer' → TurnedAs who On s buffer room s' buffer'
turned_on who On s buffer room s' buffer' e t = t
turned_on who (Stopped refusal) s buffer room s' buffer' e t = let z : ◌≡◌ {A = ℕ} 0 1 = cc in absurd (omega arith)
turned_on who NotRead s buffer room s' buffer' e t = let z : ◌≡◌ {A = ℕ} 0 1 = cc in absurd (omega arith)
turned_on who NotWritten s buffer room s' buffer' e t = let z : ◌≡◌ {A = ℕ} 0 1 = cc in absurd (omega arith)
