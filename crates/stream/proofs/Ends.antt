-- How a pump came to its end: what it wrote is what is printed of the parts that came, or the beginning of it.
-- Assumes nothing.
use Prim.Native.Nat.{ℕ, suc, ◌+◌}
use mathlib.Core.Bool.{false}
use mathlib.Core.List.{List, [], ◌∷◌, ◌++◌}
use mathlib.Core.Path.{◌≡◌, refl, sym, ap, subst, ◌∙◌}
use native.Mathlib.Omega.{arith}
use lib.ListN.{drop}
use Rattle.follow.specs.Source.{records}
use Rattle.follow.specs.Teller.{Teller, Lawful}
use Rattle.follow.specs.Whole.{joined, printed_from}
use Rattle.window.specs.Window.{unused}
use Rattle.stream.specs.declared.State.{State}
use Rattle.stream.specs.declared.How.{How}
use Rattle.stream.specs.declared.How.TheVariants.{On, Stopped, NotRead, NotWritten}
use Rattle.stream.specs.Pump.{ran_over, is_on, Went, part_in, TurnedAs, TurnsDone, again, ended_at, LastTurn, PumpedAs}
use Rattle.stream.proofs.Blocks.{written-before, written_all, written-with, led-there}

-- turns up to a state, whatever parts and blocks they had
pub record CameTo (who : Teller records) (first : who.State) (n : ℕ) (s : State who.State) (buffer : List ℕ) : Type 0 where
  pub parts : List (List ℕ)
  pub blocks : List (List ℕ)
  pub done : TurnsDone who first n parts blocks s buffer

-- one turn more
pub one_on : {who : Teller records} {first : who.State} (n : ℕ) {s s' : State who.State} {buffer buffer' : List ℕ} (room : ℕ) → CameTo who first n s buffer
    → Went who s buffer room s' buffer' → CameTo who first (n + 1) s' buffer'
one_on {who} {first} n {s} {s'} {buffer} {buffer'} room came went =
    let e : suc n ≡ n + 1 = omega arith in
    let parts = came.parts ++ part_in went in
    let blocks = came.blocks ++ ((ran_over who s buffer room).text ∷ []) in
    record { parts = parts; blocks = blocks; done = subst (λ (m : ℕ). TurnsDone who first m parts blocks s' buffer') e (again room came.done went) }

module _ (who : Teller records) (law : Lawful who) (first : who.State) (n : ℕ) (s : State who.State) (buffer : List ℕ) (room : ℕ) (s' : State who.State) (buffer' : List ℕ) (came : CameTo who first n s buffer) where
  abbrev last_turn : (how : How) → TurnedAs who how s buffer room s' buffer' → LastTurn who first how (ended_at how s')
  last_turn how t = record {
    turns = n;
    parts = came.parts;
    blocks = came.blocks;
    state = s;
    held = buffer;
    room = room;
    state' = s';
    held' = buffer';
    done = came.done;
    turned = t;
    ended_is = refl;
  }

  -- the text of the parts is some blocks, joined, and then what a follower prints of the bytes that it has not come to
  from-here : (blocks : List (List ℕ)) (j j' : who.State) (left rest : List ℕ) → j' ≡ j
      → printed_from who first (joined came.parts ++ rest) ≡ joined blocks ++ printed_from who j (left ++ rest)
      → printed_from who first (joined came.parts ++ rest) ≡ joined blocks ++ printed_from who j' (left ++ rest)
  from-here blocks j j' left rest e p =
      p ∙ ap (λ (l : List ℕ). joined blocks ++ l) (ap (λ (x : who.State). printed_from who x (left ++ rest)) (sym e))

  pub ends : (how : How) → is_on how ≡ false → TurnedAs who how s buffer room s' buffer' → PumpedAs how (printed_from who first) who first (ended_at how s')
  ends On e t = let z : ◌≡◌ {A = ℕ} 0 1 = cc in absurd (omega arith)
  ends (Stopped refusal) e t = record {
    last = last_turn (Stopped refusal) t;
    text = λ rest may. written_all law came.done rest may room t.0;
    led = λ rest may. ap (λ (x : State who.State). x.follower) t.1 ∙ sym (led-there law came.done rest may room t.0);
  }
  ends NotRead e t = record {
    last = last_turn NotRead t;
    left = drop (ran_over who s buffer room).at (unused s.window buffer);
    text = λ rest may. from-here (came.blocks ++ ((ran_over who s buffer room).text ∷ [])) _ _ (drop (ran_over who s buffer room).at (unused s.window buffer)) rest (ap (λ (x : State who.State). x.follower) t.1) (written-with law came.done rest may room t.0);
  }
  ends NotWritten e t = record {
    last = last_turn NotWritten t;
    left = unused s.window buffer;
    text = λ rest may. from-here came.blocks _ _ (unused s.window buffer) rest (ap (λ (x : State who.State). x.follower) t) (written-before law came.done rest may);
  }
