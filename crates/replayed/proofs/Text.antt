-- The replay's lines, letter by letter.
-- Assumes nothing.
use Prim.Native.Nat.{ℕ}
use mathlib.Core.Bool.{Bool, true, false}
use mathlib.Core.List.{List, [], ◌∷◌, ◌++◌, append_assoc, append-nil}
use mathlib.Core.Path.{◌≡◌, refl, sym, ap, ◌∙◌}
use Rattle.device.specs.Show.{pins_of}
use Rattle.events.specs.Event.{Event}
use Rattle.events.specs.Run.{after}
use Rattle.interrupts.specs.declared.Level.{Level}
use Rattle.interrupts.specs.declared.Level.TheVariants.{Low, High, Released}
use Rattle.interrupts.specs.declared.Pins.{Pins}
use Rattle.text.specs.Text.{ascii, decimal, space, newline, behind_space, front, line, line_with_pins, letters, pins_line}
use Rattle.follow.specs.Whole.{joined}
use Rattle.playback.specs.Replay.{line_as}
use Rattle.replayed.specs.Lines.{two_letters, letters_if, bytes_text, line_text, last_line}

-- ---- the pins
letters-are : (p : Pins) → letters p ≡ two_letters p.int1 p.int2 ++ ascii "\n"
letters-are p = go p.int1 p.int2
  where
    go : (a b : Level) → letters (record { int1 = a; int2 = b }) ≡ two_letters a b ++ ascii "\n"
    go Low Low = refl
    go Low High = refl
    go Low Released = refl
    go High Low = refl
    go High High = refl
    go High Released = refl
    go Released Low = refl
    go Released High = refl
    go Released Released = refl

pub last-is : (es : List Event) → pins_line (pins_of (after es)) ≡ last_line es
last-is es = ap (λ (t : List ℕ). ascii "pins" ++ t) (letters-are (pins_of (after es)))

-- ---- a line
bytes-are : (bytes : List ℕ) → behind_space bytes ≡ bytes_text bytes
bytes-are [] = refl
bytes-are (b ∷ bs) = refl

front-is : (n answer : ℕ) (bytes end : List ℕ) → front n answer bytes ++ end ≡ decimal n ++ (ascii " " ++ (decimal answer ++ (bytes_text bytes ++ end)))
front-is n answer bytes end =
    append_assoc (decimal n) (space ∷ (decimal answer ++ behind_space bytes)) end
    ∙ ap (λ (t : List ℕ). decimal n ++ (space ∷ t)) (append_assoc (decimal answer) (behind_space bytes) end ∙ ap (λ (t : List ℕ). decimal answer ++ (t ++ end)) (bytes-are bytes))

pub line-is : (pins : Bool) (n answer : ℕ) (bytes : List ℕ) (es : List Event) → line_as pins n answer bytes (pins_of (after es)) ≡ line_text n answer bytes (letters_if pins es)
unfolding line line_with_pins
line-is true n answer bytes es =
    let p = pins_of (after es) in
    front-is n answer bytes (letters p) ∙ ap (λ (t : List ℕ). decimal n ++ (space ∷ (decimal answer ++ (bytes_text bytes ++ t)))) (letters-are p)
line-is false n answer bytes es = front-is n answer bytes (newline ∷ [])

-- a refusal's line, and the last line
pub refused-is : (pins : Bool) (es : List Event) (n refusal : ℕ)
    → line_as pins n refusal [] (pins_of (after es)) ++ pins_line (pins_of (after es)) ≡ joined (line_text n refusal [] (letters_if pins es) ∷ []) ++ last_line es
refused-is pins es n refusal =
    let l = line_text n refusal [] (letters_if pins es) in
    (λ i. line-is pins n refusal [] es i ++ last-is es i) ∙ ap (λ (t : List ℕ). t ++ last_line es) (sym (append-nil l))
