use Prim.Native.Nat.{ℕ, ◌+◌, ◌<◌}
use mathlib.Core.List.{List, ◌∷◌}
use mathlib.Core.Path.{◌≡◌, sym, ap, ◌∙◌}
use native.Mathlib.Numerals.{add-one}
use native.Mathlib.Omega.{arith}
use lib.ListN.{length, drop, get_or}
use lib.Seq.{drop-cons}
use Rattle.std.proofs.lemmas.List.{drop_all}
use Rattle.arguments.specs.Words.{number_of}
use Rattle.arguments.proofs.Digits.{number_left, number-done, digit-more, digit-none}
use Rattle.arguments.proofs.number_of.Goals as goal

-- what is left where a turn of the loop begins
left_is : (word : List ℕ) (n i : ℕ) → number_of word ≡ number_left n (drop i word) → i < length word
    → number_of word ≡ number_left n (get_or word i 0 ∷ drop (i + 1) word)
left_is word n i e h = e ∙ rw (add-one i, drop-cons word i 0 h)

pub returns-in_err-n : goal.returns-in_err-n
returns-in_err-n c =
    let l = c.loop-c in
    let word = c.args.word.now in
    c.from_residual.ensures
    ∙ sym (left_is word l.n l.c-index l.invariant.2 c.loop-c-test.true ∙ digit-none _ _ (drop (l.c-index + 1) word) (sym c.with_digit.ensures ∙ c.in_err-n.was))

pub loop-c-preserved : goal.loop-c-preserved
loop-c-preserved c =
    let l = c.loop-c in
    let word = c.args.word.now in
    let m = digit-more _ _ (drop (l.c-index + 1) word) (sym c.with_digit.ensures ∙ c.in_ok-n.was) in
    (omega arith, m.1, left_is word l.n l.c-index l.invariant.2 c.loop-c-test.true ∙ m.0)

pub returns : goal.returns
returns c =
    let l = c.loop-c in
    sym (l.invariant.2 ∙ ap (number_left l.n) (drop_all l.c-index c.args.word.now c.loop-c-test.false) ∙ number-done l.n l.invariant.1)
