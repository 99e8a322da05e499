use mathlib.Core.Path.{ap, ◌∙◌}
use mir.Syntax.{w64}
use Rattle.std.specs.Array.{IsFirstChunk}
use Rattle.std.specs.Int.{from_be_bytes}
use Rattle.std.proofs.lemmas.Option.{MatchOption-at_some}
use Rattle.sheetfile.proofs.Eight.{eight-joined}
use Rattle.sheetfile.proofs.eight_in.Goals as goal

pub returns : goal.returns
returns c =
    let s = c.args.s.now in
    let first = (MatchOption-at_some _ (λ y. IsFirstChunk s y.now 8) c.unwrap.result c.unwrap.ensures c.first_chunk.ensures.cases).same in
    c.from_be_bytes.ensures ∙ ap (from_be_bytes w64) first ∙ eight-joined s c.requires
