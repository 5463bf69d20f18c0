-- What a line buffer holds. Assumes nothing.
use Rattle.std.specs.Prelude.{ℕ, List, [], ◌∷◌, ◌++◌, take, Result}
use Rattle.lines.specs.declared.buffer.LineBuffer.{LineBuffer}
use Rattle.commands.specs.declared.call.Call.{Call}
use Rattle.commands.specs.declared.call.Bad.{Bad}
use Rattle.commands.specs.Reading.{Parsed}

-- The bytes that a buffer holds.
abbrev pub held : LineBuffer → List ℕ
held b = take b.count b.bytes

-- Bytes pushed one after another leave the first 256 of them.
abbrev pub pushed : List ℕ → List ℕ → List ℕ
pushed bs [] = bs
pushed bs (c ∷ cs) = pushed (take 256 (bs ++ c ∷ [])) cs

-- The first 256 bytes of a line, pushed one after another, are read as the line is.
abbrev pub FrontTells : Type 0
FrontTells = (line : List ℕ) (r : Result Call Bad) → Parsed (pushed [] line) r → Parsed line r
