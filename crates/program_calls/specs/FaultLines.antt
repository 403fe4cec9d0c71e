-- What a program says of the fault of a trace.
use Rattle.std.specs.{Borrow.Bor, Prelude.{ℕ, List, [], ◌∷◌, ◌++◌, codes, decimal}}
use Rattle.trace_reader.specs.{declared.fault.Kind.Kind, declared.fault.TraceFault.TraceFault}
use Rattle.trace_reader.specs.declared.fault.Kind.TheVariants as kind

-- the word for what is wrong with a row of a trace
abbrev pub kind_word : Kind → List ℕ
kind_word kind.Header = codes "header"
kind_word kind.Fields = codes "fields"
kind_word kind.Tick = codes "tick"
kind_word kind.Order = codes "order"
kind_word kind.Op = codes "op"
kind_word kind.Line = codes "line"
kind_word kind.Payload = codes "payload"

-- the line for the fault of a trace: its row, and what is wrong there
unfoldable pub trace_line : TraceFault → List ℕ
trace_line f = codes "trace row " ++ (decimal f.row ++ (codes ": " ++ (kind_word f.kind ++ codes "\n")))

-- texts one after the other
abbrev pub joined : List (Bor (List ℕ)) → List ℕ
joined [] = []
joined (part ∷ parts) = part.now ++ joined parts
